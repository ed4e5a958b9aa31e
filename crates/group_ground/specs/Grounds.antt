-- What groups begin with, and what their beginning gives.
use Rattle.std.specs.Prelude.{◌≡◌, ℕ, ◌*◌, ◌<◌, ◌≤◌, List, length, option_map, Result, Ok, Err}
use Rattle.std.specs.Rc.{rc_value}
use Rattle.layer_mean.specs.Tree.{LayerTree}
use Rattle.stack_mean.specs.Acceptance.{most_rows, rows_of}
use Rattle.stack_mean.specs.Plans.{plans_of}
use Rattle.run_mean.specs.World.{first_world}
use Rattle.script_mean.specs.declared.script.GroupLine.{GroupLine}
use Rattle.bypass_laws.specs.Making.{IsSound}
use Rattle.group_member.specs.Serving.{AreCodes}
use Rattle.group_member.specs.declared.error.OpenError.{OpenError}
use Rattle.group_member.specs.declared.error.OpenError.TheVariants.{TooLarge, Memory}
use Rattle.group_feed.specs.Standing.{Peopled, Stands}
use Rattle.group_open.specs.declared.run.Parts.{Parts}
use Rattle.live_layer.specs.Making.{making}
use Rattle.stack_shapes.specs.Starts.{starts_of, starts_tree}
use Rattle.stack_shapes.specs.Shapes.{short_shapes}
use Rattle.stack_shapes.specs.Trees.{plans_tree}

-- What is kept of a stack is its own: a maker of its layers, its plans, the shapes of its entries, the numbers of their
-- first plans, and the code of its bypasses. Each group that began had at most 32 members with 24 layers.
pub record IsGround (stack : List LayerTree) (p : Parts) (begun : ℕ) : Type 0 where
  pub sound : IsSound stack
  pub places : length stack ≤ 24
  pub same : (making p.maker).stack ≡ stack
  pub plans_are : plans_tree (rc_value p.plans) ≡ plans_of stack
  pub entries_are : rc_value p.entries ≡ short_shapes stack (plans_of stack)
  pub starts_are : starts_tree p.starts ≡ starts_of stack
  pub codes_are : AreCodes stack (option_map rc_value p.codes)
  pub made : (making p.maker).made ≤ begun * 768
  pub few : begun ≤ 1099511627776

-- A group is where the members of a line begin, with its number and its stamp, and they have room.
pub record HasBegun (stack : List LayerTree) (line : GroupLine) (c : Peopled) : Type 0 where
  pub stack_is : c.stack ≡ stack
  pub plans_are : c.plans ≡ plans_of stack
  pub world : Stands c (first_world stack line.group line.stamp line.members)
  pub count : length c.members ≡ line.members
  pub room : rows_of stack line.members ≤ most_rows

-- It begins, or its members would keep too many rows, or memory ran out.
abbrev pub Begins : List LayerTree → GroupLine → Result Peopled OpenError → Type 0
Begins stack line (Ok c) = HasBegun stack line c
Begins stack line (Err TooLarge) = most_rows < rows_of stack line.members
Begins stack line (Err Memory) = Unit {0}
