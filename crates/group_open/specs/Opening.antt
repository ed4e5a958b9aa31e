-- What opening a group yields.
use Rattle.std.specs.Prelude.{◌≡◌, ℕ, ◌<◌, List, Option, option_map, Result, Ok, Err}
use Rattle.std.specs.Rc.{rc_value}
use Rattle.code_table.specs.Codes.{CodesTree}
use Rattle.bypass_laws.specs.Making.{IsSound}
use Rattle.group_member.specs.Modes.{mode_with}
use Rattle.group_member.specs.Serving.{AreCodes, AreCodesOf}
use Rattle.chain_laws.specs.Runs.{TypedStack}
use Rattle.run_mean.specs.Mode.{Mode, layered, bypass}
use Rattle.layer_mean.specs.Tree.{LayerTree}
use Rattle.stack_mean.specs.Acceptance.{rows_of, largest_weight, most_rows}
use Rattle.stack_mean.specs.Plans.{plans_of}
use Rattle.stack_judge.specs.Answer.{stack_tree}
use Rattle.stack_shapes.specs.Trees.{plans_tree}
use Rattle.stack_shapes.specs.Shapes.{short_shapes}
use Rattle.stack_shapes.specs.Starts.{starts_of, starts_tree}
use Rattle.live_layer.specs.Making.{making}
use Rattle.miss_laws.specs.Asked.{AllAsked}
use Rattle.miss_laws.specs.Told.{AreChecksOf}
use Rattle.group_mean.specs.Room.{HasRoom}
use Rattle.group_feed.specs.Beginning.{IsAtFirst}
use Rattle.group_member.specs.declared.error.OpenError.{OpenError}
use Rattle.group_member.specs.declared.error.OpenError.TheVariants.{TooLarge, Memory}
use Rattle.group_open.specs.declared.run.Opened.{Opened}
use Rattle.group_open.specs.declared.run.Drawn.{Drawn}
use Rattle.group_open.specs.declared.run.Parts.{Parts}

-- A stack can be run in a mode: it is typed, and where its bypasses are to be made it is sound.
abbrev pub CanRun : Mode → List LayerTree → Type 0
CanRun layered stack = TypedStack stack
CanRun bypass stack = IsSound stack

-- The code by which members run a stack in a mode: that of its bypasses, or none.
pub record CodesFor (mode : Mode) (stack : List LayerTree) (codes : Option CodesTree) : Type 0 where
  pub mode_is : mode_with codes ≡ mode
  pub codes_are : AreCodes stack codes

-- A stack that is drawn: its plans, what is predicted of its entries, the numbers of their first plans, and a maker
-- that made no layer yet.
pub record IsDrawn (stack : List LayerTree) (d : Drawn) : Type 0 where
  pub maker : making d.maker ≡ record { stack = stack; made = 0 }
  pub stack_is : stack_tree d.stack ≡ stack
  pub plans_are : plans_tree d.shapes.plans ≡ plans_of stack
  pub entries_are : d.shapes.entries ≡ short_shapes stack (plans_of stack)
  pub starts_are : starts_tree d.shapes.starts ≡ starts_of stack

-- What a run over a stack in a mode is made of: its plans, what is predicted of its entries, the numbers of their first
-- plans, the code by which its members run, room for its outputs, and a maker that made no layer yet.
pub record IsPrepared (mode : Mode) (stack : List LayerTree) (p : Parts) : Type 0 where
  pub maker : making p.maker ≡ record { stack = stack; made = 0 }
  pub stack_is : stack_tree p.stack ≡ stack
  pub plans_are : plans_tree (rc_value p.plans) ≡ plans_of stack
  pub entries_are : rc_value p.entries ≡ short_shapes stack (plans_of stack)
  pub starts_are : starts_tree p.starts ≡ starts_of stack
  pub codes_are : CodesFor mode stack (option_map rc_value p.codes)
  pub places : p.outputs.places ≡ largest_weight stack

-- These parts are made of a stack that is drawn and of this code.
pub record ArePartsOf (d : Drawn) (codes : Option CodesTree) (p : Parts) : Type 0 where
  pub maker : making p.maker ≡ making d.maker
  pub stack_is : stack_tree p.stack ≡ stack_tree d.stack
  pub plans_are : plans_tree (rc_value p.plans) ≡ plans_tree d.shapes.plans
  pub entries_are : rc_value p.entries ≡ d.shapes.entries
  pub starts_are : starts_tree p.starts ≡ starts_tree d.shapes.starts
  pub codes_are : option_map rc_value p.codes ≡ codes
  pub places : p.outputs.places ≡ largest_weight (stack_tree d.stack)

-- The code of a stack's bypasses, and their checks.
pub record AreExamining (stack : List LayerTree) (codes : CodesTree) (checks : AllAsked) : Type 0 where
  pub codes_are : AreCodesOf stack codes
  pub checks_are : AreChecksOf stack checks

-- What a run by bypasses is made of, and the checks of these.
pub record IsExaminable (stack : List LayerTree) (p : Parts) (checks : AllAsked) : Type 0 where
  pub parts : IsPrepared bypass stack p
  pub checks_are : AreChecksOf stack checks

-- A group is where it begins, in a mode, and its members have room.
pub record IsOpen (mode : Mode) (stack : List LayerTree) (group stamp members : ℕ) (o : Opened) : Type 0 where
  pub stack_is : stack_tree o.stack ≡ stack
  pub plans_are : plans_tree (rc_value o.plans) ≡ plans_of stack
  pub entries_are : rc_value o.entries ≡ short_shapes stack (plans_of stack)
  pub first : IsAtFirst mode stack (plans_of stack) group stamp members o.group o.outputs.places
  pub room : HasRoom stack members

-- It is open, or its members may keep too many rows, or memory ran out.
abbrev pub Opens : Mode → List LayerTree → (group stamp members : ℕ) → Result Opened OpenError → Type 0
Opens mode stack group stamp members (Ok o) = IsOpen mode stack group stamp members o
Opens mode stack group stamp members (Err TooLarge) = most_rows < rows_of stack members
Opens mode stack group stamp members (Err Memory) = Unit {0}
