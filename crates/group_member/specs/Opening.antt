-- What opening a member asks for, and what it gives.
use Rattle.std.specs.Prelude.{◌≡◌, ℕ, ◌+◌, ◌<◌, ◌≤◌, List, length, Option, option_map, Result, Ok, Err}
use Rattle.std.specs.Rc.{rc_value}
use Rattle.msg_core.specs.View.{member_count}
use Rattle.msg_core.specs.declared.packet.View.{View}
use Rattle.layer_mean.specs.Tree.{LayerTree}
use Rattle.stack_mean.specs.Acceptance.{rows_of, most_rows}
use Rattle.stack_mean.specs.Plan.{Plan}
use Rattle.stack_mean.specs.Plans.{plans_of}
use Rattle.chain_laws.specs.Runs.{TypedStack}
use Rattle.stack_judge.specs.Answer.{stack_tree}
use Rattle.stack_shapes.specs.Trees.{plans_tree}
use Rattle.stack_shapes.specs.Starts.{starts_of, starts_tree}
use Rattle.stack_shapes.specs.Shapes.{short_shapes}
use Rattle.run_mean.specs.Member.{opened_member}
use Rattle.run_mean.specs.Mode.{Mode}
use Rattle.live_layer.specs.Making.{Making}
use Rattle.code_table.specs.Codes.{CodesTree}
use Rattle.group_member.specs.Making.{MadeAtMost}
use Rattle.group_member.specs.Modes.{mode_with}
use Rattle.group_member.specs.Serving.{AreCodes}
use Rattle.group_member.specs.Placed.{Placed}
use Rattle.group_member.specs.declared.error.OpenError.{OpenError}
use Rattle.group_member.specs.declared.error.OpenError.TheVariants.{TooLarge, Memory}
use Rattle.group_member.specs.declared.opening.Opening.{Opening}

-- The stack of a group that is to be opened, and its plans.
abbrev pub stack_in : Opening → List LayerTree
stack_in o = stack_tree (rc_value o.stack.now)

abbrev pub plans_in : Opening → List Plan
plans_in o = plans_tree (rc_value o.plans.now)

-- The code of the stack's bypasses, if there is any, and the mode in which the group's members then run.
abbrev pub codes_in : Opening → Option CodesTree
codes_in o = option_map (λ codes. rc_value codes.now) o.codes

abbrev pub mode_in : Opening → Mode
mode_in o = mode_with (codes_in o)

-- A maker that has made at most `most` layers can open members of the group: its stack is the maker's, and typed, and
-- the plans, the entries, the numbers of their first plans and the code are the stack's.
pub record CanOpen (most : ℕ) (maker : Making) (o : Opening) : Type 0 where
  pub same : maker.stack ≡ stack_in o
  pub typed : TypedStack (stack_in o)
  pub plans_are : plans_in o ≡ plans_of (stack_in o)
  pub entries_are : rc_value o.entries.now ≡ short_shapes (stack_in o) (plans_in o)
  pub starts_are : starts_tree o.starts ≡ starts_of (stack_in o)
  pub codes_are : AreCodes (stack_in o) (codes_in o)
  pub made : maker.made ≤ most

-- How many rows with messages a member in a view may keep.
abbrev pub rows_in : Opening → View → ℕ
rows_in o view = rows_of (stack_in o) (member_count view)

-- The member of this id is opened in its first view, with fresh layers, each of which was made.
pub record IsOpen (o : Opening) (view : View) (id : ℕ) (before after : Making) (m : Placed) : Type 0 where
  pub member : m.member ≡ opened_member (stack_in o) view id
  pub stack_is : m.stack ≡ stack_in o
  pub plans_are : m.plans ≡ plans_in o
  pub mode_is : m.mode ≡ mode_in o
  pub group_is : m.group ≡ o.group
  pub stamp_is : m.stamp ≡ o.stamp
  pub id_is : m.id ≡ id
  pub most : m.most ≡ member_count view
  pub few : rows_in o view ≤ most_rows
  pub same : after.stack ≡ before.stack
  pub made : after.made ≡ before.made + length (stack_in o)

-- The member is opened; or its layers may keep too many rows; or memory ran out, with at most as many layers made as
-- the stack has.
abbrev pub Opens : Opening → View → (id : ℕ) → (before after : Making) → Result Placed OpenError → Type 0
Opens o view id before after (Ok m) = IsOpen o view id before after m
Opens o view id before after (Err TooLarge) = (most_rows < rows_in o view) × (after ≡ before)
Opens o view id before after (Err Memory) = MadeAtMost (length (stack_in o)) before after
