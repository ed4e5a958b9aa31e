-- What opening a group that is examined yields.
use Rattle.std.specs.Prelude.{◌≡◌, ℕ, ◌<◌, List, Result, Ok, Err}
use Rattle.std.specs.Rc.{rc_value}
use Rattle.run_mean.specs.Mode.{bypass}
use Rattle.layer_mean.specs.Tree.{LayerTree}
use Rattle.stack_mean.specs.Acceptance.{rows_of, most_rows}
use Rattle.stack_mean.specs.Plans.{plans_of}
use Rattle.stack_judge.specs.Answer.{stack_tree}
use Rattle.stack_shapes.specs.Trees.{plans_tree}
use Rattle.stack_shapes.specs.Shapes.{short_shapes}
use Rattle.group_mean.specs.Room.{HasRoom}
use Rattle.group_member.specs.declared.error.OpenError.{OpenError}
use Rattle.group_member.specs.declared.error.OpenError.TheVariants.{TooLarge, Memory}
use Rattle.group_feed.specs.Beginning.{IsAtFirst}
use Rattle.group_open.specs.declared.run.Examination.{Examination}

-- A group that runs by bypasses is where it begins, with its stack's plans and those shapes of the stack's entries that
-- aren't too long, and its members have room.
pub record IsExamination (stack : List LayerTree) (group stamp members : ℕ) (e : Examination) : Type 0 where
  pub stack_is : stack_tree e.stack ≡ stack
  pub plans_are : plans_tree (rc_value e.plans) ≡ plans_of stack
  pub entries_are : rc_value e.entries ≡ short_shapes stack (plans_of stack)
  pub first : IsAtFirst bypass stack (plans_of stack) group stamp members e.group e.outputs.places
  pub room : HasRoom stack members

-- It is open, or its members may keep too many rows, or memory ran out.
abbrev pub OpensExamined : List LayerTree → (group stamp members : ℕ) → Result Examination OpenError → Type 0
OpensExamined stack group stamp members (Ok e) = IsExamination stack group stamp members e
OpensExamined stack group stamp members (Err TooLarge) = most_rows < rows_of stack members
OpensExamined stack group stamp members (Err Memory) = Unit {0}
