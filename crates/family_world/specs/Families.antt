-- The family that is tried in a group, and what its opening gives.
use Rattle.std.specs.Prelude.{◌≡◌, ℕ, ◌<◌, Bool, List, Result, Ok, Err}
use Rattle.std.specs.declared.alloc.AllocError.{AllocError}
use Rattle.std.specs.declared.alloc.Global.{Global}
use Rattle.std.specs.declared.vec.Vec.{Vec}
use Rattle.layer_mean.specs.Tree.{LayerTree}
use Rattle.stack_mean.specs.Acceptance.{most_rows, rows_of}
use Rattle.script_mean.specs.declared.event.ScriptEvent.{ScriptEvent}
use Rattle.script_mean.specs.declared.script.Script.{Script}
use Rattle.group_member.specs.declared.error.OpenError.{OpenError}
use Rattle.group_member.specs.declared.error.OpenError.TheVariants.{TooLarge, Memory}
use Rattle.msg_core.specs.declared.message.Memory as message
use Rattle.family_mean.specs.Family.{Family, report_of}
use Rattle.family_world.specs.Standing.{IsKept}
use Rattle.family_world.specs.declared.bounds.Bounds.{Bounds}
use Rattle.family_world.specs.declared.playground.Playground.{Playground}

-- The family of a stack, of acts, and of bounds.
abbrev pub family_in : List LayerTree → Script → Bounds → Family
family_in stack acts bounds = record {
  stack = stack;
  law = bounds.law;
  acts = acts;
  events = bounds.events;
  repeats = bounds.repeats;
}

-- A group of as many members as acts have is kept over a stack.
pub record IsGroundOf (stack : List LayerTree) (acts : Script) (p : Playground) : Type 0 where
  pub ground : p.ground ≡ stack
  pub kept : IsKept acts p

-- It is; or its members would keep too many rows, or memory ran out.
abbrev pub Grounds : List LayerTree → Script → Result Playground OpenError → Type 0
Grounds stack acts (Ok p) = IsGroundOf stack acts p
Grounds stack acts (Err TooLarge) = most_rows < rows_of stack acts.members
Grounds stack acts (Err Memory) = Unit {0}

-- The scripts of a family are tried; or its members would keep too many rows, or memory ran out.
abbrev pub Opens : List LayerTree → Script → Bounds → Result Family OpenError → Type 0
Opens stack acts bounds (Ok f) = f ≡ family_in stack acts bounds
Opens stack acts bounds (Err TooLarge) = most_rows < rows_of stack acts.members
Opens stack acts bounds (Err Memory) = Unit {0}

-- The report of events is told, or memory ran out; the family stays.
pub record IsReport (f : Family) (events : List ScriptEvent) (f' : Family) (report : List ℕ) : Type 0 where
  pub stays : f' ≡ f
  pub is : report ≡ report_of f events

-- It is told, or memory ran out; the family stays in both cases.
abbrev pub TellsReport : Family → List ScriptEvent → Family → Result (Vec ℕ Global) AllocError → Type 0
TellsReport f events f' (Ok report) = IsReport f events f' report.items
TellsReport f events f' (Err error) = f' ≡ f

-- An answer is handed on, or that memory ran out.
abbrev pub PassesOn : Result Bool message.Memory → Result Bool AllocError → Type 0
PassesOn (Ok holds) (Ok told) = told ≡ holds
PassesOn (Err memory) (Err error) = Unit {0}
PassesOn _ _ = ⊥

-- A number is, or memory ran out, or the number is too high.
abbrev pub Counts : Result ℕ message.Memory → Result ℕ AllocError → Type 0
Counts (Ok sent) (Ok count) = count ≡ sent
Counts (Err memory) (Ok count) = ⊥
Counts _ (Err error) = Unit {0}
