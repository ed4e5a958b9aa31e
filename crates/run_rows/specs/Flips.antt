-- Three casts of a layer with two common cases: each is a common step, in the first case or in the second.
use Rattle.std.specs.Prelude.{◌≡◌, ℕ, true, false, List, [], ◌∷◌, ◌++◌, map, codes, Option, Some, None}
use Rattle.layer_words.specs.declared.events.Kind.TheVariants.{Cast, Send}
use Rattle.layer_mean.specs.declared.run.Case.{Case}
use Rattle.layer_mean.specs.declared.run.Case.TheVariants.{First, Second}
use Rattle.layer_mean.specs.Tree.{LayerTree}
use Rattle.script_mean.specs.declared.event.ScriptEvent.{ScriptEvent}
use Rattle.script_mean.specs.declared.event.ScriptEvent.TheVariants as script
use Rattle.stack_mean.specs.Plan.{Plan}
use Rattle.stack_mean.specs.Plans.{plans_of}
use Rattle.run_mean.specs.Mode.{layered, bypass}
use Rattle.run_mean.specs.Common.{case_of}
use Rattle.run_mean.specs.Report.{run_of}
use Rattle.run_mean.specs.World.{Did, taken}
use Rattle.layer_rows.specs.Fork.{flip}
use Rattle.run_rows.specs.Written.{script_output}

-- Three casts of member 0.
abbrev pub three_casts : List ScriptEvent
three_casts = script.Cast 0 [] ∷ script.Cast 0 [] ∷ script.Cast 0 [] ∷ []

-- What is written of them.
abbrev pub three_packets : List ℕ
three_packets =
    codes "packet 1 0 all flip.a(1) -\n" ++ codes "packet 2 0 all flip.b(2) -\n" ++ codes "packet 3 0 all flip.a(3) -\n"
    ++ codes "end 3\n"

-- The report is one in both modes; by bypasses no visit is made.
abbrev pub ThreeFlips : Type 0
ThreeFlips =
    (script_output (flip ∷ []) 1 2 three_casts layered false true ≡ three_packets ++ codes "visits 3\n")
    × (script_output (flip ∷ []) 1 2 three_casts bypass false true ≡ three_packets ++ codes "visits 0\n")

-- The stack's plans: those of the first case, then those of the second.
abbrev pub FlipPlans : Type 0
FlipPlans = plans_of (flip ∷ []) ≡
    record { kind = Cast; tags = 1 ∷ []; fields = None ∷ [] } ∷ record { kind = Send; tags = 0 ∷ []; fields = [] } ∷
    record { kind = Cast; tags = 2 ∷ []; fields = None ∷ [] } ∷ []

-- The bytes of the packets of two casts and a send, each short under the plan of its step's case.
abbrev pub FlipWires : Type 0
FlipWires = script_output (flip ∷ []) 1 2 (script.Cast 0 [] ∷ script.Cast 0 [] ∷ script.Send 0 1 [] ∷ []) bypass true
    false ≡
    codes "packet 1 0 all flip.a(1) -\n" ++ codes "wire 1 e60000000100000001000000000000000300ff0000000001\n"
    ++ codes "packet 2 0 all flip.b(2) -\n" ++ codes "wire 2 e60000000100000001000000000000000300ff0200000002\n"
    ++ codes "packet 3 0 1 flip.none() -\n" ++ codes "wire 3 e6000000010000000100000000000000030001" ++ codes "01\n"
    ++ codes "end 3\n"

-- The case in which a step is common, if it was taken and is common in one.
abbrev pub case_in : List LayerTree → List Plan → Did → Option Case
case_in stack plans (taken s) = case_of stack plans s
case_in stack plans _ = None

-- The case of each event of a script in a group of two.
abbrev pub cases : List LayerTree → List ScriptEvent → List (Option Case)
cases stack events = map (λ m. case_in stack (plans_of stack) m.happening.did)
    (run_of stack (plans_of stack) (record { group = 1; stamp = 1; members = 2; events = events }))

-- A cast is common in the case that its condition chose, and a send, which goes as predicted in both, in the first. The
-- packets of casts, for which there is no handler, and a tick are common in neither.
abbrev pub FlipCases : Type 0
FlipCases = cases (flip ∷ []) (script.Cast 0 [] ∷ script.Cast 0 [] ∷ script.Send 0 1 [] ∷ script.Give 1 1 ∷
    script.Give 3 1 ∷ script.Tick 0 1 ∷ []) ≡
    Some First ∷ Some Second ∷ Some First ∷ None ∷ Some First ∷ None ∷ []
