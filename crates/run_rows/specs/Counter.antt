-- Runs of the counter layer, with their reports.
use Rattle.std.specs.Prelude.{◌≡◌, ℕ, true, false, List, [], ◌∷◌, ◌++◌, codes}
use Rattle.script_mean.specs.declared.event.ScriptEvent.{ScriptEvent}
use Rattle.script_mean.specs.declared.event.ScriptEvent.TheVariants as script
use Rattle.run_mean.specs.Mode.{layered, bypass}
use Rattle.layer_rows.specs.Counter.{counter}
use Rattle.run_rows.specs.Written.{script_output}

-- The cast `hi` of member 0.
abbrev pub hi : ScriptEvent
hi = script.Cast 0 (codes "hi")

-- One packet given twice: the second time is no common step.
abbrev pub given_twice : List ScriptEvent
given_twice = hi ∷ script.Give 1 1 ∷ script.Give 1 1 ∷ script.Show 1 ∷ []

-- What is written of that.
abbrev pub given_twice_report : List ℕ
given_twice_report =
    codes "packet 1 0 all cnt.num(0) 6869\n" ++ codes "deliver 1 cast 0 6869\n" ++ codes "deliver 1 cast 0 6869\n"
    ++ codes "state 1 0 7\n" ++ codes "cell 1 0 cnt.k 0\n" ++ codes "cell 1 0 cnt.e 1 0 0\n" ++ codes "end 4\n"

-- The report is one in both modes; by bypasses the second give alone visits the layer.
abbrev pub GivenTwice : Type 0
GivenTwice =
    (script_output (counter ∷ []) 7 3 given_twice layered false true ≡ given_twice_report ++ codes "visits 3\n")
    × (script_output (counter ∷ []) 7 3 given_twice bypass false true ≡ given_twice_report ++ codes "visits 1\n")

-- One packet with its bytes: in full, and short.
abbrev pub Wires : Type 0
Wires =
    (script_output (counter ∷ []) 7 3 (hi ∷ script.Give 1 1 ∷ []) layered true false ≡
    codes "packet 1 0 all cnt.num(0) 6869\n"
    ++ codes "wire 1 e50000000100000007000000000000000700ff01000000006869\n"
    ++ codes "deliver 1 cast 0 6869\n" ++ codes "end 2\n")
    × (script_output (counter ∷ []) 7 3 (hi ∷ script.Give 1 1 ∷ []) bypass true false ≡
    codes "packet 1 0 all cnt.num(0) 6869\n"
    ++ codes "wire 1 e60000000100000007000000000000000700ff00000000006869\n"
    ++ codes "deliver 1 cast 0 6869\n" ++ codes "end 2\n")

-- Two packets given in the wrong order: both gives miss, and each member's application gets what was given.
abbrev pub swapped_script : List ScriptEvent
swapped_script = hi ∷ script.Cast 0 [] ∷ script.Give 2 1 ∷ script.Give 1 1 ∷ script.Show 1 ∷ []

-- What is written of that.
abbrev pub swapped_report : List ℕ
swapped_report =
    codes "packet 1 0 all cnt.num(0) 6869\n" ++ codes "packet 2 0 all cnt.num(1) -\n" ++ codes "deliver 1 cast 0 -\n"
    ++ codes "deliver 1 cast 0 6869\n" ++ codes "state 1 0 7\n" ++ codes "cell 1 0 cnt.k 0\n" ++
    codes "cell 1 0 cnt.e 1 0 0\n"
    ++ codes "end 5\n"

-- The report is one in both modes; by bypasses the two gives alone visit the layer.
abbrev pub GivenSwapped : Type 0
GivenSwapped =
    (script_output (counter ∷ []) 7 3 swapped_script layered false true ≡ swapped_report ++ codes "visits 4\n")
    × (script_output (counter ∷ []) 7 3 swapped_script bypass false true ≡ swapped_report ++ codes "visits 2\n")
