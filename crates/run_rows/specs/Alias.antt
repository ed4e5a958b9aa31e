-- Three casts of a layer that writes before it branches: the first is no common step.
use Rattle.std.specs.Prelude.{◌≡◌, ℕ, true, false, List, [], ◌∷◌, ◌++◌, codes}
use Rattle.script_mean.specs.declared.event.ScriptEvent.{ScriptEvent}
use Rattle.script_mean.specs.declared.event.ScriptEvent.TheVariants as script
use Rattle.run_mean.specs.Mode.{layered, bypass}
use Rattle.layer_rows.specs.Alias.{alias}
use Rattle.run_rows.specs.Written.{script_output}

-- Three casts of member 0.
abbrev pub three_casts : List ScriptEvent
three_casts = script.Cast 0 [] ∷ script.Cast 0 [] ∷ script.Cast 0 [] ∷ []

-- What is written of them.
abbrev pub three_packets : List ℕ
three_packets =
    codes "packet 1 0 all alias.b() -\n" ++ codes "packet 2 0 all alias.a() -\n" ++ codes "packet 3 0 all alias.a() -\n"
    ++ codes "end 3\n"

-- The report is one in both modes; by bypasses the first alone visits the layer.
abbrev pub ThreeCasts : Type 0
ThreeCasts =
    (script_output (alias ∷ []) 1 2 three_casts layered false true ≡ three_packets ++ codes "visits 3\n")
    × (script_output (alias ∷ []) 1 2 three_casts bypass false true ≡ three_packets ++ codes "visits 1\n")
