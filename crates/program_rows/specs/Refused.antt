-- Files that are refused, from their bytes to their causes.
use Rattle.std.specs.Prelude.{ℕ, List, [], ◌∷◌, ◌++◌, codes}
use Rattle.layer_words.specs.declared.events.Kind.TheVariants as kind
use Rattle.layer_ast.specs.Samples.{at}
use Rattle.fault_mean.specs.Samples.{small_text}
use Rattle.end_mean.specs.Status.{unknown, cycle, too_many, bad_token, unexpected}
use Rattle.output_mean.specs.Judged.{Refuses}

-- A layer that sets a cell that isn't declared.
abbrev pub unknown_text : List ℕ
unknown_text = small_text (codes "  down Cast(p, m) { set z = 1; }" ∷ [])

-- A stack of two layers that send each cast back.
abbrev pub echo_text : List ℕ
echo_text =
    codes "layer echo { down Cast(p, m) { up Cast(p, m); } up Cast(o, m) { down Cast(o, m); } }\n"
    ++ codes "stack { echo; echo; }\n"

-- A stack of four layers that send sixteen casts for one.
abbrev pub fan_text : List ℕ
fan_text =
    codes "layer fan { up Cast(o, m) { each i below 16 max 16 { up Cast(o, m); } } }\n"
    ++ codes "stack { fan; fan; fan; fan; }\n"

-- `file: unknown 2:25`, `file: cycle 0 Cast` and `file: too many 69905`.
abbrev pub RefusesUnknown : Type 0
RefusesUnknown = Refuses unknown_text (unknown (at 2 25))

abbrev pub RefusesCycle : Type 0
RefusesCycle = Refuses echo_text (cycle 0 kind.Cast)

abbrev pub RefusesWeight : Type 0
RefusesWeight = Refuses fan_text (too_many 69905)

-- `file: token 1:1` and `file: unexpected 1:1`.
abbrev pub RefusesBadByte : Type 0
RefusesBadByte = Refuses (codes "$") (bad_token (at 1 1))

abbrev pub RefusesEmpty : Type 0
RefusesEmpty = Refuses [] (unexpected (at 1 1))
