-- Parts of numbers and messages, in brackets.
use Rattle.std.specs.Prelude.{ℕ, ◌<◌, List, [], ◌∷◌, ◌++◌, codes}
use Rattle.synth_print.specs.Texts.{cell_at, message_at, number_at}
use Rattle.synth_print.specs.declared.part.Part.{Part}
use Rattle.synth_print.specs.declared.part.Part.TheVariants as parts
use Rattle.synth_print.specs.declared.scope.Scope.{Scope}

-- The text of a part, and its node.
abbrev pub part_text : Scope → Part → List ℕ
part_text s (parts.Number k) = number_at s k
part_text s (parts.Message k) = message_at s k
part_text s (parts.Cell spot k) = cell_at s spot k

abbrev pub part_node : Part → ℕ
part_node (parts.Number k) = k
part_node (parts.Message k) = k
part_node (parts.Cell spot k) = k

-- The nodes of parts are below a number.
abbrev pub AreBelow : ℕ → List Part → Type 0
AreBelow n [] = Unit {0}
AreBelow n (p ∷ ps) = (part_node p < n) × AreBelow n ps

-- Parts with what opens the first, what stands between two, and a bracket after the last.
abbrev pub parts_text : Scope → (opening between : List ℕ) → List Part → List ℕ
parts_text s opening between [] = codes ")"
parts_text s opening between (p ∷ ps) = opening ++ part_text s p ++ parts_text s between between ps
