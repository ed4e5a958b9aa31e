-- Names that are visible, as a value of the program shows them.
use Rattle.std.specs.Prelude.{ℕ, List, map, reverse}
use Rattle.layer_words.specs.declared.words.Word.{Word}
use Rattle.file_slots.specs.declared.visible.VisibleName.{VisibleName}

-- Names with their slots, the newest in front, and how many slots are taken.
pub record Shown : Type 0 where
  pub names : List (Word × ℕ)
  pub taken : ℕ

abbrev pub entry : VisibleName → Word × ℕ
entry s = (s.word, s.slot)

-- Slots that are kept with the newest at the end.
abbrev pub entries : List VisibleName → List (Word × ℕ)
entries slots = map entry (reverse slots)
