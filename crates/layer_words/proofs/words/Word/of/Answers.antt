use Rattle.std.proofs.Common.{◌≡◌, ℕ, ◌≤◌, List, ◌++◌, length, drop, replicate, arith, ap, length-append, length-drop}
use Rattle.std.proofs.lemmas.List.{length-replicate}
use Rattle.layer_words.specs.WordBytes.{longest_word, zeros_after}
use Rattle.layer_words.proofs.words.Word.of.Goals as goal

length_kept : (word front : List ℕ) → front ≡ word → length word ≤ longest_word →
    length (front ++ drop (length word) (replicate longest_word 0)) ≡ longest_word
length_kept word front same le =
    omega (
      arith,
      ap length same,
      length-append front (drop (length word) (replicate longest_word 0)),
      length-drop {A = ℕ} (length word) (replicate longest_word 0),
      length-replicate {A = ℕ} longest_word 0,
    )

pub invariant_of-result : goal.invariant_of-result
invariant_of-result c = (
  c.requires.0,
  c.requires.1,
  length_kept _ _ c.copy_from_slice.ensures.after c.requires.1,
  zeros_after _ _ c.copy_from_slice.ensures.after,
)
