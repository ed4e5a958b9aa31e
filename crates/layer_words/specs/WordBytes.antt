-- The bytes in which a word is kept.
use Rattle.std.specs.Prelude.{◌≡◌, ℕ, ◌-◌, ◌≤◌, List, ◌++◌, length, take, drop, replicate}
use Rattle.std.proofs.Common.{◌∙◌, sym, ap, take-append-drop, length-take-le}
use Rattle.std.proofs.lemmas.List.{drop-replicate}
use Rattle.std.proofs.Math.Seq.{drop-append_seam}

-- the most bytes of a word
abbrev pub longest_word : ℕ
longest_word = 32

-- the bytes of a word with zeros after them, as many as a word has at most
abbrev pub padded_word : List ℕ → List ℕ
padded_word word = word ++ replicate (longest_word - length word) 0

-- the first bytes of a padded word, padded, are the padded word
pub padded-take : (n : ℕ) (bytes : List ℕ) → n ≤ length bytes → drop n bytes ≡ replicate (longest_word - n) 0 →
    padded_word (take n bytes) ≡ bytes
padded-take n bytes le zeros =
    ap (λ k. take n bytes ++ replicate (longest_word - k) 0) (length-take-le n bytes le)
    ∙ (ap (λ rest. take n bytes ++ rest) (sym zeros) ∙ take-append-drop n bytes)

-- after a word that is written over zeros there are zeros
pub zeros_after : (word front : List ℕ) → front ≡ word →
    drop (length word) (front ++ drop (length word) (replicate longest_word 0)) ≡
    replicate (longest_word - length word) 0
zeros_after word front same =
    ap (λ f. drop (length word) (f ++ drop (length word) (replicate longest_word 0))) same
    ∙ (drop-append_seam word _ ∙ drop-replicate (length word) longest_word 0)
