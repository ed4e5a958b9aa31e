-- The numbers in which fields are kept: those that there are, and zeros after them.
use Rattle.std.specs.Prelude.{◌≡◌, ℕ, ◌-◌, ◌≤◌, List, ◌++◌, length, take, drop, replicate}
use Rattle.std.proofs.Common.{◌∙◌, sym, ap, take-append-drop, length-take-le}
use Rattle.msg_core.specs.Headers.{most_fields}

-- Fields with zeros after them, up to the most numbers that a header may have.
abbrev pub kept_fields : List ℕ → List ℕ
kept_fields fields = fields ++ replicate (most_fields - length fields) 0

-- the first of these numbers after which there are zeros, with zeros after them, are these numbers
pub kept-take : (n : ℕ) (numbers : List ℕ) → n ≤ length numbers → drop n numbers ≡ replicate (most_fields - n) 0 →
    kept_fields (take n numbers) ≡ numbers
kept-take n numbers le zeros =
    ap (λ k. take n numbers ++ replicate (most_fields - k) 0) (length-take-le n numbers le)
    ∙ (ap (λ rest. take n numbers ++ rest) (sym zeros) ∙ take-append-drop n numbers)
