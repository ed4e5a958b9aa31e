-- What readers of a line answer.
use Rattle.std.specs.Prelude.{◌≡◌, ◌==◌, ℕ, Bool, true, false, List, [], ◌∷◌, Option, Some, None, Result, Ok, Err}
use Rattle.pack_words.specs.declared.error.LineError.{LineError}
use Rattle.pack_words.specs.declared.error.LineError.TheVariants.{Form, Memory}
use Rattle.pack_words.specs.declared.text.Text.{Text}

-- The bytes that are left.
abbrev pub left : Text → List ℕ
left text = text.rest.now

-- What a reader took from the front, and the bytes after it.
abbrev pub Takes : {A : Type 0} → Option (A × List ℕ) → Result A LineError → List ℕ → Type 0
Takes taken (Ok value) following = taken ≡ Some (value, following)
Takes taken (Err Form) following = taken ≡ None
Takes taken (Err Memory) following = ⊥

-- A text that doesn't begin with a byte.
abbrev pub StartsOther : ℕ → List ℕ → Type 0
StartsOther byte [] = Unit {0}
StartsOther byte (first ∷ rest) = (first == byte) ≡ false

-- Whether a byte came first, and was taken.
pub record Stays (byte : ℕ) (old new : List ℕ) : Type 0 where
  pub same : new ≡ old
  pub other : StartsOther byte old

abbrev pub Passes : ℕ → List ℕ → Bool → List ℕ → Type 0
Passes byte old true new = old ≡ byte ∷ new
Passes byte old false new = Stays byte old new
