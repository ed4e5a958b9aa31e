-- Which of several faults comes first.
use Rattle.std.specs.Prelude.{ℕ, Bool, if◌then◌else◌, List, [], ◌∷◌, Option, Some, None}
use Rattle.std.specs.Cmp.Lexicographic.{slice_cmp}
use Rattle.std.specs.List.{reduce}
use Rattle.std.specs.Ordering.{is_lt, nat_cmp}
use Rattle.layer_words.specs.declared.places.At.{At}

-- What faults are ordered by: their line, their column, and at one place the rank of their cause.
abbrev pub key_at : At → ℕ → List ℕ
key_at at rank = at.line ∷ at.col ∷ rank ∷ []

-- Whether a fault comes before another: its key is less.
abbrev pub precedes : {F : Type 0} → (F → List ℕ) → F → F → Bool
precedes key f g = is_lt (slice_cmp nat_cmp (key f) (key g))

-- The earlier of two faults; the first of them, if neither comes before the other.
abbrev pub earlier_of : {F : Type 0} → (F → List ℕ) → F → F → F
earlier_of key f g = if precedes key g f then g else f

-- The fault with the least key: the first, if there are several.
abbrev pub earliest : {F : Type 0} → (F → List ℕ) → List F → Option F
earliest key = reduce (earlier_of key)

-- The earlier of two faults, each of which may be missing.
abbrev pub earlier : {F : Type 0} → (F → List ℕ) → Option F → Option F → Option F
earlier key None g = g
earlier key (Some f) None = Some f
earlier key (Some f) (Some g) = Some (earlier_of key f g)

-- A fault, unless something holds.
abbrev pub unless : {F : Type 0} → Bool → F → List F
unless holds fault = if holds then [] else fault ∷ []
