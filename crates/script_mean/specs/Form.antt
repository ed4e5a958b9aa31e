-- Forms: what the words of a line have to be, one after the other.
use Rattle.std.specs.Prelude.{ℕ, List, [], ◌∷◌, Option, Some, None, option_map, option_and_then, bytes_eq}
use Rattle.std.specs.Prelude.{if◌then◌else◌}
use Rattle.script_mean.specs.Words.{Word, number_of, number_within, body_of}

-- a form takes words from the front: what they spell and the words after them, or nothing where they don't fit
abbrev pub Form : Type 0 → Type 0
Form A = List Word → Option (A × List Word)

infixl 10 ◌>>=◌
-- one form, and then the next on the words after
abbrev pub ◌>>=◌ : {A B : Type 0} → Form A → (A → Form B) → Form B
(form >>= next) words = option_and_then (λ taken. next taken.0 taken.1) (form words)

-- one word, by what it spells
abbrev pub one : {A : Type 0} → (Word → Option A) → Form A
one spelled [] = None
one spelled (word ∷ following) = option_map (λ value. (value, following)) (spelled word)

-- any word
abbrev pub a_word : Form Word
a_word = one Some

-- this very word
abbrev pub the_word : Word → Form (Unit {0})
the_word wanted = one (λ word. if bytes_eq word wanted then Some tt else None)

-- a number
abbrev pub a_number : Form ℕ
a_number = one number_of

-- a number within bounds
abbrev pub a_number_within : ℕ → ℕ → Form ℕ
a_number_within low high = one (number_within low high)

-- a body
abbrev pub a_body : Form (List ℕ)
a_body = one body_of

-- the line ends here, and says this
abbrev pub ends : {A : Type 0} → A → Form A
ends value [] = Some (value, [])
ends value (word ∷ following) = None
