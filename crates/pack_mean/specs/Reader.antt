-- Readers: what has to stand at the front of a text, one after the other.
use Rattle.std.specs.Prelude.{ℕ, ◌==◌, ◌||◌, Bool, not, List, ◌∷◌, [], length, take, drop, bytes_eq, codes, Option}
use Rattle.std.specs.Prelude.{Some, None, option_and_then, option_map, if◌then◌else◌}
use Rattle.std.specs.List.{position_or_len, slice_split}
use Rattle.layer_words.specs.Spelling.{is_word_byte}

-- A reader takes bytes from the front: what they spell and the bytes after them, or nothing where they don't fit.
abbrev pub Reader : Type 0 → Type 0
Reader A = List ℕ → Option (A × List ℕ)

infixl 10 ◌>>=◌
-- One reader, and then the next on the bytes after.
abbrev pub ◌>>=◌ : {A B : Type 0} → Reader A → (A → Reader B) → Reader B
(read >>= next) text = option_and_then (λ taken. next taken.0 taken.1) (read text)

-- This, and no byte for it.
abbrev pub yields : {A : Type 0} → A → Reader A
yields value text = Some (value, text)

-- This, where there is one.
abbrev pub option_reader : {A : Type 0} → Option A → Reader A
option_reader value text = option_map (λ v. (v, text)) value

-- No such text.
abbrev pub nowhere : {A : Type 0} → Reader A
nowhere text = None

-- These very bytes.
abbrev pub the_text : List ℕ → Reader (Unit {0})
the_text wanted text = if bytes_eq (take (length wanted) text) wanted then Some (tt, drop (length wanted) text) else
    None

-- The bytes up to the first that isn't such.
abbrev pub run_of : (ℕ → Bool) → Reader (List ℕ)
run_of such text = let n = position_or_len (λ byte. not (such byte)) text in Some (take n text, drop n text)

-- A byte of a name: one of a word, or a point (46).
abbrev pub is_name_byte : ℕ → Bool
is_name_byte byte = is_word_byte byte || byte == 46

-- A name: words with points (46) between, by its words.
abbrev pub a_name : Reader (List (List ℕ))
a_name = do
  name ← run_of is_name_byte
  yields (slice_split (λ byte. byte == 46) name)

-- The bytes up to a space (32).
abbrev pub a_word : Reader (List ℕ)
a_word = run_of (λ byte. not (byte == 32))

-- What was read, if no byte is left after it.
abbrev pub nothing_after : {A : Type 0} → A × List ℕ → Option A
nothing_after (value, []) = Some value
nothing_after (value, byte ∷ bytes) = None

-- What a whole text spells, with nothing after it.
abbrev pub whole : {A : Type 0} → Reader A → List ℕ → Option A
whole read text = option_and_then nothing_after (read text)

-- One after the other, as many as there are readers, with commas between.
abbrev pub more_of : {A B : Type 0} → Reader A → List B → Reader (List A)
more_of read [] = yields []
more_of read (b ∷ bs) = do
  _ ← the_text (codes ",")
  first ← read
  more ← more_of read bs
  yields (first ∷ more)

-- One for each of a list, with commas between.
abbrev pub each_of : {A B : Type 0} → Reader A → List B → Reader (List A)
each_of read [] = yields []
each_of read (b ∷ bs) = do
  first ← read
  more ← more_of read bs
  yields (first ∷ more)
