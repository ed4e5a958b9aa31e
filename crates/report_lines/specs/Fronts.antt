-- The texts before the numbers of declared headers, one after the other.
use Rattle.std.specs.Prelude.{◌≡◌, ℕ, zero, suc, ◌+◌, ◌<◌, List, [], ◌∷◌, ◌++◌, length, nat_lt, if◌then◌else◌}
use Rattle.std.specs.Prelude.{slice_index_or, Option, Some, None}
use Rattle.std.specs.List.{flat_map}
use denote.Ref.{Bor}
use Rattle.msg_core.specs.declared.message.Header.{Header}
use Rattle.layer_mean.specs.Tree.{LayerTree}
use Rattle.run_mean.specs.Text.{layer_number}
use Rattle.report_lines.specs.Nones.{header_front}

-- The header of a place with a tag, without numbers.
abbrev pub header_of : (place tag : ℕ) → Header
header_of place tag = record { layer = place; tag = tag; fields = [] }

-- Those with the tags from 1 to n.
abbrev pub headers_to_tag : (place n : ℕ) → List Header
headers_to_tag place zero = []
headers_to_tag place (suc n) = headers_to_tag place n ++ header_of place (suc n) ∷ []

-- How many headers of a place are laid out: all that have a tag of eight bits.
abbrev pub tags_at : List LayerTree → ℕ → ℕ
tags_at stack place =
    if nat_lt (length (layer_number stack place).headers) 255 then length (layer_number stack place).headers else 255

abbrev pub headers_at : List LayerTree → ℕ → List Header
headers_at stack place = headers_to_tag place (tags_at stack place)

-- The places below n, and the headers of these.
abbrev pub below : ℕ → List ℕ
below zero = []
below (suc n) = below n ++ n ∷ []

abbrev pub declared_headers : List LayerTree → ℕ → List Header
declared_headers stack n = flat_map (headers_at stack) (below n)

-- Where each of these pieces begins, if they lie one after the other from here on, and where the last one ends.
abbrev pub ends_from : {X Y : Type 0} → (X → List Y) → ℕ → List X → List ℕ
ends_from f from [] = from ∷ []
ends_from f from (x ∷ xs) = from ∷ ends_from f (from + length (f x)) xs

-- These texts and beginnings are those of the headers.
abbrev pub AreFronts : List LayerTree → List Header → (texts begins : List ℕ) → Type 0
AreFronts stack hs texts begins = (texts ≡ flat_map (header_front stack) hs) ×
    (begins ≡ ends_from (header_front stack) 0 hs)

-- More headers are laid out after any others.
abbrev pub AddFronts : List LayerTree → List Header → (texts begins new_texts new_begins : List ℕ) → Type 0
AddFronts stack more texts begins new_texts new_begins =
    (hs : List Header) → AreFronts stack hs texts begins → AreFronts stack (hs ++ more) new_texts new_begins

-- These texts and beginnings are those of the headers of the places below n; and these are the number of the first
-- header of each place and, last, the number of all headers.
abbrev pub AreAllFronts : List LayerTree → ℕ → (texts begins firsts : List ℕ) → Type 0
AreAllFronts stack n texts begins firsts =
    AreFronts stack (declared_headers stack n) texts begins × (firsts ≡ ends_from (headers_at stack) 0 (below n))

-- The text before the numbers of a header with a tag, where it was laid out.
abbrev pub IsFront : List LayerTree → (place tag : ℕ) → Option (Bor (List ℕ)) → Type 0
IsFront stack place tag None = Unit {0}
IsFront stack place tag (Some text) = text.now ≡ header_front stack (header_of place tag)

-- The number of the header of a place with a tag among all that are laid out, where it is one.
abbrev pub IsNumber : List LayerTree → (place tag : ℕ) → Option ℕ → Type 0
IsNumber stack place tag None = Unit {0}
IsNumber stack place tag (Some number) =
    (number < length (declared_headers stack (length stack)))
    × (slice_index_or (declared_headers stack (length stack)) number (header_of 0 0) ≡ header_of place tag)
