-- Headers with the separator after them, and the headers `none` of adjacent places.
use Rattle.std.specs.Prelude.{◌≡◌, ℕ, zero, suc, ◌+◌, List, [], ◌∷◌, ◌++◌, length, codes}
use Rattle.std.specs.List.{flat_map}
use Rattle.msg_core.specs.declared.message.Header.{Header}
use Rattle.layer_mean.specs.Tree.{LayerTree}
use Rattle.run_mean.specs.Text.{header_name, header_text, layer_number}

-- The header `none` of a place.
abbrev pub none_of : ℕ → Header
none_of place = record { layer = place; tag = 0; fields = [] }

-- Those of n places from the first on.
abbrev pub nones : (first n : ℕ) → List Header
nones first zero = []
nones first (suc n) = nones first n ++ none_of (first + n) ∷ []

-- What stands before a header's numbers: LAYER.HEADER(
abbrev pub header_front : List LayerTree → Header → List ℕ
header_front stack h =
    (layer_number stack h.layer).name ++ codes "." ++ header_name (layer_number stack h.layer) h.tag ++ codes "("

-- A header, and `/` after it.
abbrev pub slashed_header : List LayerTree → Header → List ℕ
slashed_header stack header = header_text stack header ++ 47 ∷ []

-- Headers, each with `/` after it.
abbrev pub slashed_headers : List LayerTree → List Header → List ℕ
slashed_headers stack = flat_map (slashed_header stack)

-- The headers `none` of the first n places.
abbrev pub first_nones : List LayerTree → ℕ → List ℕ
first_nones stack n = slashed_headers stack (nones 0 n)

-- Where each of them begins, and where the last one ends.
abbrev pub ends_of : List LayerTree → ℕ → List ℕ
ends_of stack zero = 0 ∷ []
ends_of stack (suc n) = ends_of stack n ++ length (first_nones stack (suc n)) ∷ []

-- These texts and places are those of the stack.
abbrev pub AreLaidOut : List LayerTree → (texts places : List ℕ) → Type 0
AreLaidOut stack texts places = (texts ≡ first_nones stack (length stack)) × (places ≡ ends_of stack (length stack))
