-- The headers of a short datagram, read one after the other: each has the next tag of the plan, and its fields are
-- planned.
use Rattle.std.specs.Prelude.{ℕ, zero, suc, Bool, if◌then◌else◌, List, [], ◌∷◌, ◌++◌, option_map, Option, Some, None}
use Rattle.msg_core.specs.declared.message.Header.{Header}
use Rattle.layer_mean.specs.Headers.{header_of_tag}
use Rattle.layer_mean.specs.Tree.{LayerTree}
use Rattle.packet_full.specs.Form.{form_of}
use Rattle.packet_mean.specs.Reading.{Reader, ◌>>=◌, value_reader, option_reader, number}

-- A planned field: a constant is known, and a variable one is a number that is read.
abbrev pub field : Option ℕ → Reader ℕ
field (Some constant) = value_reader constant
field None = number

-- The first n planned fields, and what is planned after them.
abbrev pub fields : ℕ → List (Option ℕ) → Reader (List ℕ × List (Option ℕ))
fields zero planned = value_reader ([], planned)
fields (suc k) [] = option_reader None
fields (suc k) (first ∷ planned) = do
  n ← field first
  (more, rest) ← fields k planned
  value_reader (n ∷ more, rest)

-- Fields that were read, before those that are still read.
abbrev pub with_front : List ℕ → Option ((List ℕ × List (Option ℕ)) × List ℕ) →
    Option ((List ℕ × List (Option ℕ)) × List ℕ)
with_front front None = None
with_front front (Some ((more, rest), following)) = Some ((front ++ more, rest), following)

-- The header of a layer at a place that has the first of these tags, whether it closes the chain, and what is planned
-- after it.
abbrev pub header : LayerTree → (place : ℕ) (tags : List ℕ) (planned : List (Option ℕ)) →
    Reader ((Header × Bool) × (List ℕ × List (Option ℕ)))
header layer place [] planned = option_reader None
header layer place (tag ∷ tags) planned = do
  form ← option_reader (option_map form_of (header_of_tag layer tag))
  (own, rest) ← fields form.fields planned
  value_reader ((record { layer = place; tag = tag; fields = own }, form.ends), (tags, rest))

-- Nothing more is planned.
abbrev pub done : (tags : List ℕ) (planned : List (Option ℕ)) → Reader (List Header)
done [] [] = value_reader []
done _ _ = option_reader None

-- The headers of the layers from a place on, as planned.
abbrev pub dealing : List LayerTree → (place : ℕ) (tags : List ℕ) (planned : List (Option ℕ)) → Reader (List Header)
dealing [] place tags planned = done tags planned
dealing (layer ∷ above) place tags planned = do
  ((first, ends), (more, rest)) ← header layer place tags planned
  others ← if ends then done more rest else dealing above (suc place) more rest
  value_reader (first ∷ others)
