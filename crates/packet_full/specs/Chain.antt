-- Headers of a datagram.
use Rattle.std.specs.Prelude.{◌≡◌, ℕ, Bool, true, false, List, [], ◌∷◌, option_map}
use Rattle.msg_core.specs.declared.message.Header.{Header}
use Rattle.layer_mean.specs.Headers.{header_of_tag}
use Rattle.layer_mean.specs.Tree.{LayerTree}
use Rattle.packet_mean.specs.Reading.{Reader, ◌>>=◌, value_reader, option_reader, byte, numbers}
use Rattle.packet_full.specs.Form.{form_of}

-- The header of a layer at a place, and whether it closes the chain.
abbrev pub header_read : LayerTree → (place : ℕ) → Reader (Header × Bool)
header_read layer place = do
  tag ← byte
  form ← option_reader (option_map form_of (header_of_tag layer tag))
  fields ← numbers form.fields
  value_reader (record { layer = place; tag = tag; fields = fields }, form.ends)

-- The header `none` of a place.
abbrev pub none_at : ℕ → Header
none_at place = record { layer = place; tag = 0; fields = [] }

-- Whether the header `none` was next, and what is left then.
abbrev pub TakesNone : (bytes : List ℕ) → Bool → (rest : List ℕ) → Type 0
TakesNone bytes true rest = bytes ≡ 0 ∷ rest
TakesNone bytes false rest = rest ≡ bytes
