-- Which headers a message carries at a place of a stack: those of the layers from there on.
use Rattle.std.specs.Prelude.{◌≡◌, ℕ, suc, ◌≤◌, MatchBool, List, [], ◌∷◌, length, drop, IsSomeAnd}
use Rattle.msg_core.specs.Chain.{Content}
use Rattle.msg_core.specs.Parts.{longest_body}
use Rattle.msg_core.specs.declared.message.Header.{Header}
use Rattle.layer_mean.specs.Headers.{header_of_tag}
use Rattle.layer_mean.specs.Tree.{LayerTree}

-- Headers are a chain of these layers, the first of which stands at a place: each layer has one, with a tag that it
-- declares and as many fields as it declares for this tag, until one ends the chain or no layers are left (the headers
-- that Hayden's layers push).
abbrev pub IsChain : (layers : List LayerTree) (place : ℕ) → List Header → Type 0
IsChain [] place headers = headers ≡ []
IsChain (layer ∷ above) place [] = ⊥
IsChain (layer ∷ above) place (header ∷ headers) = IsSomeAnd (header_of_tag layer header.tag) (λ d.
    (header.layer ≡ place) × (length header.fields ≡ d.fields) ×
    MatchBool d.ends (headers ≡ []) (IsChain above (suc place) headers))

-- A message is chained from a place of a stack: its headers are a chain of the layers from there on, and its body isn't
-- too long.
pub record IsChained (stack : List LayerTree) (place : ℕ) (message : Content) : Type 0 where
  pub chain : IsChain (drop place stack) place message.headers
  pub body : length message.body ≤ longest_body
