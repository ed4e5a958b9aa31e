-- A table of references, and the table of what they refer to.
use Rattle.std.proofs.Common.{◌≡◌, ℕ, List, [], ◌∷◌, map, find, option_map, refl, Bor, bytes_eq, arith}
use Rattle.std.specs.Map.{lookup}

-- the text of the first layer of this name is the value that a look-up finds
pub lookup_found : (name : List ℕ) (layers : List (Bor (List ℕ) × Bor (List ℕ)))
    → option_map (λ layer. layer.1.now) (find (λ layer. bytes_eq name layer.0.now) layers)
    ≡ lookup (bytes_eq name) (map (λ layer. (layer.0.now, layer.1.now)) layers)
lookup_found name [] = refl
lookup_found name (layer ∷ following) = grind (arith, lookup_found name following)
