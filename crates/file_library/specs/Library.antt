-- The library: its fifteen layers, lowest first as in a whole stack, and the text of each.
use Rattle.std.specs.Prelude.{ℕ, List, [], ◌∷◌, Option, codes, bytes_eq}
use Rattle.std.specs.Map.{lookup}
use Rattle.file_library.specs.Reliable.{bottom, mnak, pt2pt}
use Rattle.file_library.specs.Flow.{pt2ptw, mflow, frag}
use Rattle.file_library.specs.Order.{collect, stable, local, total}
use Rattle.file_library.specs.Membership.{suspect, elect, sync, intra, top}

-- each name with its text
unfoldable pub library : List (List ℕ × List ℕ)
library =
    (codes "bottom", bottom)
    ∷ (codes "mnak", mnak)
    ∷ (codes "pt2pt", pt2pt)
    ∷ (codes "pt2ptw", pt2ptw)
    ∷ (codes "mflow", mflow)
    ∷ (codes "frag", frag)
    ∷ (codes "collect", collect)
    ∷ (codes "stable", stable)
    ∷ (codes "local", local)
    ∷ (codes "total", total)
    ∷ (codes "suspect", suspect)
    ∷ (codes "elect", elect)
    ∷ (codes "sync", sync)
    ∷ (codes "intra", intra)
    ∷ (codes "top", top)
    ∷ []

-- the text of the layer of this name, if the library has one
abbrev pub library_text : List ℕ → Option (List ℕ)
library_text name = lookup (bytes_eq name) library
