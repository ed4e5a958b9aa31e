-- Why a read finds nothing.
use Rattle.std.proofs.Common.{◌≡◌, ℕ, ◌⊎◌, List, None, IsTrue, arith}
use Rattle.outside.specs.Shelf.{Shelved, is_next_to_fail, found_in}

-- there's no file of this name, or the read is one of those that are to fail
pub found_in-none : (shelf : Shelved) (name : List ℕ) → found_in shelf name ≡ None →
    (shelf.files name ≡ None) ⊎ IsTrue (is_next_to_fail shelf.failures)
found_in-none shelf name none = grind arith
