-- What is found of names beyond a limit, and of a size.
use Rattle.std.proofs.Common.{ℕ, ◌≤◌, Bool, true, false, if◌then◌else◌, List, [], ◌∷◌, map, length, sym, subst}
use Rattle.layer_words.specs.declared.places.At.{At}
use Rattle.layer_ast.specs.declared.names.Name.{Name}
use Rattle.fault_mean.specs.Earliest.{unless}
use Rattle.fault_mean.specs.Faults.{too_many}
use Rattle.fault_mean.specs.NameFaults.{too_many_of}
use Rattle.file_scope.proofs.Finds.{finds_none}
use Rattle.file_scope.specs.declared.found.Found.{Found}
use Rattle.file_scope.proofs.Lists.{drop_all}
use Rattle.file_names.specs.Found.{Finds, name_shown}

-- of few names none is beyond the limit
pub none_beyond : (most : ℕ) (names : List Name) (a : Found) → length names ≤ most → Finds a (too_many_of most names) a
none_beyond most names a few =
    subst (λ l. Finds a (map (λ (n : Name). too_many n.at) l) a) (sym (drop_all names most few))
    (finds_none name_shown a)

-- a size that is a number
pub size_fault : (a b : Found) (holds : Bool) (at : At) → Finds a (unless holds (too_many at)) b →
    Finds a (map too_many (if holds then [] else at ∷ [])) b
size_fault a b true at finds = finds
size_fault a b false at finds = finds
