-- How many trees there are.
use Rattle.std.proofs.Common.{◌≡◌, suc, List, ◌∷◌, map, length, sym, ap}
use Rattle.std.proofs.lemmas.List.{length-map}

pub trees_count : {X A : Type 0} (tree : X → A) (first : A) (rest : List X) →
    suc (length rest) ≡ length (first ∷ map tree rest)
trees_count tree first rest = ap suc (sym (length-map rest tree))
