-- Numbers are read one after the other.
use Rattle.std.proofs.Common.{◌≡◌, ℕ, suc, List, [], ◌∷◌, ◌++◌, Option, Some, None, refl, ap, append_assoc}
use Rattle.std.specs.Prelude.{option_and_then}
use Rattle.packet_mean.specs.Reading.{value_reader, number, numbers}
use Rattle.packet_full.specs.Taking.{with_front}

-- one more number was read before the others
one_more : (front : List ℕ) (n : ℕ) (read : Option (List ℕ × List ℕ)) →
    with_front (front ++ n ∷ []) read ≡ with_front front (option_and_then (λ r. value_reader (n ∷ r.0) r.1) read)
one_more front n None = refl
one_more front n (Some (more, following)) = ap (λ xs. Some (xs, following)) (append_assoc front (n ∷ []) more)

-- where a number was read, those after it are read
pub numbers_go_on : (front : List ℕ) (n k j : ℕ) (bytes rest : List ℕ) → k ≡ suc j → number bytes ≡ Some (n, rest) →
    with_front (front ++ n ∷ []) (numbers j rest) ≡ with_front front (numbers k bytes)
numbers_go_on front n k j bytes rest count read = rw (count, read) (one_more front n (numbers j rest))
