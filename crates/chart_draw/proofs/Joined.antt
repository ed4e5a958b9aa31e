-- Pieces that are put one after the other.
use Rattle.std.proofs.Common.{◌≡◌, sym, ap, ◌∙◌, ℕ, List, ◌++◌, append_assoc}
use Rattle.std.specs.Prelude.{Result, OnOk}
use Rattle.std.proofs.lemmas.Result.{on_ok_weaker}

-- one more piece
pub more : (start pieces piece text longer : List ℕ) → text ≡ start ++ pieces → longer ≡ text ++ piece →
    longer ≡ start ++ (pieces ++ piece)
more start pieces piece text longer is next = next ∙ ap (λ t. t ++ piece) is ∙ append_assoc start pieces piece

-- two more, put as one
pub two_more : (start pieces one two text longer : List ℕ) → text ≡ start ++ pieces → longer ≡ text ++ (one ++ two) →
    longer ≡ start ++ (pieces ++ one ++ two)
two_more start pieces one two text longer is next =
    more start pieces (one ++ two) text longer is next ∙ ap (λ t. start ++ t) (sym (append_assoc pieces one two))

-- the last piece
pub last : {T E : Type 0} (r : Result T E) (start pieces piece text longer : List ℕ) → text ≡ start ++ pieces →
    OnOk r (longer ≡ text ++ piece) → OnOk r (longer ≡ start ++ (pieces ++ piece))
last r start pieces piece text longer is done = on_ok_weaker r (more start pieces piece text longer is) done
