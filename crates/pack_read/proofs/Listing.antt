-- Lists with commas between, one part after the other.
use Rattle.std.proofs.Common.{◌≡◌, ℕ, zero, suc, ◌-◌, List, ◌∷◌, Option, Some, None, refl, ap, ◌∙◌, arith}
use Rattle.std.specs.Prelude.{codes, option_and_then}
use Rattle.pack_mean.specs.Reader.{Reader, ◌>>=◌, yields, the_text, more_of, each_of}

-- One before those that were taken.
abbrev pub with_first : {A : Type 0} → A → Option (List A × List ℕ) → Option (List A × List ℕ)
with_first x taken = option_and_then (λ t. Some (x ∷ t.0, t.1)) taken

abbrev first_and_more : {A B : Type 0} → Reader A → List B → Reader (List A)
first_and_more read bs = read >>= λ first. (more_of read bs >>= λ more. yields (first ∷ more))

pub each_step : {A B : Type 0} (read : Reader A) (b : B) (bs : List B) (t0 t1 : List ℕ) (x : A) →
    read t0 ≡ Some (x, t1) →
    each_of read (b ∷ bs) t0 ≡ with_first x (more_of read bs t1)
each_step {A} read b bs t0 t1 x e =
    ap (option_and_then (λ (t : A × List ℕ). (more_of read bs >>= λ more. yields (t.0 ∷ more)) t.1)) e

pub each_none : {A B : Type 0} (read : Reader A) (b : B) (bs : List B) (t0 : List ℕ) → read t0 ≡ None →
    each_of read (b ∷ bs) t0 ≡ None
each_none {A} read b bs t0 e =
    ap (option_and_then (λ (t : A × List ℕ). (more_of read bs >>= λ more. yields (t.0 ∷ more)) t.1)) e

pub more_step : {A B : Type 0} (read : Reader A) (b : B) (bs : List B) (t0 t1 t2 : List ℕ) (x : A) →
    the_text (codes ",") t0 ≡ Some (tt, t1) →
    read t1 ≡ Some (x, t2) → more_of read (b ∷ bs) t0 ≡ with_first x (more_of read bs t2)
more_step read b bs t0 t1 t2 x comma e =
    ap (option_and_then (λ (t : Unit {0} × List ℕ). first_and_more read bs t.1)) comma ∙ each_step read b bs t1 t2 x e

pub more_no_comma : {A B : Type 0} (read : Reader A) (b : B) (bs : List B) (t0 : List ℕ) →
    the_text (codes ",") t0 ≡ None → more_of read
    (b ∷ bs) t0 ≡ None
more_no_comma read b bs t0 comma = ap (option_and_then (λ (t : Unit {0} × List ℕ). first_and_more read bs t.1)) comma

pub more_none : {A B : Type 0} (read : Reader A) (b : B) (bs : List B) (t0 t1 : List ℕ) →
    the_text (codes ",") t0 ≡ Some (tt, t1) →
    read t1 ≡ None → more_of read (b ∷ bs) t0 ≡ None
more_none read b bs t0 t1 comma e =
    ap (option_and_then (λ (t : Unit {0} × List ℕ). first_and_more read bs t.1)) comma ∙ each_none read b bs t1 e

-- a number that isn't 0 is one more than what is left of it
pub one_less : (n : ℕ) → (n ≡ 0 → ⊥) → n ≡ suc (n - 1)
one_less zero some = absurd (some refl)
one_less (suc n) some = omega arith
