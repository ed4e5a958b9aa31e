-- Sums of numbers that are held below a bound.
use Rattle.std.proofs.Common.{◌≡◌, ℕ, zero, suc, ◌+◌, ◌*◌, ◌≤◌, min, max, List, [], ◌∷◌, map, sym, ap, ◌∙◌, ◌⊎◌, inl}
use Rattle.std.proofs.Common.{inr, mul-le-mul_left, mul-le-mul_right, arith}
use Rattle.stack_mean.specs.Acceptance.{largest}
use Rattle.weight_laws.proofs.Visits.{largest_from}

either : (a b : ℕ) → (a ≤ b) ⊎ (b ≤ a)
either a b = grind arith

at_least : (c x y : ℕ) → c ≤ x → 1 ≤ y → c ≤ x * y
at_least c x y h some = omega (arith, mul-le-mul_right y h, mul-le-mul_left c some)

-- the product of two held numbers is theirs, or both products pass the bound
products : (c t l : ℕ) → (min t c * min l c ≡ t * l) ⊎ ((c ≤ min t c * min l c) × (c ≤ t * l))
products zero t l = inr (omega arith, omega arith)
products (suc c) zero l = inl (ap (λ x. x * min l (suc c)) small ∙ omega arith) where
  small : min 0 (suc c) ≡ 0
  small = omega arith
products (suc c) t zero = inl (ap (λ x. min t (suc c) * x) small ∙ omega arith) where
  small : min 0 (suc c) ≡ 0
  small = omega arith
products (suc c) (suc t) (suc l) = go (either (suc t) (suc c)) (either (suc l) (suc c)) where
  go : (suc t ≤ suc c) ⊎ (suc c ≤ suc t) → (suc l ≤ suc c) ⊎ (suc c ≤ suc l) →
      (min (suc t) (suc c) * min (suc l) (suc c) ≡ suc t * suc l) ⊎
      ((suc c ≤ min (suc t) (suc c) * min (suc l) (suc c)) × (suc c ≤ suc t * suc l))
  go (inl ht) (inl hl) =
      let one : min (suc t) (suc c) ≡ suc t = omega arith in
      let other : min (suc l) (suc c) ≡ suc l = omega arith in
      inl (λ i. one i * other i)
  go (inr ht) hl = inr (
    at_least (suc c) (min (suc t) (suc c)) (min (suc l) (suc c)) (omega arith) (omega arith),
    at_least (suc c) (suc t) (suc l) ht (omega arith),
  )
  go (inl ht) (inr hl) =
      let one = at_least (suc c) (min (suc l) (suc c)) (min (suc t) (suc c)) (omega arith) (omega arith) in
      let other = at_least (suc c) (suc l) (suc t) hl (omega arith) in
      inr (omega arith, omega arith)

-- one more product in a sum that is held
pub one_more : (c x t l : ℕ) → min (min x c + min t c * min l c) c ≡ min (x + t * l) c
one_more c x t l = go (products c t l) where
  go : (min t c * min l c ≡ t * l) ⊎ ((c ≤ min t c * min l c) × (c ≤ t * l)) → min (min x c + min t c * min l c) c ≡ min
      (x + t * l) c
  go (inl same) = ap (λ p. min (min x c + p) c) same ∙ still x (t * l) where
    still : (x p : ℕ) → min (min x c + p) c ≡ min (x + p) c
    still x p = omega arith
  go (inr past) = above (min t c * min l c) (t * l) past.0 past.1 where
    above : (p q : ℕ) → c ≤ p → c ≤ q → min (min x c + p) c ≡ min (x + q) c
    above p q hp hq = omega arith

pub largest_cons : (n : ℕ) (ns : List ℕ) → largest (n ∷ ns) ≡ max n (largest ns)
largest_cons n ns = largest_from (max 0 n) ns ∙ omega arith

-- the largest of held numbers is the largest, held
pub largest_held : {A : Type 0} (c : ℕ) (f : A → ℕ) (xs : List A) → largest (map (λ x. min (f x) c) xs) ≡ min
    (largest (map f xs)) c
largest_held c f [] = omega arith
largest_held c f (x ∷ xs) =
    largest_cons (min (f x) c) (map (λ y. min (f y) c) xs)
    ∙ ap (λ n. max (min (f x) c) n) (largest_held c f xs)
    ∙ both (f x) (largest (map f xs))
    ∙ ap (λ n. min n c) (sym (largest_cons (f x) (map f xs))) where
      both : (a b : ℕ) → max (min a c) (min b c) ≡ min (max a b) c
      both a b = omega arith
