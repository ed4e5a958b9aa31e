-- Ranges of ranges.
use Rattle.std.proofs.Common.{◌≡◌, ℕ, zero, suc, ◌+◌, ◌-◌, ◌≤◌, List, [], ◌∷◌, length, take, drop, min, refl, sym, ap}
use Rattle.std.proofs.Common.{◌∙◌, arith}
use Rattle.std.proofs.Math.Seq.{drop-nil}
use Rattle.std.proofs.lemmas.List.{length-take, length-drop, drop-drop}
use Rattle.slot_pool.specs.Held.{range}

take-nil : (n : ℕ) → ◌≡◌ {A = List ℕ} (take n []) []
take-nil zero = refl
take-nil (suc n) = refl

-- The first of the first.
take-take : (n m : ℕ) (xs : List ℕ) → take n (take m xs) ≡ take (min n m) xs
take-take zero m xs = let least : 0 ≡ min 0 m = omega arith in ap (λ k. take k xs) least
take-take (suc n) zero xs = let least : 0 ≡ min (suc n) 0 = omega arith in ap (λ k. take k xs) least
take-take (suc n) (suc m) [] = sym (take-nil (min (suc n) (suc m)))
take-take (suc n) (suc m) (x ∷ xs) =
    let least : suc (min n m) ≡ min (suc n) (suc m) = omega arith in
    ap (λ ys. x ∷ ys) (take-take n m xs) ∙ ap (λ k. take k (x ∷ xs)) least

-- The first without its first.
drop_taken : (a n : ℕ) (xs : List ℕ) → drop a (take n xs) ≡ take (n - min a n) (drop (min a n) xs)
drop_taken zero n xs =
    let least : 0 ≡ min 0 n = omega arith in
    let all : n ≡ n - min 0 n = omega arith in
    λ i. take (all i) (drop (least i) xs)
drop_taken (suc a) zero xs = let none : 0 ≡ 0 - min (suc a) 0 = omega arith in
    ap (λ k. take k (drop (min (suc a) 0) xs)) none
drop_taken (suc a) (suc n) [] =
    sym (ap (take (suc n - min (suc a) (suc n))) (drop-nil (min (suc a) (suc n))) ∙
    take-nil (suc n - min (suc a) (suc n)))
drop_taken (suc a) (suc n) (x ∷ xs) =
    let least : suc (min a n) ≡ min (suc a) (suc n) = omega arith in
    let left : n - min a n ≡ suc n - min (suc a) (suc n) = omega arith in
    drop_taken a n xs ∙ (λ i. take (left i) (drop (least i) (x ∷ xs)))

-- A range without its first a bytes.
pub range_after : (from len a : ℕ) (bs : List ℕ) → range (from + min a len) (len - min a len) bs ≡
    drop a (range from len bs)
range_after from len a bs =
    ap (take (len - min a len)) (sym (drop-drop (min a len) from bs)) ∙ sym (drop_taken a len (drop from bs))

pub range_within : (from len a n : ℕ) (bs : List ℕ) →
    range (from + min a len) (min n (len - min a len)) bs ≡ take n (drop a (range from len bs))
range_within from len a n bs =
    sym (take-take n (len - min a len) (drop (from + min a len) bs)) ∙ ap (take n) (range_after from len a bs)

pub range_cut : (from len a n s m : ℕ) (bs : List ℕ) → s ≡ min a len → m ≡ min n (len - s) →
    range (from + s) m bs ≡ take n (drop a (range from len bs))
range_cut from len a n s m bs skipped left =
    ap (λ k. range (from + s) k bs) left ∙ ap (λ k. range (from + k) (min n (len - k)) bs) skipped ∙ range_within
    from len a n bs

-- A range within a list has its length.
pub length-range : (from len : ℕ) (bs : List ℕ) → from + len ≤ length bs → length (range from len bs) ≡ len
length-range from len bs within = omega (arith, length-take len (drop from bs), length-drop from bs)

-- A range of all.
pub range_all : (bs : List ℕ) → range 0 (length bs) bs ≡ bs
range_all [] = refl
range_all (b ∷ bs) = ap (λ xs. b ∷ xs) (range_all bs)
