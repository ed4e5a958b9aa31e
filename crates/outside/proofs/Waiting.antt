-- The first datagram that waits for a member.
use Rattle.std.proofs.Common.{◌≡◌, ℕ, zero, suc, ◌+◌, ◌<◌, ◌≤◌, ◌==◌, Bool, true, false, List, [], ◌∷◌, length, get_or}
use Rattle.std.proofs.Common.{map, None, Some, refl, sym, ◌∙◌, ap, arith, ltb}
use Rattle.std.specs.List.{position, position_or_len, remove}
use Rattle.std.proofs.lemmas.Bool.{ltb-false}
use Rattle.std.proofs.lemmas.List.Quantifiers.{position-Some}
use Rattle.outside.specs.declared.datagram.Datagram.{Datagram}
use Rattle.outside.specs.Links.{first_for, without_first}
use Rattle.outside.specs.MemLinks.{sent_of}

-- the datagram at the first place that is for the member
pub first_for_found : (member : ℕ) (ds : List Datagram) (i : ℕ) (d : Datagram) → i < length ds →
    ((get_or ds i d).to == member) ≡ true → ((k : ℕ) → k < i → ((get_or ds k d).to == member) ≡ false)
    → (first_for member (map sent_of ds) ≡ Some ((get_or ds i d).bytes.items)) ×
    (without_first member (map sent_of ds) ≡ map sent_of (remove ds i))
first_for_found member [] i d within at below = absurd (omega arith)
first_for_found member (x ∷ xs) zero d within at below = (rw at refl, rw at refl)
first_for_found member (x ∷ xs) (suc i) d within at below =
    let first : (x.to == member) ≡ false = below zero (omega arith) in
    let rest : (first_for member (map sent_of xs) ≡ Some ((get_or xs i d).bytes.items)) ×
    (without_first member (map sent_of xs) ≡ map sent_of (remove xs i))
    = first_for_found member xs i d (omega arith) at (λ k lt. below (suc k) (omega arith)) in
    (rw first rest.0, rw first (ap (λ l. sent_of x ∷ l) rest.1))

-- no datagram is for the member
pub first_for_none : (member : ℕ) (ds : List Datagram) → length ds ≤ position_or_len (λ d. d.to == member) ds →
    (first_for member (map sent_of ds) ≡ None) × (without_first member (map sent_of ds) ≡ map sent_of ds)
first_for_none member [] all = (refl, refl)
first_for_none member (x ∷ xs) all = go (x.to == member) refl (λ more. first_for_none member xs more)
  where
    go : (b : Bool) → (x.to == member) ≡ b →
        (length xs ≤ position_or_len (λ d. d.to == member) xs → (first_for member (map sent_of xs) ≡ None) ×
        (without_first member (map sent_of xs) ≡ map sent_of xs))
        → (first_for member (map sent_of (x ∷ xs)) ≡ None) ×
        (without_first member (map sent_of (x ∷ xs)) ≡ map sent_of (x ∷ xs))
    go true e rest = let none : suc (length xs) ≤ 0 = rw e at all in absurd (omega arith)
    go false e rest =
        let some : suc (length xs) ≤ 1 + position_or_len (λ d. d.to == member) xs = rw e at all in
        let more : (first_for member (map sent_of xs) ≡ None) ×
        (without_first member (map sent_of xs) ≡ map sent_of xs) = rest (omega arith) in
        (rw e more.0, rw e (ap (λ l. sent_of x ∷ l) more.1))

-- what was found at a place
pub first_for_at : (member : ℕ) (ds : List Datagram) (i : ℕ) (d : Datagram) →
    Some i ≡ position (λ d. d.to == member) ds → d ≡ get_or ds i d
    → (first_for member (map sent_of ds) ≡ Some d.bytes.items) ×
    (without_first member (map sent_of ds) ≡ map sent_of (remove ds i))
first_for_at member ds i d found is =
    let at = position-Some (λ d. d.to == member) ds i d (sym found) in
    let both = first_for_found member ds i d at.0 at.1 at.2 in
    (both.0 ∙ ap (λ (e : Datagram). Some e.bytes.items) (sym is), both.1)

-- no place was found
pub first_for_past : (member : ℕ) (ds : List Datagram) → None ≡ position (λ d. d.to == member) ds →
    (first_for member (map sent_of ds) ≡ None) × (without_first member (map sent_of ds) ≡ map sent_of ds)
first_for_past member ds none = go (ltb (position_or_len (λ d. d.to == member) ds) (length ds)) refl
  where
    go : (b : Bool) → ltb (position_or_len (λ d. d.to == member) ds) (length ds) ≡ b →
        (first_for member (map sent_of ds) ≡ None) × (without_first member (map sent_of ds) ≡ map sent_of ds)
    go true e = absurd (let some = rw e at none in cc)
    go false e = first_for_none member ds (ltb-false _ _ e)
