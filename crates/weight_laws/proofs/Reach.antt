-- What is reached in a graph, and how far: along an arrow fewer nodes are reached, where no node lies on a cycle.
use Rattle.std.proofs.Common.{◌≡◌, ℕ, zero, suc, ◌≤◌, ◌<◌, Bool, true, false, not, ◌||◌, List, [], ◌∷◌, ◌++◌, length}
use Rattle.std.proofs.Common.{flat_map, refl, sym, ap, ◌∙◌, ◌⊎◌, inl, inr, ⊎_elim, append-nil, arith}
use Rattle.std.specs.Prelude.{if◌then◌else◌}
use Rattle.std.specs.List.{list_any}
use Rattle.std.proofs.lemmas.Bool.{or_cases, or_parts}
use Rattle.weight_laws.proofs.Members.{In, in_either, in_left, in_right, from_flat_map, in_flat_map, count, count_less}
use Rattle.weight_laws.proofs.Members.{count_at_most, count_below}

-- the definitions of a stack's graph, over nodes of any kind
abbrev pub unknown_by : {A : Type 0} → (A → A → Bool) → List A → List A → List A
unknown_by same known [] = []
unknown_by same known (x ∷ xs) = if list_any (same x) known then unknown_by same known xs else x ∷
    unknown_by same (x ∷ known) xs

abbrev pub reached_by : {A : Type 0} → (A → A → Bool) → (A → List A) → ℕ → List A → List A → List A
reached_by same follow steps known [] = known
reached_by same follow zero known new = known ++ new
reached_by same follow (suc steps) known (x ∷ xs) = let all = known ++ x ∷ xs in
    reached_by same follow steps all (unknown_by same all (flat_map follow (x ∷ xs)))

-- what follows from a node, and how many of all nodes that are
abbrev pub reachable : {A : Type 0} → (A → A → Bool) → (A → List A) → List A → A → List A
reachable same follow all n = reached_by same follow (length all) [] (unknown_by same [] (follow n))

abbrev pub rank : {A : Type 0} → (A → A → Bool) → (A → List A) → List A → A → ℕ
rank same follow all n = count (λ m. list_any (same m) (reachable same follow all n)) all

module _ {A : Type 0} (same : A → A → Bool) (sound : (a b : A) → same a b ≡ true → a ≡ b)
    (itself : (a : A) → same a a ≡ true)
    (follow : A → List A) where
  -- the test tells who is a member
  pub tells : (a : A) (xs : List A) → list_any (same a) xs ≡ true → In a xs
  tells a [] h = absurd (cc h)
  tells a (x ∷ xs) h = ⊎_elim (λ k. inl (sound a x k)) (λ k. inr (tells a xs k))
      (or_cases (same a x) (list_any (same a) xs) h)

  pub told : (a : A) (xs : List A) → In a xs → list_any (same a) xs ≡ true
  told a [] h = absurd h
  told a (x ∷ xs) (inl e) = rw (ap (same a) (sym e) ∙ itself a) refl
  told a (x ∷ xs) (inr h) = go (same a x) (told a xs h) where
    go : (b : Bool) → list_any (same a) xs ≡ true → (b || list_any (same a) xs) ≡ true
    go true k = refl
    go false k = k

  pub unknown_sub : (y : A) (known xs : List A) → In y (unknown_by same known xs) → In y xs
  unknown_sub y known [] h = h
  unknown_sub y known (x ∷ xs) h =
      go (list_any (same x) known) (unknown_sub y known xs) (unknown_sub y (x ∷ known) xs) h where
        go : (b : Bool) → (In y (unknown_by same known xs) → In y xs) →
            (In y (unknown_by same (x ∷ known) xs) → In y xs) →
            In y (if b then unknown_by same known xs else x ∷ unknown_by same (x ∷ known) xs) → In y (x ∷ xs)
        go true one other h = inr (one h)
        go false one other (inl e) = inl e
        go false one other (inr h) = inr (other h)

  unknown_new : (y : A) (known xs : List A) → In y (unknown_by same known xs) → list_any (same y) known ≡ false
  unknown_new y known [] h = absurd h
  unknown_new y known (x ∷ xs) h =
      go (list_any (same x) known) refl (unknown_new y known xs) (unknown_new y (x ∷ known) xs) h where
        go : (b : Bool) → list_any (same x) known ≡ b →
            (In y (unknown_by same known xs) → list_any (same y) known ≡ false) →
            (In y (unknown_by same (x ∷ known) xs) → list_any (same y) (x ∷ known) ≡ false) →
            In y (if b then unknown_by same known xs else x ∷ unknown_by same (x ∷ known) xs) →
            list_any (same y) known ≡ false
        go true e one other h = one h
        go false e one other (inl is) = ap (λ z. list_any (same z) known) is ∙ e
        go false e one other (inr h) = (or_parts (same y x) (list_any (same y) known) (other h)).1

  unknown_has : (y : A) (known xs : List A) → In y xs → In y known ⊎ In y (unknown_by same known xs)
  unknown_has y known [] h = absurd h
  unknown_has y known (x ∷ xs) h =
      go (list_any (same x) known) refl (unknown_has y known xs) (unknown_has y (x ∷ known) xs) h where
        go : (b : Bool) → list_any (same x) known ≡ b → (In y xs → In y known ⊎ In y (unknown_by same known xs)) →
            (In y xs → In y (x ∷ known) ⊎ In y (unknown_by same (x ∷ known) xs)) → In y (x ∷ xs) →
            In y known ⊎ In y (if b then unknown_by same known xs else x ∷ unknown_by same (x ∷ known) xs)
        go true e one other (inl is) = inl (tells y known (ap (λ z. list_any (same z) known) is ∙ e))
        go true e one other (inr h) = one h
        go false e one other (inl is) = inr (inl is)
        go false e one other (inr h) = early (other h) where
          early : In y (x ∷ known) ⊎ In y (unknown_by same (x ∷ known) xs) →
              In y known ⊎ In y (x ∷ unknown_by same (x ∷ known) xs)
          early (inl (inl is)) = inr (inl is)
          early (inl (inr k)) = inl k
          early (inr k) = inr (inr k)

  -- what is reached has what was known and new
  reached_keeps : (steps : ℕ) (known new : List A) (x : A) → In x (known ++ new) →
      In x (reached_by same follow steps known new)
  reached_keeps steps known [] x h = rw append-nil at h
  reached_keeps zero known (y ∷ ys) x h = h
  reached_keeps (suc steps) known (y ∷ ys) x h =
      reached_keeps steps (known ++ y ∷ ys) (unknown_by same (known ++ y ∷ ys) (flat_map follow (y ∷ ys))) x
      (in_left x (known ++ y ∷ ys) _ h)

  -- and nothing more than what follows from it
  pub reached_has : (P : A → Type 0) → ((x y : A) → P x → In y (follow x) → P y) → (steps : ℕ) (known new : List A) →
      ((x : A) → In x known → P x) → ((x : A) → In x new → P x) → (x : A) →
      In x (reached_by same follow steps known new) → P x
  reached_has P along steps known [] old fresh x h = old x h
  reached_has P along zero known (y ∷ ys) old fresh x h = ⊎_elim (old x) (fresh x) (in_either x known (y ∷ ys) h)
  reached_has P along (suc steps) known (y ∷ ys) old fresh x h =
      reached_has P along steps (known ++ y ∷ ys) (unknown_by same (known ++ y ∷ ys) (flat_map follow (y ∷ ys)))
      (λ z k. ⊎_elim (old z) (fresh z) (in_either z known (y ∷ ys) k))
      (λ z k. from_flat_map follow z (y ∷ ys) (λ w m n. along w z (fresh w m) n)
      (unknown_sub z (known ++ y ∷ ys) (flat_map follow (y ∷ ys)) k))
      x h

  abbrev Closed : List A → Type 0
  Closed xs = (x y : A) → In x xs → In y (follow x) → In y xs

  module _ (all : List A) (Is : A → Type 0) (listed : (x : A) → Is x → In x all)
      (next : (x y : A) → Is x → In y (follow x) → Is y) where
    -- how many aren't known
    abbrev unseen : List A → ℕ
    unseen known = count (λ a. not (list_any (same a) known)) all

    grows : (known more : List A) (a : A) → not (list_any (same a) (known ++ more)) ≡ true →
        not (list_any (same a) known) ≡ true
    grows known more a h = go (list_any (same a) known) refl where
      go : (b : Bool) → list_any (same a) known ≡ b → not b ≡ true
      go true e = absurd (cc (ap not (told a (known ++ more) (in_left a known more (tells a known e))), h))
      go false e = refl

    falls : (known : List A) (y : A) (ys : List A) → Is y → list_any (same y) known ≡ false →
        unseen (known ++ y ∷ ys) < unseen known
    falls known y ys is new = count_less (λ a. not (list_any (same a) (known ++ y ∷ ys)))
        (λ a. not (list_any (same a) known)) y all
        (grows known (y ∷ ys)) (listed y is)
        (ap not (told y (known ++ y ∷ ys) (in_right y known (y ∷ ys) (inl refl))))
        (ap not new)

    -- in enough rounds nothing new is left
    reached_closed : (steps : ℕ) (known new : List A) → unseen known ≤ steps → ((x : A) → In x new → Is x) →
        ((x : A) → In x new → list_any (same x) known ≡ false) →
        ((x y : A) → In x known → In y (follow x) → In y (known ++ new)) →
        Closed (reached_by same follow steps known new)
    reached_closed steps known [] enough is fresh old = λ x y m f. rw append-nil at (old x y m f)
    reached_closed zero known (z ∷ zs) enough is fresh old =
        absurd (omega (arith, falls known z zs (is z (inl refl)) (fresh z (inl refl))))
    reached_closed (suc steps) known (z ∷ zs) enough is fresh old =
        let all_of = known ++ z ∷ zs in
        let found = flat_map follow (z ∷ zs) in
        reached_closed steps all_of (unknown_by same all_of found)
        (omega (arith, falls known z zs (is z (inl refl)) (fresh z (inl refl))))
        (λ x m. from_flat_map follow x (z ∷ zs) (λ w k n. next w x (is w k) n) (unknown_sub x all_of found m))
        (λ x m. unknown_new x all_of found m)
        (λ x y m f. ⊎_elim
        (λ k. in_left y all_of (unknown_by same all_of found) (old x y k f))
        (λ k. ⊎_elim (in_left y all_of (unknown_by same all_of found))
        (in_right y all_of (unknown_by same all_of found))
        (unknown_has y all_of found (in_flat_map follow y x (z ∷ zs) k f)))
        (in_either x known (z ∷ zs) m))

    after_closed : (n : A) → Is n → Closed (reachable same follow all n)
    after_closed n is = reached_closed (length all) [] (unknown_by same [] (follow n))
        (count_at_most (λ a. not (list_any (same a) [])) all)
        (λ x m. next n x is (unknown_sub x [] (follow n) m)) (λ x m. refl) (λ x y m f. absurd m)

    after_first : (n t : A) → In t (follow n) → In t (reachable same follow all n)
    after_first n t m = reached_keeps (length all) [] (unknown_by same [] (follow n)) t
        (⊎_elim (λ k. absurd k) (λ k. k) (unknown_has t [] (follow n) m))

    after_more : (n t : A) → Is n → In t (follow n) → (x : A) → In x (reachable same follow all t) →
        In x (reachable same follow all n)
    after_more n t is m = reached_has (λ x. In x (reachable same follow all n)) (λ x y p f. after_closed n is x y p f)
        (length all) [] (unknown_by same [] (follow t))
        (λ x k. absurd k)
        (λ x k. after_closed n is t x (after_first n t m) (unknown_sub x [] (follow t) k))

    pub rank_falls : (n t : A) → Is n → In t (follow n) → list_any (same t) (reachable same follow all t) ≡ false →
        rank same follow all t < rank same follow all n
    rank_falls n t is m off = count_less (λ x. list_any (same x) (reachable same follow all t))
        (λ x. list_any (same x) (reachable same follow all n)) t all
        (λ x k. told x (reachable same follow all n) (after_more n t is m x (tells x (reachable same follow all t) k)))
        (listed t (next n t is m)) off (told t (reachable same follow all n) (after_first n t m))

    pub rank_below : (n : A) → Is n → list_any (same n) (reachable same follow all n) ≡ false →
        rank same follow all n < length all
    rank_below n is off = count_below (λ x. list_any (same x) (reachable same follow all n)) n all (listed n is) off
