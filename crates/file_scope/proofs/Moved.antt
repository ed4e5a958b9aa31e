-- Faults that are moved to one place: which of them comes first there is the same at every place.
use Rattle.std.proofs.Common.{◌≡◌, ℕ, Bool, true, false, if◌then◌else◌, List, [], ◌∷◌, map, fold, Option, Some, None}
use Rattle.std.proofs.Common.{option_map, refl, sym, ap, ◌∙◌, subst}
use Rattle.std.specs.Cmp.{nat_cmp_is}
use Rattle.std.specs.Cmp.Lexicographic.{slice_cmp}
use Rattle.std.specs.Ordering.{is_lt, nat_cmp, ordering_then}
use Rattle.std.specs.declared.cmp.Ordering.TheVariants.{Equal}
use Rattle.layer_words.specs.declared.places.At.{At}
use Rattle.fault_mean.specs.Earliest.{earlier, earlier_of, earliest, key_at, precedes}
use Rattle.file_scope.specs.Found.{Finds, FindsBy, anywhere, fault_key, first_rank, moved_to}
use Rattle.file_scope.specs.declared.found.Fault.{Fault}
use Rattle.file_scope.specs.declared.found.Found.{Found}

-- at one place the ranks decide
at_one : (at : At) (r s : ℕ) → slice_cmp nat_cmp (key_at at r) (key_at at s) ≡ ordering_then (nat_cmp r s) Equal
at_one at r s =
    ap (λ x. ordering_then x (ordering_then (nat_cmp at.col at.col) (ordering_then (nat_cmp r s) Equal)))
    (sym (nat_cmp_is at.line at.line Equal refl))
    ∙ ap (λ x. ordering_then x (ordering_then (nat_cmp r s) Equal)) (sym (nat_cmp_is at.col at.col Equal refl))

precedes_alike : (o at : At) (f g : Fault) →
    precedes fault_key (moved_to (Some at) f) (moved_to (Some at) g) ≡
    precedes fault_key (moved_to (Some o) f) (moved_to (Some o) g)
precedes_alike o at f g = ap is_lt (at_one at f.rank g.rank ∙ sym (at_one o f.rank g.rank))

fold_moved : (o at : At) (f : Fault) (fs : List Fault) →
    fold (earlier_of fault_key) (moved_to (Some at) f) (map (moved_to (Some at)) fs)
    ≡ moved_to (Some at) (fold (earlier_of fault_key) (moved_to (Some o) f) (map (moved_to (Some o)) fs))
fold_moved o at f [] = refl
fold_moved o at f (g ∷ fs) = go _ _ (precedes_alike o at g f) (fold_moved o at g fs) (fold_moved o at f fs) where
  go : (b c : Bool) → b ≡ c →
      fold (earlier_of fault_key) (moved_to (Some at) g) (map (moved_to (Some at)) fs)
      ≡ moved_to (Some at) (fold (earlier_of fault_key) (moved_to (Some o) g) (map (moved_to (Some o)) fs)) →
      fold (earlier_of fault_key) (moved_to (Some at) f) (map (moved_to (Some at)) fs)
      ≡ moved_to (Some at) (fold (earlier_of fault_key) (moved_to (Some o) f) (map (moved_to (Some o)) fs)) →
      fold (earlier_of fault_key) (if b then moved_to (Some at) g else moved_to (Some at) f)
      (map (moved_to (Some at)) fs)
      ≡ moved_to (Some at) (fold (earlier_of fault_key) (if c then moved_to (Some o) g else moved_to (Some o) f)
      (map (moved_to (Some o)) fs))
  go true true e one other = one
  go false false e one other = other
  go true false e one other = absurd (cc e)
  go false true e one other = absurd (cc e)

first_moved : (at : At) (fs : List Fault) →
    earliest fault_key (map (moved_to (Some at)) fs) ≡ option_map (λ r. record { at = at; rank = r }) (first_rank fs)
first_moved at [] = refl
first_moved at (f ∷ fs) = ap Some (fold_moved anywhere at f fs)

pub map_same : (fs : List Fault) → map (moved_to None) fs ≡ fs
map_same [] = refl
map_same (f ∷ fs) = ap (λ l. f ∷ l) (map_same fs)

map_twice : (o at : At) (fs : List Fault) → map (moved_to (Some at)) (map (moved_to (Some o)) fs) ≡
    map (moved_to (Some at)) fs
map_twice o at [] = refl
map_twice o at (f ∷ fs) = ap (λ l. moved_to (Some at) f ∷ l) (map_twice o at fs)

-- the first of faults that are moved to a place
moved_again : (moved : Option At) (at : At) (fs : List Fault) →
    earliest fault_key (map (moved_to moved) (map (moved_to (Some at)) fs))
    ≡ option_map (λ r. moved_to moved (record { at = at; rank = r })) (first_rank fs)
moved_again None at fs = ap (earliest fault_key) (map_same (map (moved_to (Some at)) fs)) ∙ first_moved at fs
moved_again (Some to) at fs = ap (earliest fault_key) (map_twice at to fs) ∙ first_moved to fs

none-earlier : (found : Option Fault) → earlier fault_key found None ≡ found
none-earlier None = refl
none-earlier (Some f) = refl

pub none_moved : (a : Found) (at : At) (fs : List Fault) → None ≡ first_rank fs →
    Finds a (map (moved_to (Some at)) fs) a
unfolding Finds
none_moved a at fs is = (
  refl,
  sym (ap (earlier fault_key a.first)
      (moved_again a.moved at fs ∙ ap (option_map (λ r. moved_to a.moved (record { at = at; rank = r }))) (sym is))
      ∙ none-earlier a.first),
)

pub rank_moved : (a b : Found) (at : At) (rank : ℕ) (fs : List Fault) → Some rank ≡ first_rank fs →
    Finds a (record { at = at; rank = rank } ∷ []) b → Finds a (map (moved_to (Some at)) fs) b
unfolding Finds
rank_moved a b at rank fs is finds = (
  finds.0,
  finds.1
      ∙ ap (earlier fault_key a.first)
      (sym (moved_again a.moved at fs ∙ ap (option_map (λ r. moved_to a.moved (record { at = at; rank = r })))
      (sym is))),
)

moved_shown : {F : Type 0} (shown : F → Fault) (move : At → F → F) (at : At) (fs : List F) →
    ((f : F) → shown (move at f) ≡ moved_to (Some at) (shown f)) → map shown (map (move at) fs) ≡
    map (moved_to (Some at)) (map shown fs)
moved_shown shown move at [] law = refl
moved_shown {F} shown move at (f ∷ fs) law =
    ap (λ x. x ∷ map shown (map (move at) fs)) (law f) ∙
    ap (λ l. moved_to (Some at) (shown f) ∷ l) (moved_shown shown move at fs law)

-- faults of any type that are moved to a place, of which the first has a rank
pub moved_by : {F : Type 0} (shown : F → Fault) (move : At → F → F) (a b : Found) (at : At) (fs : List F) →
    ((f : F) → shown (move at f) ≡ moved_to (Some at) (shown f)) →
    Finds a (map (moved_to (Some at)) (map shown fs)) b → FindsBy shown a (map (move at) fs) b
unfolding FindsBy
moved_by shown move a b at fs law finds = subst (λ l. Finds a l b) (sym (moved_shown shown move at fs law)) finds
