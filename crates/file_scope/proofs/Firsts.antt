-- The first fault, once all faults are judged.
use Rattle.std.proofs.Common.{◌≡◌, ℕ, Bool, true, false, if◌then◌else◌, List, [], ◌∷◌, map, fold, Some, None}
use Rattle.std.proofs.Common.{option_map, refl, sym, ap, ap₂, ◌∙◌}
use Rattle.fault_mean.specs.Earliest.{earlier, earlier_of, earliest}
use Rattle.std.specs.Cmp.Lexicographic.{slice_cmp}
use Rattle.std.specs.Ordering.{is_lt, nat_cmp}
use Rattle.file_scope.specs.Found.{Finds, FindsBy, anywhere, fault_key, first_rank, moved_to}
use Rattle.file_scope.specs.declared.found.Fault.{Fault}
use Rattle.file_scope.specs.declared.found.Found.{Found}
use Rattle.file_scope.proofs.Moved.{map_same}

-- faults that are shown keep their order
fold_shown : {F : Type 0} (shown : F → Fault) (key : F → List ℕ) (f : F) (fs : List F) →
    ((f : F) → key f ≡ fault_key (shown f)) →
    fold (earlier_of fault_key) (shown f) (map shown fs) ≡ shown (fold (earlier_of key) f fs)
fold_shown shown key f [] keys = refl
fold_shown {F} shown key f (g ∷ fs) keys =
    go _ _ (ap₂ (λ a b. is_lt (slice_cmp nat_cmp a b)) (sym (keys g)) (sym (keys f))) (fold_shown shown key g fs keys)
    (fold_shown shown key f fs keys) where
      go : (b c : Bool) → b ≡ c →
          fold (earlier_of fault_key) (shown g) (map shown fs) ≡ shown (fold (earlier_of key) g fs) →
          fold (earlier_of fault_key) (shown f) (map shown fs) ≡ shown (fold (earlier_of key) f fs) →
          fold (earlier_of fault_key) (if b then shown g else shown f) (map shown fs) ≡
          shown (fold (earlier_of key) (if c then g else f) fs)
      go true true e one other = one
      go false false e one other = other
      go true false e one other = absurd (cc e)
      go false true e one other = absurd (cc e)

earliest_shown : {F : Type 0} (shown : F → Fault) (key : F → List ℕ) (fs : List F) →
    ((f : F) → key f ≡ fault_key (shown f)) →
    earliest fault_key (map shown fs) ≡ option_map shown (earliest key fs)
earliest_shown shown key [] keys = refl
earliest_shown shown key (f ∷ fs) keys = ap Some (fold_shown shown key f fs keys)

-- of all faults, from the beginning
pub first_is : {F : Type 0} (shown : F → Fault) (key : F → List ℕ) (start judged : Found) (fs : List F) →
    ((f : F) → key f ≡ fault_key (shown f)) → start.first ≡ None → start.moved ≡ None → FindsBy shown start fs judged →
    judged.first ≡ option_map shown (earliest key fs)
unfolding FindsBy Finds
first_is shown key start judged fs keys first moved finds =
    finds.1
    ∙ (ap₂ (λ f m. earlier fault_key f (earliest fault_key (map (moved_to m) (map shown fs)))) first moved
    ∙ (ap (earliest fault_key) (map_same (map shown fs)) ∙ earliest_shown shown key fs keys))

-- and of faults that are moved to one place
pub rank_is : {F : Type 0} (shown : F → Fault) (start judged : Found) (fs : List F) →
    start.first ≡ None → start.moved ≡ Some anywhere → FindsBy shown start fs judged →
    option_map (λ (f : Fault). f.rank) judged.first ≡ first_rank (map shown fs)
unfolding FindsBy Finds
rank_is shown start judged fs first moved finds =
    ap (option_map (λ (f : Fault). f.rank))
    (finds.1 ∙ ap₂ (λ f m. earlier fault_key f (earliest fault_key (map (moved_to m) (map shown fs)))) first moved)
