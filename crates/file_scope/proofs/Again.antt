-- A fault that is taken into account again.
use Rattle.std.proofs.Common.{◌≡◌, Bool, true, false, ◌&&◌, if◌then◌else◌, List, [], ◌∷◌, ◌++◌, flat_map, Option, Some}
use Rattle.std.proofs.Common.{None, refl, sym, ap, ◌∙◌, subst}
use Rattle.std.specs.List.{list_all}
use Rattle.fault_mean.specs.Earliest.{earlier, precedes, unless}
use Rattle.file_scope.specs.Found.{Finds, FindsBy, fault_key, moved_to}
use Rattle.file_scope.specs.declared.found.Fault.{Fault}
use Rattle.file_scope.specs.declared.found.Found.{Found}
use Rattle.file_scope.proofs.Finds.{finds_both, finds_none}

either : (b : Bool) (f : Fault) → f ≡ (if b then f else f)
either true f = refl
either false f = refl

same_again : (o : Option Fault) (g : Fault) → earlier fault_key o (Some g) ≡
    earlier fault_key (earlier fault_key o (Some g)) (Some g)
same_again None g = ap Some (either (precedes fault_key g g) g)
same_again (Some f) g = ap Some (go (precedes fault_key g f) refl) where
  go : (b : Bool) → precedes fault_key g f ≡ b →
      (if b then g else f) ≡ (if precedes fault_key g (if b then g else f) then g else (if b then g else f))
  go true is = either (precedes fault_key g g) g
  go false is = sym (ap (λ b. if b then g else f) is)

again : (a b : Found) (f : Fault) → Finds a (f ∷ []) b → Finds b (f ∷ []) b
unfolding Finds
again a b f finds = (
  refl,
  finds.1
      ∙ (same_again a.first (moved_to a.moved f)
      ∙ (ap (λ o. earlier fault_key o (Some (moved_to a.moved f))) (sym finds.1)
      ∙ ap (λ m. earlier fault_key b.first (Some (moved_to m f))) (sym finds.0))),
)

again_by : {F : Type 0} (shown : F → Fault) (a b : Found) (f : F) → FindsBy shown a (f ∷ []) b →
    FindsBy shown b (f ∷ []) b
unfolding FindsBy
again_by shown a b f finds = again a b (shown f) finds

-- one fault, as often as a test fails: it changes nothing where it is found already
pub nothing_new : {F A : Type 0} (shown : F → Fault) (a : Found) (f : F) (test : A → Bool) (xs : List A) →
    FindsBy shown a (f ∷ []) a → FindsBy shown a (flat_map (λ x. unless (test x) f) xs) a
nothing_new shown a f test [] known = finds_none shown a
nothing_new shown a f test (x ∷ xs) known = go (test x) (nothing_new shown a f test xs known) where
  go : (b : Bool) → FindsBy shown a (flat_map (λ x. unless (test x) f) xs) a →
      FindsBy shown a (unless b f ++ flat_map (λ x. unless (test x) f) xs) a
  go true rest = rest
  go false rest = finds_both shown a a a (f ∷ []) (flat_map (λ x. unless (test x) f) xs) known rest

-- and it may be taken into account once, if the test fails anywhere
pub one_for_all : {F A : Type 0} (shown : F → Fault) (a b : Found) (f : F) (test : A → Bool) (xs : List A)
    (holds : Bool) →
    holds ≡ list_all test xs → FindsBy shown a (unless holds f) b →
    FindsBy shown a (flat_map (λ x. unless (test x) f) xs) b
one_for_all shown a b f test [] holds is finds = subst (λ h. FindsBy shown a (unless h f) b) is finds
one_for_all shown a b f test (x ∷ xs) holds is finds =
    go (test x) (subst (λ h. FindsBy shown a (unless h f) b) is finds)
    (one_for_all shown a b f test xs (list_all test xs) refl) where
      go : (c : Bool) → FindsBy shown a (unless (c && list_all test xs) f) b →
          (FindsBy shown a (unless (list_all test xs) f) b → FindsBy shown a (flat_map (λ x. unless (test x) f) xs) b) →
          FindsBy shown a (unless c f ++ flat_map (λ x. unless (test x) f) xs) b
      go true now rest = rest now
      go false now rest =
          finds_both shown a b b (f ∷ []) (flat_map (λ x. unless (test x) f) xs) now
          (nothing_new shown b f test xs (again_by shown a b f now))

-- nor does it change anything unless something holds
pub unless_past : {F : Type 0} (shown : F → Fault) (a : Found) (f : F) (holds : Bool) →
    FindsBy shown a (f ∷ []) a → FindsBy shown a (unless holds f) a
unless_past shown a f true known = finds_none shown a
unless_past shown a f false known = known
