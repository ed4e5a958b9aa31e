-- Where lists of acts differ first, by their numbers.
use Rattle.std.proofs.Common.{◌≡◌, ℕ, zero, suc, ◌+◌, ◌<◌, ◌≤◌, Bool, true, false, List, [], ◌∷◌, ◌++◌, length, map}
use Rattle.std.proofs.Common.{take, get_or, Option, Some, None, refl, sym, ap, subst, ◌∙◌, arith}
use Rattle.std.specs.Prelude.{option_map}
use Rattle.std.specs.List.{AllZip, slice_get}
use Rattle.std.specs.Option.{unwrap_or}
use Rattle.std.proofs.lemmas.Bool.{false≢true}
use Rattle.std.proofs.lemmas.List.{take-map, take_all, take_more}
use Rattle.std.proofs.lemmas.Option.{slice_get_within, slice_get_past, slice_get-map, get_or_from_slice_get}
use Rattle.std.proofs.lemmas.Option.{slice_get-get_or}
use Rattle.pack_mean.specs.Accepted.{DifferAt}
use Rattle.trace_core.proofs.Earlier.{some_of}
use Rattle.symbol_mean.specs.Value.{Act}
use Rattle.symbol_compare.specs.declared.form.ValueForm.{ValueForm}
use Rattle.symbol_compare.specs.declared.form.ActForm.{ActForm}
use Rattle.symbol_compare.specs.Meant.{Meant, meanings, act_in}
use Rattle.symbol_compare.specs.Table.{IsWellAct, AreWell}
use Rattle.symbol_compare.specs.Set.{AreOne}
use Rattle.symbol_compare.specs.Walk.{ActStands}
use Rattle.symbol_compare.specs.Differ.{Differs, IsSame, SameAt}
use Rattle.symbol_compare.specs.Steps.{ActsMade}
use Rattle.symbol_compare.specs.contracts.form.ActFormPartialEq.TheImpl as act_eq
use Rattle.symbol_compare.specs.contracts.form.ActFormEq.TheImpl.Laws.{laws-law}
use Rattle.symbol_compare.proofs.Exact.{act_exact}
use Rattle.symbol_compare.proofs.Once.{act_once}
use Rattle.symbol_compare.proofs.Acting.{acts_grown}

some_is : {A : Type 0} (y x : A) → Some y ≡ Some x → y ≡ x
some_is y x e = ap (λ o. unwrap_or o y) e

acts_are : (ms : List Meant) (xs : List ActForm) (does : List Act) → AllZip (ActStands ms) xs does →
    map (act_in ms) xs ≡ does
acts_are ms [] [] h = refl
acts_are ms [] (a ∷ does) h = absurd h
acts_are ms (x ∷ xs) [] h = absurd h
acts_are ms (x ∷ xs) (a ∷ does) h = λ t. h.0.is t ∷ acts_are ms xs does h.1 t

act_well : (ms : List Meant) (xs : List ActForm) (does : List Act) (k : ℕ) (x : ActForm) →
    AllZip (ActStands ms) xs does → slice_get xs k ≡ Some x → IsWellAct ms x
act_well ms [] does k x h e = absurd (omega (arith, slice_get_within [] k x e))
act_well ms (y ∷ xs) [] k x h e = absurd h
act_well ms (y ∷ xs) (a ∷ does) zero x h e = subst (λ z. IsWellAct ms z) (some_is y x e) h.0.well
act_well ms (y ∷ xs) (a ∷ does) (suc k) x h e = act_well ms xs does k x h.1 e

module _ (fs : List ValueForm) (w : AreWell [] fs) (u : AreOne fs) (xs ys : List ActForm) (does bs : List Act)
    (h : AllZip (ActStands (meanings fs)) xs does) (g : AllZip (ActStands (meanings fs)) ys bs) where
  not_other : (k : ℕ) (o p : Option ActForm) → slice_get xs k ≡ o → slice_get ys k ≡ p → (o ≡ p → ⊥) →
      option_map (act_in (meanings fs)) o ≡ option_map (act_in (meanings fs)) p → ⊥
  not_other k None None eo ep apart same = apart refl
  not_other k None (Some y) eo ep apart same = absurd (cc same)
  not_other k (Some x) None eo ep apart same = absurd (cc same)
  not_other k (Some x) (Some y) eo ep apart same = apart (ap Some (act_once fs w u x y
      (act_well (meanings fs) xs does k x h eo) (act_well (meanings fs) ys bs k y g ep)
      (some_is (act_in (meanings fs) x) (act_in (meanings fs) y) same)))

  acts_apart : (k : ℕ) → DifferAt xs ys k → DifferAt does bs k
  acts_apart k d = record {
    equal = ap (take k) (sym (acts_are (meanings fs) xs does h))
        ∙ take-map (act_in (meanings fs)) k xs
        ∙ ap (map (act_in (meanings fs))) d.equal
        ∙ sym (take-map (act_in (meanings fs)) k ys)
        ∙ ap (take k) (acts_are (meanings fs) ys bs g);
    other = λ same. not_other k (slice_get xs k) (slice_get ys k) refl refl d.other
        (sym (slice_get-map (act_in (meanings fs)) xs k)
        ∙ ap (λ l. slice_get l k) (acts_are (meanings fs) xs does h)
        ∙ same
        ∙ ap (λ l. slice_get l k) (sym (acts_are (meanings fs) ys bs g))
        ∙ slice_get-map (act_in (meanings fs)) ys k);
  }

  acts_differ : (place : Option ℕ) → Differs xs ys place → Differs does bs place
  acts_differ None e = sym (acts_are (meanings fs) xs does h) ∙ ap (map (act_in (meanings fs))) e ∙
      acts_are (meanings fs) ys bs g
  acts_differ (Some k) d = acts_apart k d

-- Of two traces.
pub traces_differ : (a b c : List ValueForm) (xs ys : List ActForm) (does bs : List Act) (place : Option ℕ) →
    AreWell [] c → AreOne c →
    ActsMade a b does xs → ActsMade b c bs ys → Differs xs ys place → Differs does bs place
traces_differ a b c xs ys does bs place w u m n d = acts_differ c w u xs ys does bs (acts_grown n.grows xs does m.stand)
    n.stand place d

pub traces_told : (a b c : List ValueForm) (xs ys us vs : List ActForm) (does bs : List Act) (place : Option ℕ) →
    AreWell [] c → AreOne c →
    ActsMade a b does xs → ActsMade b c bs ys → us ≡ xs → vs ≡ ys → Differs us vs place → Differs does bs place
traces_told a b c xs ys us vs does bs place w u m n ex ey d =
    traces_differ a b c xs ys does bs place w u m n
    (subst (λ l. Differs l ys place) ex (subst (λ l. Differs us l place) ey d))

-- Going along two lists.
pub acts_told : (x y : ActForm) (b : Bool) → b ≡ act_eq.eq-value.it x y → IsSame x y b
acts_told x y true e = act_exact x y (sym e)
acts_told x y false e = λ same. false≢true (e ∙ ap (λ z. act_eq.eq-value.it x z) (sym same) ∙ laws-law.refl x)

pub same_there : (xs ys : List ActForm) (k : ℕ) (x y : ActForm) (b : Bool) → k < length xs → x ≡ get_or xs k x →
    Some y ≡ slice_get ys k → IsSame x y b →
    SameAt xs ys k b
same_there xs ys k x y true lt ex ey e = slice_get-get_or xs k x lt ∙ ap Some (sym ex ∙ e) ∙ ey
same_there xs ys k x y false lt ex ey e =
    λ same. e (some_is x y (ap Some ex ∙ sym (slice_get-get_or xs k x lt) ∙ same ∙ sym ey))

pub none_there : (xs ys : List ActForm) (k : ℕ) → k < length xs → None ≡ slice_get ys k → SameAt xs ys k false
none_there xs ys k lt e = λ same. let x = some_of xs k lt in absurd (cc (sym x.1 ∙ same ∙ sym e))

pub same_more : (xs ys : List ActForm) (k : ℕ) → k < length xs → take k xs ≡ take k ys →
    slice_get xs k ≡ slice_get ys k → take (k + 1) xs ≡ take (k + 1) ys
same_more xs ys k lt before here =
    let x = some_of xs k lt in
    let y = sym here ∙ x.1 in
    take_more xs k x.0 lt
    ∙ (λ t. before t ++ (get_or_from_slice_get xs k x.0 x.0 x.1 ∙ sym (get_or_from_slice_get ys k x.0 x.0 y)) t ∷ [])
    ∙ sym (take_more ys k x.0 (slice_get_within ys k x.0 y))

pub ends_apart : (xs ys : List ActForm) (n : ℕ) → n ≡ length xs → length xs < length ys → take n xs ≡ take n ys →
    DifferAt xs ys n
ends_apart xs ys n e lt same = record {
  equal = same;
  other = λ here. let y = some_of ys n (omega (arith, e, lt)) in
      absurd (cc (sym (slice_get_past xs n (omega (arith, e))) ∙ here ∙ y.1));
}

pub ends_same : (xs ys : List ActForm) (n : ℕ) → n ≡ length xs → length ys ≤ length xs → take n xs ≡ take n ys → xs ≡ ys
ends_same xs ys n e le same = sym (take_all n xs (omega (arith, e))) ∙ same ∙ take_all n ys (omega (arith, e, le))
