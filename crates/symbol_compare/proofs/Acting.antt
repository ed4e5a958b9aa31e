-- Acts that are made, and that stay.
use Rattle.std.proofs.Common.{◌≡◌, ℕ, List, [], ◌∷◌, map, Option, Some, None, sym, ap, subst, ◌∙◌}
use Rattle.std.specs.List.{AllZip}
use Rattle.layer_words.specs.declared.events.Dir.{Dir}
use Rattle.layer_words.specs.declared.events.Kind.{Kind}
use Rattle.symbol_mean.specs.Value as value
use Rattle.symbol_mean.specs.Value.{NumberValue, ChainedValue, Act}
use Rattle.symbol_compare.specs.declared.form.ValueForm.{ValueForm}
use Rattle.symbol_compare.specs.declared.form.ActForm.{ActForm}
use Rattle.symbol_compare.specs.declared.form.ActForm.TheVariants as acts
use Rattle.symbol_compare.specs.Meant.{Meant, a_number, a_row, a_sending, row_of, sending_of, number_in, row_in}
use Rattle.symbol_compare.specs.Meant.{sending_in, meanings, act_in}
use Rattle.symbol_compare.specs.Table.{Stands, IsNumber, IsRow, IsSending, IsWellAct, Grown, Made}
use Rattle.symbol_compare.specs.Walk.{NumbersMade, ActStands, ActMade}
use Rattle.symbol_compare.proofs.Growing.{grown_on, grown_far, not_grown, stands_grown, number_is, number_there}
use Rattle.symbol_compare.proofs.Growing.{zip_map}
use Rattle.symbol_compare.proofs.Sent.{row_there, numbers_are}

sending_there : {ms : List Meant} {k : ℕ} {m : Option ChainedValue} → Stands ms k (a_sending m) → IsSending ms k
sending_there {ms} {k} s = subst (λ l. Stands ms k (a_sending l)) (sym (ap sending_of s.stands)) s

pub no_act : (fs : List ValueForm) → ActMade fs fs [] None
no_act fs = record { grows = not_grown fs; stand = tt }

pub check_made : {a b : List ValueForm} {i : ℕ} {x : NumberValue} → Made a b i (a_number x) →
    ActMade a b (value.check x ∷ []) (Some (acts.Check i))
check_made m = record
    { grows = m.grows; stand = (record { well = number_there m.stands; is = ap value.check (number_is m.stands) }, tt) }

pub take_made : {a b : List ValueForm} {i : ℕ} {x : NumberValue} (p c : ℕ) → Made a b i (a_number x) →
    ActMade a b (value.take p c x ∷ []) (Some (acts.Take p c i))
take_made p c m = record {
  grows = m.grows;
  stand =
      (record { well = number_there m.stands; is = ap (value.take p c) (number_is m.stands) }, tt);
}

pub set_made : {a b e : List ValueForm} {i j : ℕ} {x y : NumberValue} (p c : ℕ) → Made a b i (a_number x) →
    Made b e j (a_number y) →
    ActMade a e (value.set p c x y ∷ []) (Some (acts.Set p c i j))
set_made p c m n = let k = stands_grown n.grows m.stands in record {
  grows = grown_on m.grows n.grows;
  stand = (
    record {
      well = (number_there k, number_there n.stands);
      is = λ t.
          value.set p c (number_is k t) (number_is n.stands t);
    },
    tt,
  );
}

pub square_made : {a b e f : List ValueForm} {i j l : ℕ} {x y z : NumberValue} (p c : ℕ) → Made a b i (a_number x) →
    Made b e j (a_number y) → Made e f l (a_number z) →
    ActMade a f (value.set_square p c x y z ∷ []) (Some (acts.SetSquare p c i j l))
square_made p c m n o = let k = stands_grown (grown_on n.grows o.grows) m.stands in let h =
    stands_grown o.grows n.stands in record {
      grows = grown_far m.grows n.grows o.grows;
      stand = (
        record {
          well = (number_there k, number_there h, number_there o.stands);
          is = λ t. value.set_square p c (number_is k t) (number_is h t) (number_is o.stands t);
        },
        tt,
      );
    }

pub push_made : {a b e f g : List ValueForm} {i r s : ℕ} {x : NumberValue} {xs : List NumberValue}
    {m : Option ChainedValue} (p c : ℕ) (ks : List ℕ) →
    Made a b i (a_number x) → NumbersMade b e xs ks → Made e f r (a_row (map (number_in (meanings e)) ks)) →
    Made f g s (a_sending m) →
    ActMade a g (value.push p c x xs m ∷ []) (Some (acts.Push p c i r s))
push_made {a} {b} {e} {f} {g} {i} {r} {s} {x} {xs} {m} p c ks mi mk mr ms = record {
  grows = grown_on (grown_far mi.grows mk.grows mr.grows) ms.grows;
  stand = (
    record {
      well = (number_there index, row_there row, sending_there ms.stands);
      is = λ t. value.push p c (number_is index t) (ap row_of row.stands t) (ap sending_of ms.stands.stands t);
    },
    tt,
  );
}
  where
    index : Stands (meanings g) i (a_number x)
    index = stands_grown (grown_far mk.grows mr.grows ms.grows) mi.stands

    row : Stands (meanings g) r (a_row xs)
    row = subst (λ l. Stands (meanings g) r (a_row l)) (numbers_are (meanings e) ks xs mk.stand)
        (stands_grown ms.grows mr.stands)

pub output_made : {a b e : List ValueForm} {r s : ℕ} {xs : List NumberValue} {m : Option ChainedValue} (dir : Dir)
    (kind : Kind) →
    Made a b r (a_row xs) → Made b e s (a_sending m) →
    ActMade a e (value.output dir kind xs m ∷ []) (Some (acts.Output dir kind r s))
output_made dir kind mr ms = let row = stands_grown ms.grows mr.stands in record {
  grows = grown_on mr.grows ms.grows;
  stand = (
    record {
      well = (row_there row, sending_there ms.stands);
      is = λ t. value.output dir kind (ap row_of row.stands t) (ap sending_of ms.stands.stands t);
    },
    tt,
  );
}

-- Acts stay.
module _ {a b : List ValueForm} (g : Grown a b) where
  number_kept : (k : ℕ) → IsNumber (meanings a) k → IsNumber (meanings b) k
  number_kept k h = number_there (stands_grown g h)

  row_kept : (k : ℕ) → IsRow (meanings a) k → IsRow (meanings b) k
  row_kept k h = row_there (stands_grown g h)

  sending_kept : (k : ℕ) → IsSending (meanings a) k → IsSending (meanings b) k
  sending_kept k h = sending_there (stands_grown g h)

  number_same : (k : ℕ) → IsNumber (meanings a) k → number_in (meanings b) k ≡ number_in (meanings a) k
  number_same k h = number_is (stands_grown g h)

  row_same : (k : ℕ) → IsRow (meanings a) k → row_in (meanings b) k ≡ row_in (meanings a) k
  row_same k h = ap row_of (stands_grown g h).stands

  sending_same : (k : ℕ) → IsSending (meanings a) k → sending_in (meanings b) k ≡ sending_in (meanings a) k
  sending_same k h = ap sending_of (stands_grown g h).stands

  act_well : (x : ActForm) → IsWellAct (meanings a) x → IsWellAct (meanings b) x
  act_well (acts.Check i) h = number_kept i h
  act_well (acts.Set p c i j) h = (number_kept i h.0, number_kept j h.1)
  act_well (acts.SetSquare p c i j k) h = (number_kept i h.0, number_kept j h.1, number_kept k h.2)
  act_well (acts.Push p c i r s) h = (number_kept i h.0, row_kept r h.1, sending_kept s h.2)
  act_well (acts.Take p c i) h = number_kept i h
  act_well (acts.Output d k r s) h = (row_kept r h.0, sending_kept s h.1)

  act_same : (x : ActForm) → IsWellAct (meanings a) x → act_in (meanings b) x ≡ act_in (meanings a) x
  act_same (acts.Check i) h = λ t. value.check (number_same i h t)
  act_same (acts.Set p c i j) h = λ t. value.set p c (number_same i h.0 t) (number_same j h.1 t)
  act_same (acts.SetSquare p c i j k) h = λ t. value.set_square p c (number_same i h.0 t) (number_same j h.1 t)
      (number_same k h.2 t)
  act_same (acts.Push p c i r s) h = λ t. value.push p c (number_same i h.0 t) (row_same r h.1 t) (sending_same s h.2 t)
  act_same (acts.Take p c i) h = λ t. value.take p c (number_same i h t)
  act_same (acts.Output d k r s) h = λ t. value.output d k (row_same r h.0 t) (sending_same s h.1 t)

  pub acts_grown : (xs : List ActForm) (does : List Act) → AllZip (ActStands (meanings a)) xs does →
      AllZip (ActStands (meanings b)) xs does
  acts_grown xs does h = zip_map (ActStands (meanings a)) (ActStands (meanings b)) xs does
      (λ x y s. record { well = act_well x s.well; is = act_same x s.well ∙ s.is }) h
