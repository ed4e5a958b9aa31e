-- What is bound, noted and taken.
use Rattle.std.proofs.Common.{◌≡◌, ℕ, zero, suc, Bool, true, false, List, [], ◌∷◌, Some, None, refl, sym, ap, subst}
use Rattle.std.proofs.Common.{◌∙◌, arith}
use Rattle.std.specs.Prelude.{nat_lt, if◌then◌else◌, slice_index_or}
use Rattle.std.specs.List.{AllZip, slice_get}
use Rattle.std.specs.Option.{unwrap_or}
use Rattle.std.proofs.lemmas.List.{get_or_past}
use Rattle.std.proofs.lemmas.Option.{slice_get_within}
use Rattle.symbol_mean.specs.Value as value
use Rattle.symbol_mean.specs.Symbolic.{Values, taken_row}
use Rattle.trace_core.specs.declared.load.Load.{Load}
use Rattle.trace_core.specs.View.{load_tree}
use Rattle.symbol_compare.specs.declared.form.ValueForm.{ValueForm}
use Rattle.symbol_compare.specs.declared.form.ValueForm.TheVariants as forms
use Rattle.symbol_compare.specs.declared.form.NumberForm.TheVariants as numbers
use Rattle.symbol_compare.specs.declared.form.MessageForm.TheVariants as messages
use Rattle.symbol_compare.specs.declared.walk.Walk.{Walk}
use Rattle.symbol_compare.specs.Meant.{Meant, a_number, a_message, number_meant, message_meant, meanings}
use Rattle.symbol_compare.specs.Table.{Stands, IsWellNumber, IsWellMessage, IsWell, Made}
use Rattle.symbol_compare.specs.Walk.{KnowsAs}
use Rattle.symbol_compare.specs.Leaves.{taken_number_form, taken_message_form}
use Rattle.symbol_compare.proofs.Growing.{not_grown, made_as}

zip_some : {A B : Type 0} (R : A → B → Type 0) (xs : List A) (ys : List B) (n : ℕ) (x : A) (d : B) → AllZip R xs ys →
    slice_get xs n ≡ Some x →
    R x (slice_index_or ys n d)
zip_some R [] [] n x d h e = absurd (omega (arith, slice_get_within [] n x e))
zip_some R [] (y ∷ ys) n x d h e = absurd h
zip_some R (z ∷ xs) [] n x d h e = absurd h
zip_some R (z ∷ xs) (y ∷ ys) zero x d h e = subst (λ w. R w y) (ap (λ o. unwrap_or o z) e) h.0
zip_some R (z ∷ xs) (y ∷ ys) (suc n) x d h e = zip_some R xs ys n x d h.1 e

zip_none : {A B : Type 0} (R : A → B → Type 0) (xs : List A) (ys : List B) (n : ℕ) (d : B) → AllZip R xs ys →
    slice_get xs n ≡ None →
    slice_index_or ys n d ≡ d
zip_none R [] [] n d h e = get_or_past [] n d (omega arith)
zip_none R [] (y ∷ ys) n d h e = absurd h
zip_none R (z ∷ xs) [] n d h e = absurd h
zip_none R (z ∷ xs) (y ∷ ys) zero d h e = absurd (cc e)
zip_none R (z ∷ xs) (y ∷ ys) (suc n) d h e = zip_none R xs ys n d h.1 e

module _ (fs : List ValueForm) (w : Walk) (v : Values) (n : ℕ) (h : KnowsAs fs w v) where
  pub bound_known : (k : ℕ) → Some k ≡ slice_get w.numbers.items n →
      Made fs fs k (a_number (slice_index_or v.numbers n (value.number 0)))
  bound_known k e = record {
    grows = not_grown fs;
    stands = zip_some (λ j x. Stands (meanings fs) j (a_number x)) w.numbers.items v.numbers n k (value.number 0)
        h.numbers (sym e);
  }

  pub bound_unknown : (new : List ValueForm) (k : ℕ) → None ≡ slice_get w.numbers.items n →
      Made fs new k (a_number (value.number 0)) →
      Made fs new k (a_number (slice_index_or v.numbers n (value.number 0)))
  bound_unknown new k e m =
      made_as m (ap a_number
      (sym (zip_none (λ j x. Stands (meanings fs) j (a_number x)) w.numbers.items v.numbers n (value.number 0) h.numbers
      (sym e))))

  pub noted_known : (k : ℕ) → Some k ≡ slice_get w.messages.items n →
      Made fs fs k (a_message (slice_index_or v.messages n value.nothing))
  noted_known k e = record {
    grows = not_grown fs;
    stands = zip_some (λ j x. Stands (meanings fs) j (a_message x)) w.messages.items v.messages n k value.nothing
        h.messages (sym e);
  }

  pub noted_unknown : (new : List ValueForm) (k : ℕ) → None ≡ slice_get w.messages.items n →
      Made fs new k (a_message value.nothing) →
      Made fs new k (a_message (slice_index_or v.messages n value.nothing))
  noted_unknown new k e m =
      made_as m (ap a_message
      (sym (zip_none (λ j x. Stands (meanings fs) j (a_message x)) w.messages.items v.messages n value.nothing
      h.messages (sym e))))

taken_number_is : (ms : List Meant) (b : Bool) (row k : ℕ) →
    number_meant ms (if b then numbers.Taken row k else numbers.Untaken k) ≡
    value.taken_number (if b then Some row else None) k
taken_number_is ms true row k = refl
taken_number_is ms false row k = refl

taken_number_fits : (ms : List Meant) (b : Bool) (row k : ℕ) →
    IsWellNumber ms (if b then numbers.Taken row k else numbers.Untaken k)
taken_number_fits ms true row k = tt
taken_number_fits ms false row k = tt

taken_message_is : (ms : List Meant) (b : Bool) (row : ℕ) (load : Load) →
    message_meant ms (if b then messages.Taken row load else messages.Untaken load) ≡
    value.taken_message (if b then Some row else None) (load_tree load)
taken_message_is ms true row load = refl
taken_message_is ms false row load = refl

taken_message_fits : (ms : List Meant) (b : Bool) (row : ℕ) (load : Load) →
    IsWellMessage ms (if b then messages.Taken row load else messages.Untaken load)
taken_message_fits ms true row load = tt
taken_message_fits ms false row load = tt

pub taken_number_well : (ms : List Meant) (takes row k : ℕ) → IsWell ms (forms.Number (taken_number_form takes row k))
taken_number_well ms takes row k = taken_number_fits ms (nat_lt row takes) row k

pub taken_message_well : (ms : List Meant) (takes row : ℕ) (load : Load) →
    IsWell ms (forms.Message (taken_message_form takes row load))
taken_message_well ms takes row load = taken_message_fits ms (nat_lt row takes) row load

module _ (a b : List ValueForm) (i : ℕ) (v : Values) (takes row : ℕ) (same : takes ≡ v.takes) where
  pub taken_number_made : (k : ℕ) → Made a b i (a_number (number_meant (meanings a) (taken_number_form takes row k))) →
      Made a b i (a_number (value.taken_number (taken_row v row) k))
  taken_number_made k m = made_as m (ap a_number (taken_number_is (meanings a) (nat_lt row takes) row k
      ∙ ap (λ n. value.taken_number (if nat_lt row n then Some row else None) k) same))

  pub taken_message_made : (load : Load) →
      Made a b i (a_message (message_meant (meanings a) (taken_message_form takes row load))) →
      Made a b i (a_message (value.taken_message (taken_row v row) (load_tree load)))
  taken_message_made load m = made_as m (ap a_message (taken_message_is (meanings a) (nat_lt row takes) row load
      ∙ ap (λ n. value.taken_message (if nat_lt row n then Some row else None) (load_tree load)) same))
