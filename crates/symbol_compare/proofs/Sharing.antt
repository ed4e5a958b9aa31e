-- Forms that are put where they aren't there.
use Rattle.std.proofs.Common.{◌≡◌, ℕ, ◌<◌, ◌≤◌, ◌⊎◌, inl, inr, Bool, true, false, List, [], ◌∷◌, ◌++◌, length, Some}
use Rattle.std.proofs.Common.{Result, Ok, Err, arith, sym, ap, subst, ◌∙◌}
use Rattle.std.proofs.lemmas.List.{append-nil}
use Rattle.std.specs.List.{slice_get}
use Rattle.std.specs.Prelude.{if◌then◌else◌}
use Rattle.trace_core.proofs.Terms.{length_one}
use Rattle.symbol_compare.specs.declared.form.ValueForm.{ValueForm}
use Rattle.symbol_compare.specs.declared.table.TheConstants.{MOST_VALUES}
use Rattle.symbol_compare.specs.Meant.{meant_of, meanings}
use Rattle.symbol_compare.specs.Table.{IsWell, AreWell, Made}
use Rattle.symbol_compare.specs.Set.{IsPut, Puts}
use Rattle.symbol_compare.proofs.Earlier.{form_found, last_stays, one_after}

pub key_put : (b : Bool) (old new : List ValueForm) (x : ValueForm) → new ≡ (if b then old else old ++ x ∷ []) →
    (new ≡ old) ⊎ (new ≡ old ++ x ∷ [])
key_put true old new x e = inl e
key_put false old new x e = inr e

pub put_well : (old new : List ValueForm) (x : ValueForm) (k : ℕ) → IsPut old new x k → AreWell [] old →
    IsWell (meanings old) x → AreWell [] new
put_well old new x k put h b = go put.grown where
  go : (new ≡ old) ⊎ (new ≡ old ++ x ∷ []) → AreWell [] new
  go (inl e) = subst (λ l. AreWell [] l) (sym e) h
  go (inr e) = one_after old new x e h b

pub put_made : (old new : List ValueForm) (x : ValueForm) (k : ℕ) → IsPut old new x k → AreWell [] old →
    IsWell (meanings old) x → Made old new k (meant_of (meanings old) x)
put_made old new x k put h b = go put.grown where
  go : (new ≡ old) ⊎ (new ≡ old ++ x ∷ []) → Made old new k (meant_of (meanings old) x)
  go (inl e) = record {
    grows = record { more = []; grown = e ∙ sym (append-nil old) };
    stands = record {
      stands = ap (λ l. slice_get (meanings l) k) e ∙
          (form_found old k x h (ap (λ l. slice_get l k) (sym e) ∙ put.stands)).stands;
    };
  }
  go (inr e) = record {
    grows = record { more = x ∷ []; grown = e };
    stands = record {
      stands = (form_found new k x (put_well old new x k put h b) put.stands).stands
          ∙ ap Some (ap (λ l. meant_of (meanings l) x) e ∙ last_stays old x b);
    };
  }

pub puts_well : {E : Type 0} (old new : List ValueForm) (x : ValueForm) (r : Result ℕ E) → Puts old new x r →
    AreWell [] old → IsWell (meanings old) x →
    length old < MOST_VALUES → (length new ≤ MOST_VALUES) × AreWell [] new
puts_well old new x (Ok k) put h b few = (long put.grown, put_well old new x k put h b) where
  long : (new ≡ old) ⊎ (new ≡ old ++ x ∷ []) → length new ≤ MOST_VALUES
  long (inl e) = omega (arith, ap length e, few)
  long (inr e) = omega (arith, ap length e, length_one old x, few)
puts_well old new x (Err e) same h b few = (omega (arith, ap length same, few), subst (λ l. AreWell [] l) (sym same) h)
