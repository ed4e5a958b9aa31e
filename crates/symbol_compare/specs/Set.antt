-- Sets of forms.
use Rattle.std.specs.Prelude.{ℕ, ◌≡◌, ◌⊎◌, List, [], ◌∷◌, ◌++◌, Some, Result, Ok, Err}
use Rattle.std.specs.List.{slice_get}
use Rattle.symbol_compare.specs.declared.form.ValueForm.{ValueForm}

-- No form comes twice.
pub record AreOne (fs : List ValueForm) : Type 0 where
  pub one : (i j : ℕ) (x y : ValueForm) → slice_get fs i ≡ Some x → slice_get fs j ≡ Some y → x ≡ y → i ≡ j

-- A form was put last, or it was there; it has this number.
pub record IsPut (old new : List ValueForm) (x : ValueForm) (k : ℕ) : Type 0 where
  pub grown : (new ≡ old) ⊎ (new ≡ old ++ x ∷ [])
  pub stands : slice_get new k ≡ Some x

abbrev pub Puts : List ValueForm → List ValueForm → ValueForm → {E : Type 0} → Result ℕ E → Type 0
Puts old new x (Ok k) = IsPut old new x k
Puts old new x (Err e) = new ≡ old
