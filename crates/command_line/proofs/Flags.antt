-- A flag's text as a truth.
use Rattle.std.proofs.Common.{◌≡◌, Bool, true, false, Option, Some, None, refl, ap, sym}
use Rattle.std.specs.Prelude.{◌≢◌, codes, unwrap_or}
use Rattle.std.specs.Option.{option_map_or}
use Rattle.std.specs.Str.{bytes_eq}
use Rattle.std.specs.Str.Parse.{ParsesBool}
use Rattle.std.proofs.lemmas.Slice.Eq.{bytes_eq-Decides}
use Rattle.clap.specs.Matches.{ReadsOne}
use Rattle.clap.specs.Walk.{Text}

unequal : (t u : Text) → t ≢ u → bytes_eq t u ≡ false
unequal t u other = go (bytes_eq t u) refl where
  go : (b : Bool) → bytes_eq t u ≡ b → b ≡ false
  go true e = absurd (other ((bytes_eq-Decides t u).0 e))
  go false e = refl

-- true where the text is `true`, and false where it is another or there is none
pub flag_is : (E : Type 0) (o : Option Text) (read : Option Bool) → (o ≡ None → read ≡ None) →
    ((t : Text) → o ≡ Some t → ReadsOne (ParsesBool {E = E}) t read) →
    unwrap_or read false ≡ option_map_or (λ t. bytes_eq t (codes "true")) o false
flag_is E None read none value = ap (λ r. unwrap_or r false) (none refl)
flag_is E (Some t) (Some true) none value = ap (λ s. bytes_eq s (codes "true")) (sym (value t refl))
flag_is E (Some t) (Some false) none value = ap (λ s. bytes_eq s (codes "true")) (sym (value t refl))
flag_is E (Some t) None none value = sym (unequal t (codes "true") (value t refl).1.0)
