-- Texts that stand at the front of others.
use Rattle.std.proofs.Common.{◌≡◌, ℕ, Bool, true, false, List, [], ◌∷◌, ◌++◌, length, take, drop, Option, Some, None}
use Rattle.std.proofs.Common.{Result, Ok, Err, refl, ap, ap₂, sym, ◌∙◌}
use Rattle.std.specs.Prelude.{bytes_eq, nat_eq, ◌&&◌, if◌then◌else◌, option_map, option_and_then}
use Rattle.std.proofs.lemmas.Bool.{eqb-true, eq-eqb}
use Rattle.pack_mean.specs.Reader.{◌>>=◌, the_text}
use Rattle.pack_words.specs.declared.error.LineError.{LineError}
use Rattle.pack_words.specs.declared.error.LineError.TheVariants.{Form, Memory}
use Rattle.pack_words.specs.Reading.{Takes}

same_bools : (a b : Bool) → (a ≡ true → b ≡ true) → (b ≡ true → a ≡ true) → a ≡ b
same_bools true b f g = sym (f refl)
same_bools false true f g = g refl
same_bools false false f g = refl

nat_swap : (x y : ℕ) → nat_eq x y ≡ nat_eq y x
nat_swap x y = same_bools (nat_eq x y) (nat_eq y x) (λ e. eq-eqb y x (sym (eqb-true x y e)))
    (λ e. eq-eqb x y (sym (eqb-true y x e)))

-- two texts may be compared in either order
swap : (xs ys : List ℕ) → bytes_eq xs ys ≡ bytes_eq ys xs
swap [] [] = refl
swap [] (y ∷ ys) = refl
swap (x ∷ xs) [] = refl
swap (x ∷ xs) (y ∷ ys) = ap₂ (λ a b. a && b) (nat_swap x y) (swap xs ys)

pub front_equal : (wanted text : List ℕ) → bytes_eq wanted (take (length wanted) text) ≡
    bytes_eq (take (length wanted) text) wanted
front_equal wanted text = swap wanted (take (length wanted) text)

-- what is after a text that stands at the front
abbrev rest_after : List ℕ → List ℕ → Option (List ℕ)
rest_after [] text = Some text
rest_after (x ∷ wanted) [] = None
rest_after (x ∷ wanted) (y ∷ text) = if nat_eq y x then rest_after wanted text else None

abbrev with_unit : Option (List ℕ) → Option (Unit {0} × List ℕ)
with_unit o = option_map (λ rest. (tt, rest)) o

rest_is : (wanted text : List ℕ) → the_text wanted text ≡ with_unit (rest_after wanted text)
rest_is [] text = refl
rest_is (x ∷ wanted) [] = refl
rest_is (x ∷ wanted) (y ∷ text) = go (nat_eq y x) (rest_is wanted text) where
  go : (b : Bool) → the_text wanted text ≡ with_unit (rest_after wanted text) →
      (if b && bytes_eq (take (length wanted) text) wanted then Some (tt, drop (length wanted) text) else None)
      ≡ with_unit (if b then rest_after wanted text else None)
  go true e = e
  go false e = refl

abbrev onward : Option (List ℕ) → List ℕ → Option (List ℕ)
onward None wanted = None
onward (Some text) wanted = rest_after wanted text

rest_both : (a b text : List ℕ) → rest_after (a ++ b) text ≡ onward (rest_after a text) b
rest_both [] b text = refl
rest_both (x ∷ a) b [] = refl
rest_both (x ∷ a) b (y ∷ text) = go (nat_eq y x) (rest_both a b text) where
  go : (c : Bool) → rest_after (a ++ b) text ≡ onward (rest_after a text) b →
      (if c then rest_after (a ++ b) text else None) ≡ onward (if c then rest_after a text else None) b
  go true e = e
  go false e = refl

-- this text after what was taken
abbrev then_text : List ℕ → Option (Unit {0} × List ℕ) → Option (Unit {0} × List ℕ)
then_text b taken = option_and_then (λ (t : Unit {0} × List ℕ). the_text b t.1) taken

-- two texts, one after the other
pub text_both : (a b text : List ℕ) → the_text (a ++ b) text ≡ (the_text a >>= λ _. the_text b) text
text_both a b text = rest_is (a ++ b) text ∙
    (ap with_unit (rest_both a b text) ∙ go (rest_after a text) (rest_is a text)) where
      go : (o : Option (List ℕ)) → the_text a text ≡ with_unit o →
          with_unit (onward o b) ≡ (the_text a >>= λ _. the_text b) text
      go None e = ap (then_text b) (sym e)
      go (Some rest) e = sym (rest_is b rest) ∙ ap (then_text b) (sym e)

pub both_texts : (a b text middle end : List ℕ) (r : Result (Unit {0}) LineError) →
    the_text a text ≡ Some (tt, middle) →
    Takes (the_text b middle) r end → Takes (the_text (a ++ b) text) r end
both_texts a b text middle end r first second = go r (text_both a b text ∙ ap (then_text b) first) second where
  go : (r : Result (Unit {0}) LineError) → the_text (a ++ b) text ≡ the_text b middle →
      Takes (the_text b middle) r end →
      Takes (the_text (a ++ b) text) r end
  go (Ok done) e is = e ∙ is
  go (Err Form) e is = e ∙ is
  go (Err Memory) e is = is

pub not_front : (a b text : List ℕ) → the_text a text ≡ None → the_text (a ++ b) text ≡ None
not_front a b text is = text_both a b text ∙ ap (then_text b) is
