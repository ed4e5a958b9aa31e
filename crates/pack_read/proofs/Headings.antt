-- Whole lines that are told part by part.
use Rattle.std.proofs.Common.{◌≡◌, ℕ, suc, arith, Bool, true, false, if◌then◌else◌, List, [], ◌∷◌, ◌++◌, length, take}
use Rattle.std.proofs.Common.{drop, Option, Some, None, Result, Err, refl, sym, ap, subst, ◌∙◌, append_assoc}
use Rattle.std.specs.Prelude.{◌==◌, ◌&&◌, bytes_eq, nat_eq}
use Rattle.std.proofs.lemmas.Bool.{eqb-true}
use Rattle.std.proofs.lemmas.Option.{none-some}
use Rattle.pack_mean.specs.Reader.{the_text}
use Rattle.pack_words.proofs.Fronts.{both_texts, not_front}
use Rattle.pack_words.specs.declared.error.LineError.{LineError}
use Rattle.pack_words.specs.declared.error.LineError.TheVariants.{Form, Memory}
use Rattle.pack_words.specs.Reading.{Takes}

abbrev Told : Type 0
Told = Option (Unit {0} × List ℕ)

abbrev told_if : Bool → List ℕ → Told
told_if b rest = if b then Some (tt, rest) else None

abbrev after : Told → List ℕ → List ℕ
after None text = text
after (Some t) text = t.1

not_none : (n : ℕ) (b : Bool) → b ≡ (suc n == 0) → false ≡ b
not_none n true e = absurd (omega (arith, eqb-true (suc n) 0 (sym e)))
not_none n false e = refl

empty_text : (text : List ℕ) → bytes_eq text [] ≡ (length text == 0)
empty_text [] = refl
empty_text (byte ∷ text) = not_none (length text) (length (byte ∷ text) == 0) refl

-- a text that is told whole, and after which nothing is left, is it
pub whole_told : (wanted text end : List ℕ) → the_text wanted text ≡ Some (tt, end) →
    bytes_eq text wanted ≡ (length end == 0)
whole_told [] text end e = empty_text text ∙ ap (λ t. length (after t end) == 0) e
whole_told (x ∷ wanted) [] end e = absurd (none-some (tt, end) e)
whole_told (x ∷ wanted) (y ∷ text) end e = go (nat_eq y x) (whole_told wanted text end) e where
  go : (b : Bool) → (the_text wanted text ≡ Some (tt, end) → bytes_eq text wanted ≡ (length end == 0)) →
      told_if (b && bytes_eq (take (length wanted) text) wanted) (drop (length wanted) text) ≡ Some (tt, end) →
      (b && bytes_eq text wanted) ≡ (length end == 0)
  go true whole e = whole e
  go false whole e = absurd (none-some (tt, end) e)

pub not_told : (wanted text : List ℕ) → the_text wanted text ≡ None → bytes_eq text wanted ≡ false
not_told [] text e = absurd (none-some (tt, text) (sym e))
not_told (x ∷ wanted) [] e = refl
not_told (x ∷ wanted) (y ∷ text) e = go (nat_eq y x) (not_told wanted text) e where
  go : (b : Bool) → (the_text wanted text ≡ None → bytes_eq text wanted ≡ false) →
      told_if (b && bytes_eq (take (length wanted) text) wanted) (drop (length wanted) text) ≡ None →
      (b && bytes_eq text wanted) ≡ false
  go true whole e = whole e
  go false whole e = refl

-- a heading after the name of its entry
pub heading_told : (a c d t0 t1 t2 : List ℕ) (r : Result (Unit {0}) LineError) → the_text a t0 ≡ Some (tt, t1) →
    Takes (the_text (c ++ d) t1) r t2 →
    Takes (the_text (a ++ c ++ d) t0) r t2
heading_told a c d t0 t1 t2 r front h =
    subst (λ w. Takes (the_text w t0) r t2) (sym (append_assoc a c d)) (both_texts a (c ++ d) t0 t1 t2 r front h)

pub heading_fails : (a c d t0 t1 t2 : List ℕ) (r fault : Result (Unit {0}) LineError) (e : LineError) →
    Takes (the_text a t0) r t1 → r ≡
    Err e → fault ≡ Err e →
    Takes (the_text (a ++ c ++ d) t0) fault t2
heading_fails a c d t0 t1 t2 r fault e h fails told =
    subst (λ z. Takes (the_text (a ++ c ++ d) t0) z t2) (sym told)
    (go e (subst (λ z. Takes (the_text a t0) z t1) fails h))
  where
    go : (e : LineError) → Takes (the_text a t0) (Err e) t1 → Takes (the_text (a ++ c ++ d) t0) (Err e) t2
    go Form h = ap (λ w. the_text w t0) (append_assoc a c d) ∙ not_front a (c ++ d) t0 h
    go Memory h = h
