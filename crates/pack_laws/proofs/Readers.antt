-- Readers by their parts: what each part gives, the whole does.
use Rattle.std.proofs.Common.{◌≡◌, ℕ, Bool, true, false, List, [], ◌∷◌, Option, Some, None, option_and_then, unwrap_or}
use Rattle.std.proofs.Common.{bytes_eq, refl, ap, subst}
use Rattle.std.specs.Prelude.{if◌then◌else◌}
use Rattle.std.specs.List.{AllByRecursion}
use Rattle.pack_mean.specs.Reader.{Reader, ◌>>=◌, yields, option_reader, nowhere, the_text, a_name, a_word, whole}
use Rattle.pack_mean.specs.Reader.{nothing_after, each_of, more_of}

-- where two steps gave something, the first did, and the second then gave this
pub through : {A B C : Type 0} (f : A → Option B) (o : Option A) (y : B) → option_and_then f o ≡ Some y →
    ((x : A) → o ≡ Some x → f x ≡ Some y → C) → C
through f None y h k = absurd (cc h)
through f (Some x) y h k = k x refl h

pub some_same : {A : Type 0} (P : A → Type 0) {x y : A} → Some x ≡ Some y → P x → P y
some_same P {x = x} {y = y} is h = subst P (ap (λ o. unwrap_or o x) is) h

-- Whatever is read is so.
pub record Gives {A : Type 0} (P : A → Type 0) (read : Reader A) : Type 0 where
  pub said : (text : List ℕ) (x : A) (rest : List ℕ) → read text ≡ Some (x, rest) → P x

pub gives_value : {A : Type 0} (P : A → Type 0) (x : A) → P x → Gives P (yields x)
gives_value P x h = record { said = λ text y rest is. some_same (λ q. P q.0) is h }

pub gives_given : {A : Type 0} (P : A → Type 0) (o : Option A) → ((x : A) → o ≡ Some x → P x) →
    Gives P (option_reader o)
gives_given P None h = record { said = λ text y rest is. absurd (cc is) }
gives_given P (Some x) h = record { said = λ text y rest is. some_same (λ q. P q.0) is (h x refl) }

pub gives_nowhere : {A : Type 0} (P : A → Type 0) → Gives P nowhere
gives_nowhere P = record { said = λ text y rest is. absurd (cc is) }

pub gives_then : {A B : Type 0} (P : A → Type 0) (Q : B → Type 0) (read : Reader A) (next : A → Reader B) →
    Gives P read →
    ((x : A) → P x → Gives Q (next x)) → Gives Q (read >>= next)
gives_then {A = A} {B = B} P Q read next h k = record { said = λ text y rest is. go text y rest (read text) refl is }
  where
    go : (text : List ℕ) (y : B) (rest : List ℕ) (o : Option (A × List ℕ)) → read text ≡ o →
        option_and_then (λ taken. next taken.0 taken.1) o ≡ Some (y, rest) → Q y
    go text y rest None e is = absurd (cc is)
    go text y rest (Some t) e is = (k t.0 (h.said text t.0 t.1 e)).said t.1 y rest is

-- After what isn't looked at.
pub gives_past : {A B : Type 0} (Q : B → Type 0) (read : Reader A) (next : A → Reader B) →
    ((x : A) → Gives Q (next x)) →
    Gives Q (read >>= next)
gives_past Q read next k = gives_then (λ x. Unit {0}) Q read next record { said = λ text x rest is. tt } (λ x h. k x)

-- After a name.
pub gives_name : {B : Type 0} (Q : B → Type 0) (next : List (List ℕ) → Reader B) →
    ((name : List (List ℕ)) → Gives Q (next name)) →
    Gives Q (a_name >>= next)
gives_name Q next k = gives_past Q a_name next k

-- After a word.
pub gives_word : {B : Type 0} (Q : B → Type 0) (next : List ℕ → Reader B) → ((word : List ℕ) → Gives Q (next word)) →
    Gives Q (a_word >>= next)
gives_word Q next k = gives_past Q a_word next k

-- After a value that was there before, if there was one.
pub gives_known : {A B : Type 0} (Q : B → Type 0) (o : Option A) (next : A → Reader B) → ((x : A) → Gives Q (next x)) →
    Gives Q (option_reader o >>= next)
gives_known Q o next k = gives_past Q (option_reader o) next k

-- After a text that is wanted.
pub gives_text : {B : Type 0} (Q : B → Type 0) (wanted : List ℕ) (next : Unit {0} → Reader B) →
    ((u : Unit {0}) → Gives Q (next u)) →
    Gives Q (the_text wanted >>= next)
gives_text Q wanted next k = gives_past Q (the_text wanted) next k

pub gives_if : {A : Type 0} (P : A → Type 0) (b : Bool) (f g : Reader A) → Gives P f → Gives P g →
    Gives P (if b then f else g)
gives_if P true f g h k = h
gives_if P false f g h k = k

pub gives_case : {A : Type 0} (P : A → Type 0) (word wanted : List ℕ) (f g : Reader A) → Gives P f → Gives P g →
    Gives P (if bytes_eq word wanted then f else g)
gives_case P word wanted f g h k = gives_if P (bytes_eq word wanted) f g h k

pub gives_either : {A : Type 0} (P : A → Type 0) (test : List ℕ → Bool) (f g : Reader A) → Gives P f → Gives P g →
    Gives P (λ text. if test text then f text else g text)
gives_either {A = A} P test f g h k = record { said = λ text y rest is. go (test text) text y rest is } where
  go : (b : Bool) (text : List ℕ) (y : A) (rest : List ℕ) → (if b then f text else g text) ≡ Some (y, rest) → P y
  go true text y rest is = h.said text y rest is
  go false text y rest is = k.said text y rest is

pub gives_whole : {A : Type 0} (P : A → Type 0) (read : Reader A) (text : List ℕ) (x : A) → Gives P read →
    whole read text ≡ Some x → P x
gives_whole {A = A} P read text x h is = go (read text) refl is where
  go : (o : Option (A × List ℕ)) → read text ≡ o → option_and_then nothing_after o ≡ Some x → P x
  go None e k = absurd (cc k)
  go (Some (y, [])) e k = some_same P k (h.said text y [] e)
  go (Some (y, byte ∷ bytes)) e k = absurd (cc k)

module _ {A B : Type 0} (P : A → Type 0) (read : Reader A) (h : Gives P read) where
  pub gives_more : (bs : List B) → Gives (AllByRecursion P) (more_of read bs)
  gives_more [] = gives_value _ _ tt
  gives_more (b ∷ bs) =
      gives_past _ _ _ (λ comma.
      gives_then P _ _ _ h (λ x hx. gives_then _ _ _ _ (gives_more bs) (λ xs hxs. gives_value _ _ (hx, hxs))))

  pub gives_each : (bs : List B) → Gives (AllByRecursion P) (each_of read bs)
  gives_each [] = gives_value _ _ tt
  gives_each (b ∷ bs) =
      gives_then P _ _ _ h (λ x hx. gives_then _ _ _ _ (gives_more bs) (λ xs hxs. gives_value _ _ (hx, hxs)))
