-- Words that spell a body.
use Rattle.std.proofs.Common.{◌≡◌, ℕ, suc, ◌+◌, ◌*◌, ◌%◌, Bool, true, false, eqb, List, [], ◌∷◌, length, Option, Some}
use Rattle.std.proofs.Common.{None, refl, sym, ap, ◌∙◌, arith}
use Rattle.std.specs.Prelude.{◌==◌, ◌&&◌, is_some, option_map}
use Rattle.std.specs.List.{list_all}
use Rattle.std.proofs.lemmas.Bool.Decides.{nat_tests}
use Rattle.script_mean.specs.Words.{Word, ◌>>=◌, hex_digit, hex_bytes}
use Rattle.audit_judge.specs.Reading.{is_hex_digit}

-- a digit has a value
digit : (byte : ℕ) → is_some (hex_digit byte) ≡ is_hex_digit byte
digit byte = grind (arith, nat_tests)

-- two digits and what stands after them
pair : (h l : Option ℕ) (rest : Option (List ℕ)) →
    is_some (h >>= λ x. l >>= λ y. rest >>= λ bytes. Some ((x * 16 + y) ∷ bytes)) ≡
    (is_some h && (is_some l && is_some rest))
pair None l rest = refl
pair (Some x) None rest = refl
pair (Some x) (Some y) None = refl
pair (Some x) (Some y) (Some bytes) = refl

regroup : (a b even all : Bool) → (a && (b && (even && all))) ≡ (even && (a && (b && all)))
regroup true b even all = regroup_second b even all
  where
    regroup_second : (b even all : Bool) → (b && (even && all)) ≡ (even && (b && all))
    regroup_second true even all = refl
    regroup_second false true all = refl
    regroup_second false false all = refl
regroup false b true all = refl
regroup false b false all = refl

parity : (n : ℕ) → eqb (suc (suc n) % 2) 0 ≡ eqb (n % 2) 0
parity n = grind (arith, nat_tests)

-- bytes are spelled by pairs of digits
pub spelled : (word : Word) → is_some (hex_bytes word) ≡ (length word % 2 == 0 && list_all is_hex_digit word)
spelled [] = refl
spelled (one ∷ []) = refl
spelled (high ∷ low ∷ more) =
    pair (hex_digit high) (hex_digit low) (hex_bytes more)
    ∙ rw (digit high, digit low, spelled more, parity (length more))
    (regroup (is_hex_digit high) (is_hex_digit low) (length more % 2 == 0) (list_all is_hex_digit more))

no_zero : (n : ℕ) → (n ≡ 0 → ⊥) → eqb n 0 ≡ false
no_zero n h = grind (arith, nat_tests)

-- and none by an odd number of digits
pub odd : (word : Word) → (length word % 2 ≡ 0 → ⊥) → (length word % 2 == 0) ≡ is_some (hex_bytes word)
odd word h =
    let e = no_zero (length word % 2) h in
    e ∙ sym (spelled word ∙ ap (λ even. even && list_all is_hex_digit word) e)

-- what is known to be there, with another value in its place
pub there : {A B : Type 0} (b : B) (o : Option A) → is_some o ≡ true → option_map (λ a. b) o ≡ Some b
there b None h = absurd cc
there b (Some a) h = refl

pub absent : {A B : Type 0} (b : B) (o : Option A) → is_some o ≡ false → option_map (λ a. b) o ≡ None
absent b None h = refl
absent b (Some a) h = absurd cc
