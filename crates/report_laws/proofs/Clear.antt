-- Texts without a byte.
use Rattle.std.proofs.Common.{◌≡◌, ◌≢◌, ℕ, zero, suc, ◌+◌, ◌==◌, ◌/◌, ◌%◌, ◌≤◌, Bool, true, false, not, List, [], ◌∷◌}
use Rattle.std.proofs.Common.{◌++◌, refl, arith}
use Rattle.std.specs.Prelude.{nat_lt, if◌then◌else◌, codes}
use Rattle.std.specs.Fmt.{digit_glyph, digits_onto, digits, decimal}
use Rattle.std.specs.List.{AllByRecursion, list_all, join_by, flat_map}
use Rattle.std.proofs.lemmas.Bool.{and_parts, eqb-true}
use Rattle.hex.specs.Hex.{encode_with, lower_digits}
use Rattle.script_mean.specs.EventText.{hex_text}
use Rattle.chain_laws.proofs.Lists.{each_append, each_or}

-- none of these is the byte
abbrev pub Clear : ℕ → List ℕ → Type 0
Clear byte xs = AllByRecursion (λ b. (b == byte) ≡ false) xs

differs : (a b : ℕ) → (a ≢ b) → (a == b) ≡ false
differs a b ne = by (a == b) refl where
  by : (r : Bool) → (a == b) ≡ r → r ≡ false
  by true e = absurd (ne (eqb-true a b e))
  by false e = refl

is_not : (b : Bool) → not b ≡ true → b ≡ false
is_not true e = absurd (cc e)
is_not false e = refl

-- a text that a test finds clear, as any constant
pub clear_text : (byte : ℕ) (xs : List ℕ) → list_all (λ b. not (b == byte)) xs ≡ true → Clear byte xs
clear_text byte [] all = tt
clear_text byte (b ∷ xs) all =
    let parts = and_parts (not (b == byte)) (list_all (λ c. not (c == byte)) xs) all in
    (is_not (b == byte) parts.0, clear_text byte xs parts.1)

pub clear_both : (byte : ℕ) (xs ys : List ℕ) → Clear byte xs → Clear byte ys → Clear byte (xs ++ ys)
clear_both byte xs ys h more = each_append (λ b. (b == byte) ≡ false) xs ys h more

pub clear_all : {X : Type 0} (byte : ℕ) (f : X → List ℕ) → ((x : X) → Clear byte (f x)) → (xs : List X) →
    Clear byte (flat_map f xs)
clear_all byte f each [] = tt
clear_all byte f each (x ∷ xs) = clear_both byte (f x) (flat_map f xs) (each x) (clear_all byte f each xs)

pub clear_joined : {X : Type 0} (byte : ℕ) (f : X → List ℕ) (sep : List ℕ) → Clear byte sep →
    ((x : X) → Clear byte (f x)) → (xs : List X) → Clear byte (join_by f sep xs)
clear_joined byte f sep between each [] = tt
clear_joined byte f sep between each (x ∷ xs) = clear_both byte (f x) (flat_map (λ y. sep ++ f y) xs) (each x)
    (clear_all byte (λ y. sep ++ f y) (λ y. clear_both byte sep (f y) between (each y)) xs)

-- words that are clear, joined
pub clear_flat : (byte : ℕ) (sep : List ℕ) → Clear byte sep → (words : List (List ℕ)) →
    AllByRecursion (Clear byte) words →
    Clear byte (flat_map (λ w. sep ++ w) words)
clear_flat byte sep between [] all = tt
clear_flat byte sep between (w ∷ words) all = clear_both byte (sep ++ w) (flat_map (λ x. sep ++ x) words)
    (clear_both byte sep w between all.0) (clear_flat byte sep between words all.1)

-- digits begin at 48

glyph_clear : (byte d : ℕ) → byte ≤ 47 → (digit_glyph false d == byte) ≡ false
glyph_clear byte d small = by (nat_lt d 10) where
  by : (b : Bool) → ((if b then 48 + d else 87 + d) == byte) ≡ false
  by true = differs (48 + d) byte (λ e. omega (arith, e, small))
  by false = differs (87 + d) byte (λ e. omega (arith, e, small))

either_clear : (byte : ℕ) (b : Bool) (xs ys : List ℕ) → Clear byte xs → Clear byte ys →
    Clear byte (if b then xs else ys)
either_clear byte true xs ys h more = h
either_clear byte false xs ys h more = more

digits_clear : (byte k n : ℕ) (acc : List ℕ) → byte ≤ 47 → Clear byte acc → Clear byte (digits_onto k 10 false n acc)
digits_clear byte zero n acc small h = h
digits_clear byte (suc k) n acc small h =
    let more = digit_glyph false (n % 10) ∷ acc in
    let clear : Clear byte more = (glyph_clear byte (n % 10) small, h) in
    either_clear byte (n / 10 == 0) more (digits_onto k 10 false (n / 10) more) clear
    (digits_clear byte k (n / 10) more small clear)

pub decimal_clear : (byte n : ℕ) → byte ≤ 47 → Clear byte (decimal n)
unfolding digits
decimal_clear byte n small = digits_clear byte 64 n [] small tt

-- what sixteen digits have, and no digit beyond them

pub hex_clear : (byte : ℕ) → Clear byte lower_digits → (0 == byte) ≡ false → (bytes : List ℕ) →
    Clear byte (encode_with lower_digits bytes)
unfolding encode_with
hex_clear byte table beyond [] = tt
hex_clear byte table beyond (b ∷ bytes) = (
  each_or (λ c. (c == byte) ≡ false) lower_digits (b / 16) 0 table beyond,
  (
    each_or (λ c. (c == byte) ≡ false) lower_digits (b % 16) 0 table beyond,
    hex_clear byte table beyond bytes,
  ),
)

pub body_clear : (body : List ℕ) → Clear 10 (hex_text body)
body_clear [] = clear_text 10 (codes "-") refl
body_clear (b ∷ body) = hex_clear 10 (clear_text 10 lower_digits refl) refl (b ∷ body)
