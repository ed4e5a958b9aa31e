-- What readers find at the front of a text that was written.
use Rattle.std.proofs.Common.{◌≡◌, ℕ, zero, suc, ◌^◌, ◌<◌, ◌≤◌, Bool, true, false, not, ◌&&◌, ◌==◌, List, [], ◌∷◌, ◌++◌}
use Rattle.std.proofs.Common.{length, take, drop, get_or, Option, Some, None, option_and_then, option_map, decimal}
use Rattle.std.proofs.Common.{bytes_eq, refl, sym, ap, ap₂, ◌∙◌, subst, arith, ◌⊎◌, inl, inr, eqb-true}
use Rattle.std.specs.Prelude.{if◌then◌else◌, All}
use Rattle.std.specs.Char.{is_ascii_digit}
use Rattle.std.specs.List.{AllByRecursion, list_all, join_with_byte, position_or_len, slice_split}
use Rattle.std.specs.Str.{all_ascii_digits}
use Rattle.std.proofs.Math.Seq.{take-append_seam, drop-append_seam}
use Rattle.std.proofs.lemmas.Bool.{and_parts}
use Rattle.std.proofs.lemmas.Bool.Decides.{nat_tests}
use Rattle.std.proofs.lemmas.Fmt.{decimal_nonempty, first_decimal, decimal_digit, digits_decimal, digits_value-decimal}
use Rattle.std.proofs.lemmas.List.Elements.{All-nil, All-cons}
use Rattle.std.proofs.lemmas.List.Folds.{list_all-append}
use Rattle.std.proofs.lemmas.List.Splits.{slice_split_at, slice_split_none}
use Rattle.std.proofs.lemmas.Slice.Eq.{bytes_eq-Decides}
use Rattle.std.proofs.lemmas.Str.Parse.{numerals_by_value, tells_all_ascii_digits}
use Rattle.layer_words.specs.Spelling.{is_word_byte}
use Rattle.script_mean.specs.Words.{is_plain, within, number_of}
use Rattle.pack_mean.specs.Reader.{Reader, ◌>>=◌, yields, option_reader, the_text, run_of, is_name_byte, a_name}
use Rattle.pack_round_laws.specs.Told.{IsWord}

-- At the front of a text a reader finds this, and these bytes after it.
pub record Finds {A : Type 0} (read : Reader A) (text : List ℕ) (x : A) (rest : List ℕ) : Type 0 where
  pub said : read text ≡ Some (x, rest)

pub finds_value : {A : Type 0} (x : A) (text : List ℕ) → Finds (yields x) text x text
finds_value x text = record { said = refl }

pub finds_then : {A B : Type 0} (read : Reader A) (next : A → Reader B) (text : List ℕ) (x : A) (left : List ℕ) (y : B)
    (rest : List ℕ) →
    Finds read text x left → Finds (next x) left y rest → Finds (read >>= next) text y rest
finds_then read next text x left y rest h k =
    record { said = ap (λ o. option_and_then (λ taken. next taken.0 taken.1) o) h.said ∙ k.said }

text_back : (wanted rest : List ℕ) → the_text wanted (wanted ++ rest) ≡ Some (tt, rest)
text_back wanted rest =
    let same : bytes_eq (take (length wanted) (wanted ++ rest)) wanted ≡ true =
    ap (λ l. bytes_eq l wanted) (take-append_seam wanted rest) ∙ (bytes_eq-Decides wanted wanted).1 refl in
    ap (λ b. if b then Some (tt, drop (length wanted) (wanted ++ rest)) else None) same ∙
    ap (λ l. Some (tt, l)) (drop-append_seam wanted rest)

pub finds_text : {B : Type 0} (wanted : List ℕ) (next : Unit {0} → Reader B) (text : List ℕ) (y : B) (rest : List ℕ) →
    Finds (next tt) text y rest →
    Finds (the_text wanted >>= next) (wanted ++ text) y rest
finds_text wanted next text y rest h = finds_then (the_text wanted) next (wanted ++ text) tt text y rest record
    { said = text_back wanted text } h

pub finds_given : {A B : Type 0} (o : Option A) (next : A → Reader B) (text : List ℕ) (x : A) (y : B) (rest : List ℕ) →
    o ≡ Some x →
    Finds (next x) text y rest → Finds (option_reader o >>= next) text y rest
finds_given o next text x y rest is h =
    finds_then (option_reader o) next text x text y rest record { said = ap (λ q. option_map (λ v. (v, text)) q) is } h

pub finds_known : {A : Type 0} (o : Option A) (text : List ℕ) (x : A) → o ≡ Some x → Finds (option_reader o) text x text
finds_known o text x is = record { said = ap (λ q. option_map (λ v. (v, text)) q) is }

-- after another text that is the same
pub finds_same : {A : Type 0} (read : Reader A) (text other : List ℕ) (x : A) (rest : List ℕ) → text ≡ other →
    Finds read other x rest →
    Finds read text x rest
finds_same read text other x rest same h = record { said = ap read same ∙ h.said }

-- a run of bytes ends where the next is none, or there is none
abbrev pub Stops : (ℕ → Bool) → List ℕ → Type 0
Stops such [] = Unit {0}
Stops such (byte ∷ bytes) = such byte ≡ false

run_length : (such : ℕ → Bool) (text rest : List ℕ) → list_all such text ≡ true → Stops such rest →
    position_or_len (λ byte. not (such byte)) (text ++ rest) ≡ length text
run_length such [] [] all stops = refl
run_length such [] (byte ∷ bytes) all stops = rw stops refl
run_length such (t ∷ text) rest all stops =
    let parts = and_parts (such t) (list_all such text) all in
    let more = run_length such text rest parts.1 stops in
    rw parts.0 (omega (arith, more))

pub run_back : (such : ℕ → Bool) (text rest : List ℕ) → list_all such text ≡ true → Stops such rest →
    Finds (run_of such) (text ++ rest) text rest
run_back such text rest all stops = record {
  said = ap (λ n. Some (take n (text ++ rest), drop n (text ++ rest))) (run_length such text rest all stops) ∙
      ap₂ (λ x y. Some (x, y)) (take-append_seam text rest) (drop-append_seam text rest);
}

-- names, of words
name_byte : (byte : ℕ) → is_word_byte byte ≡ true → is_name_byte byte ≡ true
name_byte byte is = rw is refl

no_point : (byte : ℕ) → is_word_byte byte ≡ true → (byte == 46) ≡ false
no_point byte is = go (byte == 46) refl where
  go : (b : Bool) → (byte == 46) ≡ b → b ≡ false
  go true e = absurd (cc (subst (λ n. is_word_byte n ≡ true) (eqb-true byte 46 e) is))
  go false e = refl

name_bytes : (word : List ℕ) → IsWord word → list_all is_name_byte word ≡ true
name_bytes [] is = refl
name_bytes (byte ∷ word) is =
    let parts = and_parts (is_word_byte byte) (list_all is_word_byte word) is in
    rw (name_byte byte parts.0) (name_bytes word parts.1)

no_points : (word : List ℕ) → IsWord word → All (λ byte. (byte == 46) ≡ false) word
no_points [] is = All-nil (λ byte. (byte == 46) ≡ false)
no_points (byte ∷ word) is =
    let parts = and_parts (is_word_byte byte) (list_all is_word_byte word) is in
    All-cons (λ byte. (byte == 46) ≡ false) byte word (no_point byte parts.0) (no_points word parts.1)

name_split : (word : List ℕ) (words : List (List ℕ)) → IsWord word → AllByRecursion IsWord words →
    slice_split (λ byte. byte == 46) (join_with_byte 46 (word ∷ words)) ≡ word ∷ words
name_split word [] is are = slice_split_none _ word (no_points word is)
name_split word (next ∷ words) is are =
    slice_split_at _ word 46 (join_with_byte 46 (next ∷ words)) (no_points word is) refl ∙
    ap (λ ws. word ∷ ws) (name_split next words are.0 are.1)

name_all : (word : List ℕ) (words : List (List ℕ)) → IsWord word → AllByRecursion IsWord words →
    list_all is_name_byte (join_with_byte 46 (word ∷ words)) ≡ true
name_all word [] is are = name_bytes word is
name_all word (next ∷ words) is are = list_all-append is_name_byte word (46 ∷ join_with_byte 46 (next ∷ words)) ∙
    rw (name_bytes word is) (name_all next words are.0 are.1)

pub name_back : (word : List ℕ) (words : List (List ℕ)) (rest : List ℕ) → IsWord word → AllByRecursion IsWord words →
    Stops is_name_byte rest →
    Finds a_name (join_with_byte 46 (word ∷ words) ++ rest) (word ∷ words) rest
name_back word words rest is are stops =
    finds_then (run_of is_name_byte) (λ name. yields (slice_split (λ byte. byte == 46) name))
    (join_with_byte 46 (word ∷ words) ++ rest)
    (join_with_byte 46 (word ∷ words)) rest (word ∷ words) rest
    (run_back is_name_byte (join_with_byte 46 (word ∷ words)) rest (name_all word words is are) stops)
    record { said = ap (λ ws. Some (ws, rest)) (name_split word words is are) }

-- decimal numbers
digits_same : (ds : List ℕ) → all_ascii_digits ds ≡ list_all is_ascii_digit ds
digits_same [] = refl
digits_same (d ∷ ds) = ap (λ b. is_ascii_digit d && b) (digits_same ds)

decimal_digits : (n : ℕ) → n < 2 ^ 64 → list_all is_ascii_digit (decimal n) ≡ true
decimal_digits n small = sym (digits_same (decimal n)) ∙ digits_decimal (numerals_by_value _ tells_all_ascii_digits) n
    small

digit_byte : (d : ℕ) → is_ascii_digit d ≡ true → is_word_byte d ≡ true
digit_byte d is = grind (arith, nat_tests)

digits_word : (ds : List ℕ) → list_all is_ascii_digit ds ≡ true → IsWord ds
digits_word [] all = refl
digits_word (d ∷ ds) all =
    let parts = and_parts (is_ascii_digit d) (list_all is_ascii_digit ds) all in
    rw (digit_byte d parts.0) (digits_word ds parts.1)

plain : (ds : List ℕ) → list_all is_ascii_digit ds ≡ true → 0 < length ds → (length ds ≡ 1) ⊎ (48 < get_or ds 0 0) →
    is_plain ds ≡ true
plain [] all some first = absurd (omega arith)
plain (d ∷ []) all some first = (and_parts (is_ascii_digit d) _ all).0
plain (d ∷ e ∷ more) all some (inl one) = absurd (omega arith)
plain (d ∷ e ∷ more) all some (inr large) =
    let other : (d == 48) ≡ false = grind (arith, nat_tests) in
    rw other all

leads : (n : ℕ) → n < 2 ^ 64 → (length (decimal n) ≡ 1) ⊎ (48 < get_or (decimal n) 0 0)
leads zero small = inl (ap length (decimal_digit 0 (omega arith)))
leads (suc n) small = inr (first_decimal (suc n) (omega arith) small)

decimal_plain : (n : ℕ) → n < 2 ^ 64 → is_plain (decimal n) ≡ true
decimal_plain n small = plain (decimal n) (decimal_digits n small) (decimal_nonempty n small) (leads n small)

inside : (n : ℕ) → n ≤ 4294967295 → within 0 4294967295 n ≡ Some n
inside n most = grind (arith, nat_tests)

pub number_back : (n : ℕ) → n ≤ 4294967295 → number_of (decimal n) ≡ Some n
number_back n most =
    rw (
      decimal_plain n (omega arith),
      digits_value-decimal (numerals_by_value _ tells_all_ascii_digits) n (omega arith),
    ) (inside n most)

pub decimal_word : (n : ℕ) → n ≤ 4294967295 → IsWord (decimal n)
decimal_word n most = digits_word (decimal n) (decimal_digits n (omega arith))

-- they spell no other word
pub decimal_differs : (n : ℕ) (word : List ℕ) → n ≤ 4294967295 → list_all is_ascii_digit word ≡ false →
    bytes_eq (decimal n) word ≡ false
decimal_differs n word most other = go (bytes_eq (decimal n) word) refl where
  go : (b : Bool) → bytes_eq (decimal n) word ≡ b → b ≡ false
  go true e = absurd (cc (
    ap (list_all is_ascii_digit) ((bytes_eq-Decides (decimal n) word).0 e),
    decimal_digits n (omega arith),
    other,
  ))
  go false e = refl

-- a text that begins with a byte of a word begins with no sign
abbrev pub Leads : List ℕ → Type 0
Leads [] = ⊥
Leads (byte ∷ bytes) = is_word_byte byte ≡ true

pub leads_not : (sign : ℕ) (text rest : List ℕ) → is_word_byte sign ≡ false → Leads text →
    bytes_eq (take 1 (text ++ rest)) (sign ∷ []) ≡ false
leads_not sign [] rest none leads = absurd leads
leads_not sign (byte ∷ text) rest none leads = go (byte == sign) refl where
  go : (b : Bool) → (byte == sign) ≡ b → bytes_eq (take 1 (byte ∷ text ++ rest)) (sign ∷ []) ≡ false
  go true e = absurd (cc (subst (λ n. is_word_byte n ≡ true) (eqb-true byte sign e) leads, none))
  go false e = rw e refl

leads_digits : (ds : List ℕ) → 0 < length ds → list_all is_ascii_digit ds ≡ true → Leads ds
leads_digits [] some all = absurd (omega arith)
leads_digits (d ∷ ds) some all = digit_byte d (and_parts (is_ascii_digit d) (list_all is_ascii_digit ds) all).0

pub decimal_leads : (n : ℕ) → n ≤ 4294967295 → Leads (decimal n)
decimal_leads n most = leads_digits (decimal n) (decimal_nonempty n (omega arith)) (decimal_digits n (omega arith))

pub leads_more : (text more : List ℕ) → Leads text → Leads (text ++ more)
leads_more [] more leads = absurd leads
leads_more (byte ∷ text) more leads = leads
