-- What is left of a line as one word, or as none.
use Rattle.std.proofs.Common.{◌≡◌, ◌≢◌, ℕ, zero, suc, ◌*◌, ◌+◌, ◌<◌, ◌≤◌, Bool, true, false, List, [], ◌∷◌, length}
use Rattle.std.proofs.Common.{get_or, Option, Some, None, refl, sym, ap, ◌∙◌, arith}
use Rattle.std.specs.Prelude.{◌==◌, ◌&&◌, ◌||◌, nat_lt, codes, bytes_eq, if◌then◌else◌}
use Rattle.std.proofs.lemmas.Bool.{eqb-true}
use Rattle.std.proofs.lemmas.Bool.Decides.{nat_tests}
use Rattle.std.proofs.lemmas.Option.{none-some}
use Rattle.std.proofs.lemmas.List.Splits.{length-slice_split, slice_split_none}
use Rattle.script_mean.specs.Words.{◌>>=◌, Word, body_of, hex_digit, hex_bytes, most_digits, words_of}
use Rattle.script_mean.specs.Form.{a_body, ends, one}
use Rattle.script_text.specs.Parts.{parts_after}
use denote.Ref.{Bor}

-- both digits of a byte are some, and so are those after them
record AreSome (high low : Option ℕ) (more : Option (List ℕ)) : Type 0 where
  pub high_some : high ≢ None
  pub low_some : low ≢ None
  pub following : List ℕ
  pub more_is : more ≡ Some following

are_some : (high low : Option ℕ) (more : Option (List ℕ)) (bytes : List ℕ) →
    (high >>= λ h. low >>= λ l. more >>= λ rest. Some ((h * 16 + l) ∷ rest)) ≡ Some bytes → AreSome high low more
are_some None low more bytes is = absurd (none-some _ is)
are_some (Some h) None more bytes is = absurd (none-some _ is)
are_some (Some h) (Some l) None bytes is = absurd (none-some _ is)
are_some (Some h) (Some l) (Some rest) bytes is = record {
  high_some = λ none. none-some _ (sym none);
  low_some = λ none. none-some _ (sym none);
  following = rest;
  more_is = refl;
}

-- a space is no digit
no_space : (byte : ℕ) → hex_digit byte ≢ None → (byte == 32) ≡ false
no_space byte some = by_test (byte == 32) refl
  where
    by_test : (test : Bool) → (byte == 32) ≡ test → (byte == 32) ≡ false
    by_test true is = absurd (some (ap hex_digit (eqb-true byte 32 is)))
    by_test false is = is

no_spaces : (text bytes : List ℕ) → hex_bytes text ≡ Some bytes → (k d : ℕ) → k < length text →
    (get_or text k d == 32) ≡ false
no_spaces [] bytes is k d within = absurd (omega (arith, within))
no_spaces (digit ∷ []) bytes is k d within = absurd (none-some _ is)
no_spaces (high ∷ low ∷ more) bytes is zero d within =
    no_space high (are_some (hex_digit high) (hex_digit low) (hex_bytes more) bytes is).high_some
no_spaces (high ∷ low ∷ more) bytes is (suc zero) d within =
    no_space low (are_some (hex_digit high) (hex_digit low) (hex_bytes more) bytes is).low_some
no_spaces (high ∷ low ∷ more) bytes is (suc (suc k)) d within =
    let parts = are_some (hex_digit high) (hex_digit low) (hex_bytes more) bytes is in
    no_spaces more parts.following parts.more_is k d (omega (arith, within))

not_dash : (text bytes : List ℕ) → hex_bytes text ≡ Some bytes → bytes_eq text (codes "-") ≡ false
not_dash [] bytes is = refl
not_dash (digit ∷ []) bytes is = absurd (none-some _ is)
not_dash (high ∷ low ∷ more) bytes is = by_first (high == 45)
  where
    by_first : (test : Bool) → (test && false) ≡ false
    by_first true = refl
    by_first false = refl

few_digits : (n : ℕ) → n ≢ 0 → n ≤ most_digits → (n == 0 || nat_lt most_digits n) ≡ false
few_digits n some few = grind (arith, nat_tests)

-- a text that is all digits of a body is one word, which spells it
pub whole_body : (text bytes : List ℕ) → length text ≢ 0 → length text ≤ most_digits → hex_bytes text ≡ Some bytes →
    a_body (words_of text) ≡ Some (bytes, [])
whole_body text bytes some few is =
    let word = slice_split_none (λ byte. byte == 32) text (λ k d within. no_spaces text bytes is k d within) in
    let body : body_of text ≡ Some bytes =
    ap (λ b. if b then Some [] else if length text == 0 || nat_lt most_digits (length text) then None else hex_bytes
    text)
    (not_dash text bytes is)
    ∙ ap (λ b. if b then None else hex_bytes text) (few_digits (length text) some few) ∙ is in
    ap (one body_of) word ∙ (λ i. one (λ word. body i) (text ∷ []))

not_ended_on : (words : List Word) → 0 < length words → ends {A = Unit {0}} tt words ≡ None
not_ended_on [] some = absurd (omega (arith, some))
not_ended_on (word ∷ words) some = refl

-- a rest has a word
pub not_ended : (rest : Option (Bor (List ℕ))) (text : Bor (List ℕ)) → rest ≡ Some text →
    ends {A = Unit {0}} tt (parts_after 32 rest) ≡ None
not_ended rest text is =
    let count = length-slice_split (λ byte. byte == 32) text.now in
    ap (λ left. ends {A = Unit {0}} tt (parts_after 32 left)) is
    ∙ not_ended_on (words_of text.now) (omega (arith, count))
