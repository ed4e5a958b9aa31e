-- The tokens of the language are the marks of a text that are no comments, each whole.
use Rattle.std.proofs.Common.{◌≡◌, ℕ, zero, suc, ◌+◌, ◌-◌, Bool, true, false, not, ◌&&◌, ◌||◌, cond, nat_eq, nat_lt}
use Rattle.std.proofs.Common.{nat_le, List, [], ◌∷◌, map, length, take, drop, find, Option, Some, None, refl, sym, ap}
use Rattle.std.proofs.Common.{subst, ◌∙◌, arith, eqb-true, true≢false}
use Rattle.std.proofs.lemmas.Bool.{ne_eqb, eqb-false, eq-eqb}
use Rattle.std.proofs.lemmas.List.Folds.{length-prefix_len}
use Rattle.std.specs.Prelude.{codes}
use Rattle.std.specs.Char.{is_ascii_alphabetic, is_ascii_digit}
use Rattle.std.specs.Int.{is_in_range}
use Rattle.std.specs.List.{list_all, prefix_len, starts_with}
use Rattle.std.specs.Option.{option_map_or}
use Rattle.layer_words.specs.declared.places.At.{At}
use Rattle.layer_ast.specs.declared.tokens.Lexed.{Lexed}
use Rattle.layer_words.specs.declared.signs.Sign.{Sign}
use Rattle.layer_words.specs.declared.signs.Sign.TheVariants as sign
use Rattle.layer_ast.specs.declared.tokens.Token.{Token}
use Rattle.layer_ast.specs.declared.tokens.Token.TheVariants as token
use Rattle.layer_ast.specs.Cut.{Piece as Cut, gap, one, bad, Tokens, is_numeral, piece, word_piece, number_piece}
use Rattle.layer_ast.specs.Cut.{symbol_piece, with_piece, cut_from, text_tokens, place_after}
use Rattle.layer_words.specs.Spelling.{is_blank, is_word_byte, symbols}
use Rattle.layer_ast.specs.Cut.{word_token, number_of, symbol_at}
use Rattle.format_mean.specs.Laws.{unless_bad, good_tokens}
use Rattle.format_mean.specs.Layout.{formatted}
use Rattle.format_mean.specs.Pieces.{Piece, feed, blank, whole, one_more, comment_length, doubles, sign_length}
use Rattle.format_mean.specs.Pieces.{length_after, front, more_feeds, with_front, pieces_from, marks}
use Rattle.format_mean.proofs.Round.{keeps_marks}

-- a piece of the language that has all of these bytes
abbrev whole_token : Cut → ℕ → Option Token
whole_token (one t n) m = cond (nat_eq n m) (Some t) None
whole_token (gap _) m = None
whole_token bad m = None

abbrev token_of : ℕ → List ℕ → Option Token
token_of b bs = whole_token (piece false b bs) (length bs)

abbrev with_token : Option Token → Option (List Token) → Option (List Token)
with_token None rest = None
with_token (Some t) None = None
with_token (Some t) (Some ts) = Some (t ∷ ts)

abbrev with_mark : List ℕ → Option (List Token) → Option (List Token)
with_mark [] rest = None
with_mark (b ∷ bs) rest = cond (nat_eq b 35) rest (with_token (token_of b bs) rest)

-- the tokens that marks spell
abbrev tokens_of : List (List ℕ) → Option (List Token)
tokens_of [] = Some []
tokens_of (m ∷ ms) = with_mark m (tokens_of ms)

abbrev tokens_in : List Piece → Option (List Token)
tokens_in ps = tokens_of (map (λ (p : Piece). p.spelling) ps)

-- after a number no letter comes
abbrev Calm : Bool → ℕ → List ℕ → Type 0
Calm false inside text = Unit {0}
Calm true inside [] = Unit {0}
Calm true zero (b ∷ bs) = is_ascii_alphabetic b ≡ false
Calm true (suc inside) (b ∷ bs) = Calm true inside bs

-- the piece of a text by what its first byte is
abbrev piece_by : (gaps remark letter digit number : Bool) → ℕ → List ℕ → Cut
piece_by gaps remark letter digit number b bs =
    cond gaps (gap 0) (cond remark (gap (prefix_len (λ c. not (nat_eq c 10)) bs))
    (cond letter (cond number bad (word_piece b bs)) (cond digit (number_piece b bs) (symbol_piece (b ∷ bs)))))

piece_is : (number : Bool) (b : ℕ) (bs : List ℕ) →
    piece number b bs ≡ piece_by (is_blank b) (nat_eq b 35) (is_ascii_alphabetic b) (is_ascii_digit b) number b bs
unfolding piece
piece_is number b bs = refl

piece_as : (t r a d number : Bool) (b : ℕ) (bs : List ℕ) → is_blank b ≡ t → nat_eq b 35 ≡ r →
    is_ascii_alphabetic b ≡ a → is_ascii_digit b ≡ d →
    piece number b bs ≡ piece_by t r a d number b bs
piece_as t r a d number b bs t_is r_is a_is d_is =
    piece_is number b bs
    ∙ (ap (λ x. piece_by x (nat_eq b 35) (is_ascii_alphabetic b) (is_ascii_digit b) number b bs) t_is
    ∙ (ap (λ x. piece_by t x (is_ascii_alphabetic b) (is_ascii_digit b) number b bs) r_is
    ∙ (ap (λ x. piece_by t r x (is_ascii_digit b) number b bs) a_is ∙ ap (λ x. piece_by t r a x number b bs) d_is)))

-- the bytes that pass at the front of those that pass a weaker test
module _ (p q : ℕ → Bool) (weaker : (c : ℕ) → q c ≡ true → p c ≡ true) where
  fronts : (bs : List ℕ) →
      (prefix_len q (take (prefix_len p bs) bs) ≡ prefix_len q bs)
      × (take (prefix_len q bs) (take (prefix_len p bs) bs) ≡ take (prefix_len q bs) bs)
  fronts [] = (refl, refl)
  fronts (c ∷ cs) = let ih = fronts cs in by_tests (p c) (q c) refl (weaker c) ih.0 ih.1
    where
      by_second : (v : Bool) (m n : ℕ) → take n (take m cs) ≡ take n cs →
          take (cond v (1 + n) 0) (c ∷ take m cs) ≡ take (cond v (1 + n) 0) (c ∷ cs)
      by_second true m n same =
          let e : 1 + n ≡ suc n = omega arith in
          ap (λ k. take k (c ∷ take m cs)) e ∙ (ap (λ xs. c ∷ xs) same ∙ sym (ap (λ k. take k (c ∷ cs)) e))
      by_second false m n same = refl

      by_tests : (u v : Bool) → q c ≡ v → (q c ≡ true → u ≡ true) →
          prefix_len q (take (prefix_len p cs) cs) ≡ prefix_len q cs →
          take (prefix_len q cs) (take (prefix_len p cs) cs) ≡ take (prefix_len q cs) cs →
          (prefix_len q (take (cond u (1 + prefix_len p cs) 0) (c ∷ cs)) ≡ cond v (1 + prefix_len q cs) 0)
          × (take (cond v (1 + prefix_len q cs) 0) (take (cond u (1 + prefix_len p cs) 0) (c ∷ cs))
          ≡ take (cond v (1 + prefix_len q cs) 0) (c ∷ cs))
      by_tests true v v_is imp first second =
          let e : 1 + prefix_len p cs ≡ suc (prefix_len p cs) = omega arith in (
            ap (λ k. prefix_len q (take k (c ∷ cs))) e
                ∙ (ap (λ t. cond t (1 + prefix_len q (take (prefix_len p cs) cs)) 0) v_is ∙
                ap (λ k. cond v (1 + k) 0) first),
            ap (λ k. take (cond v (1 + prefix_len q cs) 0) (take k (c ∷ cs))) e ∙
                by_second v (prefix_len p cs) (prefix_len q cs) second,
          )
      by_tests false true v_is imp first second = absurd (true≢false (sym (imp v_is)))
      by_tests false false v_is imp first second = (refl, refl)

-- a word byte is a letter, a digit or an underscore
word_kind : (b : ℕ) → is_word_byte b ≡ true → is_ascii_alphabetic b ≡ false → is_ascii_digit b ≡ false →
    nat_eq b 95 ≡ true
word_kind b word letter digit =
    by_tests (is_in_range 48 57 b) (is_in_range 65 90 b) (is_in_range 97 122 b) (nat_eq b 95) word letter digit
  where
    by_tests : (d u l e : Bool) → (((d || u) || l) || e) ≡ true → (u || l) ≡ false → d ≡ false → e ≡ true
    by_tests true u l e word letter digit = absurd (true≢false digit)
    by_tests false true l e word letter digit = absurd (true≢false letter)
    by_tests false false true e word letter digit = absurd (true≢false letter)
    by_tests false false false e word letter digit = word

letter_word : (b : ℕ) → is_ascii_alphabetic b ≡ true → is_word_byte b ≡ true
letter_word b letter = by_tests (is_in_range 48 57 b) (is_in_range 65 90 b) (is_in_range 97 122 b) (nat_eq b 95) letter
  where
    by_tests : (d u l e : Bool) → (u || l) ≡ true → (((d || u) || l) || e) ≡ true
    by_tests true u l e letter = refl
    by_tests false true l e letter = refl
    by_tests false false true e letter = refl
    by_tests false false false e letter = absurd (true≢false (sym letter))

digit_word : (b : ℕ) → is_ascii_digit b ≡ true → is_word_byte b ≡ true
digit_word b digit = by_tests (is_in_range 48 57 b) (is_in_range 65 90 b) (is_in_range 97 122 b) (nat_eq b 95) digit
  where
    by_tests : (d u l e : Bool) → d ≡ true → (((d || u) || l) || e) ≡ true
    by_tests true u l e digit = refl
    by_tests false u l e digit = absurd (true≢false (sym digit))

no_letter : (b : ℕ) → is_word_byte b ≡ false → is_ascii_alphabetic b ≡ false
no_letter b none = by_test (is_ascii_alphabetic b) refl
  where
    by_test : (t : Bool) → is_ascii_alphabetic b ≡ t → t ≡ false
    by_test true is = absurd (true≢false (sym (letter_word b is) ∙ none))
    by_test false is = refl

-- a word byte is no blank and begins no comment
other_byte : (b k : ℕ) → is_word_byte b ≡ true → is_word_byte k ≡ false → nat_eq b k ≡ false
other_byte b k word none = by_test (nat_eq b k) refl
  where
    by_test : (t : Bool) → nat_eq b k ≡ t → t ≡ false
    by_test true is = absurd (true≢false (sym word ∙ (ap is_word_byte (eqb-true b k is) ∙ none)))
    by_test false is = refl

no_blank : (b : ℕ) → is_word_byte b ≡ true → is_blank b ≡ false
no_blank b word =
    by_tests (nat_eq b 32) (nat_eq b 9) (nat_eq b 13) (nat_eq b 10) (other_byte b 32 word refl)
    (other_byte b 9 word refl)
    (other_byte b 13 word refl) (other_byte b 10 word refl)
  where
    by_tests : (p q r s : Bool) → p ≡ false → q ≡ false → r ≡ false → s ≡ false → (p || (q || (r || s))) ≡ false
    by_tests true q r s p_is q_is r_is s_is = p_is
    by_tests false true r s p_is q_is r_is s_is = q_is
    by_tests false false true s p_is q_is r_is s_is = r_is
    by_tests false false false s p_is q_is r_is s_is = s_is

-- after the last word byte no letter comes
calm_true : (bs : List ℕ) → Calm true (prefix_len is_word_byte bs) bs
calm_true [] = tt
calm_true (c ∷ cs) = by_test (is_word_byte c) refl (calm_true cs)
  where
    by_test : (t : Bool) → is_word_byte c ≡ t → Calm true (prefix_len is_word_byte cs) cs →
        Calm true (cond t (1 + prefix_len is_word_byte cs) 0) (c ∷ cs)
    by_test true is later =
        let e : 1 + prefix_len is_word_byte cs ≡ suc (prefix_len is_word_byte cs) = omega arith in
        subst (λ n. Calm true n (c ∷ cs)) (sym e) later
    by_test false is later = no_letter c is

calm_after : (bs : List ℕ) (number : Bool) → Calm number (prefix_len is_word_byte bs) bs
calm_after bs true = calm_true bs
calm_after bs false = tt

-- the blanks at the end of a comment's line say nothing
comment_same : (f : ℕ) (bs : List ℕ) →
    pieces_from f (comment_length bs) bs ≡ pieces_from f (prefix_len (λ c. not (nat_eq c 10)) bs) bs
comment_same f [] = refl
comment_same f (c ∷ cs) =
    by_tests (nat_eq c 10) (is_blank c) (comment_length cs) refl refl (comment_same f cs)
  where
    by_tests : (e t : Bool) (n : ℕ) → nat_eq c 10 ≡ e → is_blank c ≡ t →
        pieces_from f n cs ≡ pieces_from f (prefix_len (λ c. not (nat_eq c 10)) cs) cs →
        pieces_from f (cond e 0 (one_more t n)) (c ∷ cs)
        ≡ pieces_from f (cond (not e) (1 + prefix_len (λ c. not (nat_eq c 10)) cs) 0) (c ∷ cs)
    by_tests true t n e_is t_is ih = refl
    by_tests false t n e_is t_is ih =
        let k = prefix_len (λ c. not (nat_eq c 10)) cs in
        let e : 1 + k ≡ suc k = omega arith in
        by_blank t n t_is ih ∙ sym (ap (λ n. pieces_from f n (c ∷ cs)) e)
      where
        here : is_blank c ≡ true → front c cs ≡ blank
        here is =
            ap (λ e. cond e feed (cond (is_blank c) blank (whole (length_after c cs)))) e_is
            ∙ ap (λ t. cond t blank (whole (length_after c cs))) is

        by_blank : (t : Bool) (n : ℕ) → is_blank c ≡ t →
            pieces_from f n cs ≡ pieces_from f (prefix_len (λ c. not (nat_eq c 10)) cs) cs →
            pieces_from f (one_more t n) (c ∷ cs) ≡ pieces_from f (prefix_len (λ c. not (nat_eq c 10)) cs) cs
        by_blank true zero is ih = ap (λ g. with_front g f c cs (λ feeds inside. pieces_from feeds inside cs)) (here is)
            ∙ ih
        by_blank true (suc n) is ih = ih
        by_blank false n is ih = ih

-- one good token more
good_more : (l : Lexed) (r : Tokens) → good_tokens (record r { tokens = l ∷ r.tokens }) ≡
    with_token (Some l.token) (good_tokens r)
good_more l r = by_bad r.bad_at
  where
    by_bad : (o : Option At) → unless_bad (l ∷ r.tokens) o ≡ with_token (Some l.token) (unless_bad r.tokens o)
    by_bad None = refl
    by_bad (Some at) = refl

-- a piece that is bad, or a token of m bytes
abbrev IsOwn : (Bool → Type 0) → Cut → ℕ → Type 0
IsOwn calm (gap _) m = ⊥
IsOwn calm bad m = Unit {0}
IsOwn calm (one t n) m = (n ≡ m) × calm (is_numeral t)

taken : (calm : Bool → Type 0) (p : Cut) (m : ℕ) (at : At) (rest : Bool → ℕ → Tokens) (later : Option (List Token)) →
    IsOwn calm p m →
    ((number : Bool) → calm number → good_tokens (rest number m) ≡ later) →
    good_tokens (with_piece p at rest) ≡ with_token (whole_token p m) later
taken calm (gap n) m at rest later own ih = absurd own
taken calm bad m at rest later own ih = refl
taken calm (one t n) m at rest later own ih =
    good_more (record { token = t; at = at }) (rest (is_numeral t) n)
    ∙ (ap (λ k. with_token (Some t) (good_tokens (rest (is_numeral t) k))) own.0
    ∙ (ap (with_token (Some t)) (ih (is_numeral t) own.1) ∙
    sym (ap (λ s. with_token (cond s (Some t) None) later) (eq-eqb n m own.0))))

-- a number and letters directly after it are no token
underscore : (number : Bool) (bs : List ℕ) → piece number 95 bs ≡ bad
unfolding piece symbol_at symbols
underscore number bs = refl

inside_word : (c : ℕ) (cs : List ℕ) → is_word_byte c ≡ true → is_ascii_digit c ≡ false → piece true c cs ≡ bad
inside_word c cs word digit = by_letter (is_ascii_alphabetic c) refl
  where
    by_letter : (a : Bool) → is_ascii_alphabetic c ≡ a → piece true c cs ≡ bad
    by_letter true letter = piece_as false false true false true c cs (no_blank c word) (other_byte c 35 word refl)
        letter digit
    by_letter false letter =
        let is : c ≡ 95 = eqb-true c 95 (word_kind c word letter digit) in
        ap (λ b. piece true b cs) is ∙ underscore true cs

lost : (bs : List ℕ) (at : At) → nat_eq (prefix_len is_ascii_digit bs) (prefix_len is_word_byte bs) ≡ false →
    good_tokens (cut_from true (prefix_len is_ascii_digit bs) bs at) ≡ None
lost [] at less = absurd (true≢false less)
lost (c ∷ cs) at less =
    by_tests (is_ascii_digit c) (is_word_byte c) refl refl less (lost cs (place_after c at))
  where
    by_tests : (d w : Bool) → is_ascii_digit c ≡ d → is_word_byte c ≡ w →
        nat_eq (cond d (1 + prefix_len is_ascii_digit cs) 0) (cond w (1 + prefix_len is_word_byte cs) 0) ≡ false →
        (nat_eq (prefix_len is_ascii_digit cs) (prefix_len is_word_byte cs) ≡ false →
        good_tokens (cut_from true (prefix_len is_ascii_digit cs) cs (place_after c at)) ≡ None) →
        good_tokens (cut_from true (cond d (1 + prefix_len is_ascii_digit cs) 0) (c ∷ cs) at) ≡ None
    by_tests true true d_is w_is less ih =
        let n = prefix_len is_ascii_digit cs in
        let m = prefix_len is_word_byte cs in
        let e : 1 + n ≡ suc n = omega arith in
        let apart : nat_eq n m ≡ false = ne_eqb n m (λ same. eqb-false (1 + n) (1 + m) less (ap (λ k. 1 + k) same)) in
        ap (λ k. good_tokens (cut_from true k (c ∷ cs) at)) e ∙ ih apart
    by_tests true false d_is w_is less ih = absurd (true≢false (sym (digit_word c d_is) ∙ w_is))
    by_tests false true d_is w_is less ih =
        ap (λ p. good_tokens (with_piece p at (λ number n. cut_from number n cs (place_after c at))))
        (inside_word c cs w_is d_is)
    by_tests false false d_is w_is less ih = absurd (true≢false less)

-- what a sign at the front of a text is
abbrev sign_of : List ℕ × Sign → Cut
sign_of entry = one (token.Sign entry.1) (length entry.0 - 1)

abbrev Spelled : Type 0
Spelled = List ℕ × Sign

is_at : List ℕ → Spelled → Bool
is_at text entry = starts_with nat_eq text entry.0

passes_row : (text : List ℕ) (entry : Spelled) (table : List Spelled) → starts_with nat_eq text entry.0 ≡ false →
    find (λ e. starts_with nat_eq text e.0) (entry ∷ table) ≡ find (λ e. starts_with nat_eq text e.0) table
passes_row text entry table fails = ap (λ t. cond t (Some entry) (find (λ e. starts_with nat_eq text e.0) table)) fails

and_false : (s t : Bool) → t ≡ false → (s && t) ≡ false
and_false true t is = is
and_false false t is = refl

-- a sign of two bytes isn't found where the first goes on with no equals sign
fails_two : (x b : ℕ) (bs : List ℕ) → doubles x ≡ true → sign_length b bs ≡ 0 →
    starts_with nat_eq (b ∷ bs) (x ∷ 61 ∷ []) ≡ false
fails_two x b [] doubled none = and_false (nat_eq x b) false refl
fails_two x b (c ∷ cs) doubled none = by_first (nat_eq x b) refl
  where
    by_next : (t : Bool) → nat_eq c 61 ≡ t → ◌≡◌ {A = ℕ} (cond t 1 0) 0 → t ≡ false
    by_next true is none = absurd (cc none)
    by_next false is none = refl

    by_first : (t : Bool) → nat_eq x b ≡ t → (t && (nat_eq 61 c && true)) ≡ false
    by_first false is = refl
    by_first true is =
        let doubles_b : doubles b ≡ true = subst (λ n. doubles n ≡ true) (eqb-true x b is) doubled in
        let apart : nat_eq c 61 ≡ false =
        by_next (nat_eq c 61) refl (sym (ap (λ t. cond (t && nat_eq c 61) 1 0) doubles_b) ∙ none) in
        ap (λ t. t && true) (ne_eqb 61 c (λ same. eqb-false c 61 apart (sym same)))

-- the signs of one byte
unfoldable short_signs : List Spelled
unfolding symbols
short_signs = drop 4 symbols

-- where a sign has one byte, it is one of these
short_sign : (b : ℕ) (bs : List ℕ) → sign_length b bs ≡ 0 →
    symbol_at (b ∷ bs) ≡ find (λ e. starts_with nat_eq (b ∷ bs) e.0) short_signs
unfolding symbol_at symbols short_signs
short_sign b bs none =
    let text = b ∷ bs in
    passes_row text (codes "==", sign.Equal) (drop 1 symbols) (fails_two 61 b bs refl none)
    ∙ (passes_row text (codes "!=", sign.NotEqual) (drop 2 symbols) (fails_two 33 b bs refl none)
    ∙ (passes_row text (codes "<=", sign.LessEqual) (drop 3 symbols) (fails_two 60 b bs refl none)
    ∙ passes_row text (codes ">=", sign.GreaterEqual) (drop 4 symbols) (fails_two 62 b bs refl none)))

-- which is found by its first byte alone
by_first_byte : (b : ℕ) (bs : List ℕ) →
    find (λ e. starts_with nat_eq (b ∷ bs) e.0) short_signs ≡ find (λ e. starts_with nat_eq (b ∷ []) e.0) short_signs
unfolding symbols short_signs
by_first_byte b bs = refl

-- an entry of one byte is a token of one byte
found_short : (test : Spelled → Bool) (table : List Spelled) → list_all (λ e. nat_eq (length e.0) 1) table ≡ true →
    IsOwn (λ number. number ≡ false) (option_map_or sign_of (find test table) bad) 0
found_short test [] all = tt
found_short test (e ∷ es) all =
    by_tests (test e) (nat_eq (length e.0) 1) refl all (found_short test es)
  where
    by_tests : (t s : Bool) → nat_eq (length e.0) 1 ≡ s → (s && list_all (λ e. nat_eq (length e.0) 1) es) ≡ true →
        (list_all (λ e. nat_eq (length e.0) 1) es ≡ true →
        IsOwn (λ number. number ≡ false) (option_map_or sign_of (find test es) bad) 0) →
        IsOwn (λ number. number ≡ false) (option_map_or sign_of (cond t (Some e) (find test es)) bad) 0
    by_tests t false s_is all later = absurd (true≢false (sym all))
    by_tests false true s_is all later = later all
    by_tests true true s_is all later =
        let long : length e.0 ≡ 1 = eqb-true (length e.0) 1 s_is in (omega (arith, long), refl)

all_short : list_all (λ (e : Spelled). nat_eq (length e.0) 1) short_signs ≡ true
unfolding symbols short_signs
all_short = refl

-- a sign is found again without what is after it
abbrev Signs : ℕ → List ℕ → ℕ → Type 0
Signs b bs m =
    (symbol_piece (b ∷ take m bs) ≡ symbol_piece (b ∷ bs)) × (length (take m bs) ≡ m)
    × IsOwn (λ number. number ≡ false) (symbol_piece (b ∷ bs)) m

short : (b : ℕ) (bs : List ℕ) → sign_length b bs ≡ 0 → Signs b bs 0
short b bs none =
    let here : symbol_at (b ∷ bs) ≡ find (λ e. starts_with nat_eq (b ∷ []) e.0) short_signs =
    short_sign b bs none ∙ by_first_byte b bs in
    let alone : symbol_at (b ∷ []) ≡ find (λ e. starts_with nat_eq (b ∷ []) e.0) short_signs = short_sign b [] refl in (
      ap (λ o. option_map_or sign_of o bad) (alone ∙ sym here),
      refl,
      subst (λ o. IsOwn (λ number. number ≡ false) (option_map_or sign_of o bad) 0) (sym here)
          (found_short (λ e. starts_with nat_eq (b ∷ []) e.0) short_signs all_short),
    )

-- the four signs of two bytes
doubled : (b : ℕ) (cs : List ℕ) → doubles b ≡ true → Signs b (61 ∷ cs) 1
unfolding symbol_at symbols
doubled b cs is =
    by_tests (nat_eq b 61) (nat_eq b 33) (nat_eq b 60) (nat_eq b 62) refl refl refl refl is
  where
    by_tests : (p q r s : Bool) → nat_eq b 61 ≡ p → nat_eq b 33 ≡ q → nat_eq b 60 ≡ r → nat_eq b 62 ≡ s →
        (p || (q || (r || s))) ≡ true →
        Signs b (61 ∷ cs) 1
    by_tests true q r s p_is q_is r_is s_is is = subst (λ b. Signs b (61 ∷ cs) 1) (sym (eqb-true b 61 p_is))
        (refl, refl, (refl, refl))
    by_tests false true r s p_is q_is r_is s_is is = subst (λ b. Signs b (61 ∷ cs) 1) (sym (eqb-true b 33 q_is))
        (refl, refl, (refl, refl))
    by_tests false false true s p_is q_is r_is s_is is = subst (λ b. Signs b (61 ∷ cs) 1) (sym (eqb-true b 60 r_is))
        (refl, refl, (refl, refl))
    by_tests false false false true p_is q_is r_is s_is is = subst (λ b. Signs b (61 ∷ cs) 1) (sym (eqb-true b 62 s_is))
        (refl, refl, (refl, refl))
    by_tests false false false false p_is q_is r_is s_is is = absurd (true≢false (sym is))

signs : (b : ℕ) (bs : List ℕ) → Signs b bs (sign_length b bs)
signs b [] = short b [] refl
signs b (c ∷ cs) = by_tests (doubles b) (nat_eq c 61) refl refl
  where
    by_tests : (d e : Bool) → doubles b ≡ d → nat_eq c 61 ≡ e → Signs b (c ∷ cs) (cond (d && e) 1 0)
    by_tests true true d_is e_is = subst (λ c. Signs b (c ∷ cs) 1) (sym (eqb-true c 61 e_is)) (doubled b cs d_is)
    by_tests true false d_is e_is = short b (c ∷ cs) (ap (λ t. cond t 1 0) (ap (λ d. d && nat_eq c 61) d_is ∙ e_is))
    by_tests false e d_is e_is = short b (c ∷ cs) (ap (λ d. cond (d && nat_eq c 61) 1 0) d_is)

-- one turn of both
module _ (number : Bool) (b : ℕ) (bs : List ℕ) (at : At) (feeds : ℕ)
    (later : (number : Bool) (inside feeds : ℕ) → Calm number inside bs →
    good_tokens (cut_from number inside bs (place_after b at)) ≡ tokens_in (pieces_from feeds inside bs)) where
  abbrev rest : Bool → ℕ → Tokens
  rest = λ number n. cut_from number n bs (place_after b at)

  -- a word, a number or a sign that the language finds as it is found here
  same_turn : (calm : Bool → Type 0) (p : Cut) (m : ℕ) → nat_eq b 35 ≡ false → piece number b bs ≡ p →
      piece false b (take m bs) ≡ p →
      length (take m bs) ≡ m → IsOwn calm p m → ((number : Bool) → calm number → Calm number m bs) →
      good_tokens (with_piece (piece number b bs) at rest) ≡ with_mark (b ∷ take m bs) (tokens_in (pieces_from 0 m bs))
  same_turn calm p m no_comment here alone long own calms =
      ap (λ p. good_tokens (with_piece p at rest)) here
      ∙ (taken calm p m at rest (tokens_in (pieces_from 0 m bs)) own (λ number is. later number m 0 (calms number is))
      ∙ (ap (λ p. with_token (whole_token p m) (tokens_in (pieces_from 0 m bs))) (sym alone)
      ∙ (ap (λ n. with_token (whole_token (piece false b (take m bs)) n) (tokens_in (pieces_from 0 m bs))) (sym long)
      ∙ sym (ap (λ t. cond t (tokens_in (pieces_from 0 m bs))
      (with_token (token_of b (take m bs)) (tokens_in (pieces_from 0 m bs)))) no_comment))))

  after_as : (r w : Bool) → nat_eq b 35 ≡ r → is_word_byte b ≡ w →
      length_after b bs ≡ cond r (comment_length bs) (cond w (prefix_len is_word_byte bs) (sign_length b bs))
  after_as r w r_is w_is =
      ap (λ t. cond t (comment_length bs) (cond (is_word_byte b) (prefix_len is_word_byte bs) (sign_length b bs))) r_is
      ∙ ap (λ t. cond r (comment_length bs) (cond t (prefix_len is_word_byte bs) (sign_length b bs))) w_is

  front_as : (e t r w : Bool) → nat_eq b 10 ≡ e → is_blank b ≡ t → nat_eq b 35 ≡ r → is_word_byte b ≡ w →
      tokens_in (pieces_from feeds zero (b ∷ bs))
      ≡ tokens_in (with_front
      (cond e feed (cond t blank
      (whole (cond r (comment_length bs) (cond w (prefix_len is_word_byte bs) (sign_length b bs))))))
      feeds b bs (λ feeds inside. pieces_from feeds inside bs))
  front_as e t r w e_is t_is r_is w_is =
      ap (λ f. tokens_in (with_front f feeds b bs (λ feeds inside. pieces_from feeds inside bs)))
      (ap (λ e. cond e feed (cond (is_blank b) blank (whole (length_after b bs)))) e_is
      ∙ (ap (λ t. cond e feed (cond t blank (whole (length_after b bs)))) t_is
      ∙ ap (λ n. cond e feed (cond t blank (whole n))) (after_as r w r_is w_is)))

  not_after : (number : Bool) → Calm number zero (b ∷ bs) → is_ascii_alphabetic b ≡ true →
      cond number bad (word_piece b bs) ≡ word_piece b bs
  not_after true calm letter = absurd (true≢false (sym letter ∙ calm))
  not_after false calm letter = refl

  abbrev word_of : ℕ → List ℕ → Cut
  word_of = λ n ys. cond (nat_le n 31) (one (word_token (b ∷ ys)) n) bad

  abbrev number_from : ℕ → List ℕ → Cut
  number_from = λ n ys.
      cond (nat_eq b 48 && nat_lt 0 n) bad
      (cond (nat_le (number_of (b ∷ ys)) 4294967295) (one (token.Number (number_of (b ∷ ys))) n) bad)

  word_turn : (d : Bool) → is_blank b ≡ false → nat_eq b 35 ≡ false → is_ascii_alphabetic b ≡ true →
      is_ascii_digit b ≡ d →
      Calm number zero (b ∷ bs) →
      good_tokens (with_piece (piece number b bs) at rest)
      ≡ with_mark (b ∷ take (prefix_len is_word_byte bs) bs) (tokens_in (pieces_from 0 (prefix_len is_word_byte bs) bs))
  word_turn d t_is r_is a_is d_is calm =
      let m = prefix_len is_word_byte bs in
      let again = fronts is_word_byte is_word_byte (λ c is. is) bs in
      same_turn (λ number. Calm number m bs) (word_piece b bs) m r_is
      (piece_as false false true d number b bs t_is r_is a_is d_is ∙ not_after number calm a_is)
      (piece_as false false true d false b (take m bs) t_is r_is a_is d_is
      ∙ (ap (λ k. word_of k (take k (take m bs))) again.0 ∙ ap (word_of m) again.1))
      (length-prefix_len is_word_byte bs) (own (nat_le m 31)) (λ number is. is)
    where
      own : (t : Bool) →
          IsOwn (λ number. Calm number (prefix_len is_word_byte bs) bs)
          (cond t (one (word_token (b ∷ take (prefix_len is_word_byte bs) bs)) (prefix_len is_word_byte bs)) bad)
          (prefix_len is_word_byte bs)
      own true = (refl, calm_after bs (is_numeral (word_token (b ∷ take (prefix_len is_word_byte bs) bs))))
      own false = tt

  number_turn : is_blank b ≡ false → nat_eq b 35 ≡ false → is_ascii_alphabetic b ≡ false → is_ascii_digit b ≡ true →
      good_tokens (with_piece (piece number b bs) at rest)
      ≡ with_mark (b ∷ take (prefix_len is_word_byte bs) bs) (tokens_in (pieces_from 0 (prefix_len is_word_byte bs) bs))
  number_turn t_is r_is a_is d_is =
      let m = prefix_len is_word_byte bs in
      let n = prefix_len is_ascii_digit bs in
      let again = fronts is_word_byte is_ascii_digit digit_word bs in
      let here : piece number b bs ≡ number_piece b bs = piece_as false false false true number b bs t_is r_is a_is d_is
      in
      let alone : piece false b (take m bs) ≡ number_piece b bs =
      piece_as false false false true false b (take m bs) t_is r_is a_is d_is
      ∙ (ap (λ k. number_from k (take k (take m bs))) again.0 ∙ ap (number_from n) again.1) in
      by_length (nat_eq n m) refl here alone
    where
      own : (z y : Bool) (v : ℕ) → prefix_len is_ascii_digit bs ≡ prefix_len is_word_byte bs →
          IsOwn (λ number. Calm number (prefix_len is_word_byte bs) bs)
          (cond z bad (cond y (one (token.Number v) (prefix_len is_ascii_digit bs)) bad))
          (prefix_len is_word_byte bs)
      own true y v same = tt
      own false true v same = (same, calm_after bs true)
      own false false v same = tt

      none_left : (z y : Bool) (v : ℕ) (later : Option (List Token)) →
          nat_eq (prefix_len is_ascii_digit bs) (prefix_len is_word_byte bs) ≡ false →
          good_tokens (with_piece (cond z bad (cond y (one (token.Number v) (prefix_len is_ascii_digit bs)) bad)) at
          rest)
          ≡ with_token (whole_token (cond z bad (cond y (one (token.Number v) (prefix_len is_ascii_digit bs)) bad))
          (prefix_len is_word_byte bs)) later
      none_left true y v later less = refl
      none_left false false v later less = refl
      none_left false true v later less =
          good_more (record { token = token.Number v; at = at }) (rest true (prefix_len is_ascii_digit bs))
          ∙ (ap (with_token (Some (token.Number v))) (lost bs (place_after b at) less)
          ∙ sym (ap (λ t. with_token (cond t (Some (token.Number v)) None) later) less))

      by_length : (s : Bool) → nat_eq (prefix_len is_ascii_digit bs) (prefix_len is_word_byte bs) ≡ s →
          piece number b bs ≡ number_piece b bs →
          piece false b (take (prefix_len is_word_byte bs) bs) ≡ number_piece b bs →
          good_tokens (with_piece (piece number b bs) at rest)
          ≡ with_mark (b ∷ take (prefix_len is_word_byte bs) bs)
          (tokens_in (pieces_from 0 (prefix_len is_word_byte bs) bs))
      by_length true s_is here alone =
          same_turn (λ number. Calm number (prefix_len is_word_byte bs) bs) (number_piece b bs)
          (prefix_len is_word_byte bs) r_is here alone
          (length-prefix_len is_word_byte bs)
          (own (nat_eq b 48 && nat_lt 0 (prefix_len is_ascii_digit bs))
          (nat_le (number_of (b ∷ take (prefix_len is_ascii_digit bs) bs)) 4294967295)
          (number_of (b ∷ take (prefix_len is_ascii_digit bs) bs))
          (eqb-true (prefix_len is_ascii_digit bs) (prefix_len is_word_byte bs) s_is))
          (λ number is. is)
      by_length false s_is here alone =
          ap (λ p. good_tokens (with_piece p at rest)) here
          ∙ (none_left (nat_eq b 48 && nat_lt 0 (prefix_len is_ascii_digit bs))
          (nat_le (number_of (b ∷ take (prefix_len is_ascii_digit bs) bs)) 4294967295)
          (number_of (b ∷ take (prefix_len is_ascii_digit bs) bs))
          (tokens_in (pieces_from 0 (prefix_len is_word_byte bs) bs)) s_is
          ∙ (ap (λ p. with_token (whole_token p (prefix_len is_word_byte bs))
          (tokens_in (pieces_from 0 (prefix_len is_word_byte bs) bs))) (sym alone)
          ∙ (ap (λ n. with_token (whole_token (piece false b (take (prefix_len is_word_byte bs) bs)) n)
          (tokens_in (pieces_from 0 (prefix_len is_word_byte bs) bs)))
          (sym (length-prefix_len is_word_byte bs))
          ∙ sym (ap (λ t. cond t (tokens_in (pieces_from 0 (prefix_len is_word_byte bs) bs))
          (with_token (token_of b (take (prefix_len is_word_byte bs) bs))
          (tokens_in (pieces_from 0 (prefix_len is_word_byte bs) bs)))) r_is))))

  underscore_turn : nat_eq b 35 ≡ false → nat_eq b 95 ≡ true →
      good_tokens (with_piece (piece number b bs) at rest)
      ≡ with_mark (b ∷ take (prefix_len is_word_byte bs) bs) (tokens_in (pieces_from 0 (prefix_len is_word_byte bs) bs))
  underscore_turn r_is is =
      let same : b ≡ 95 = eqb-true b 95 is in
      let m = prefix_len is_word_byte bs in
      same_turn (λ number. Calm number m bs) bad m r_is (ap (λ c. piece number c bs) same ∙ underscore number bs)
      (ap (λ c. piece false c (take m bs)) same ∙ underscore false (take m bs)) (length-prefix_len is_word_byte bs) tt
      (λ number is. is)

  calm_for : (m : ℕ) (number : Bool) → number ≡ false → Calm number m bs
  calm_for m true is = absurd (true≢false is)
  calm_for m false is = tt

  sign_turn : is_blank b ≡ false → nat_eq b 35 ≡ false → is_ascii_alphabetic b ≡ false → is_ascii_digit b ≡ false →
      good_tokens (with_piece (piece number b bs) at rest)
      ≡ with_mark (b ∷ take (sign_length b bs) bs) (tokens_in (pieces_from 0 (sign_length b bs) bs))
  sign_turn t_is r_is a_is d_is =
      let m = sign_length b bs in
      let h = signs b bs in
      same_turn (λ number. number ≡ false) (symbol_piece (b ∷ bs)) m r_is
      (piece_as false false false false number b bs t_is r_is a_is d_is)
      (piece_as false false false false false b (take m bs) t_is r_is a_is d_is ∙ h.0) h.1 h.2 (calm_for m)

  comment_turn : is_blank b ≡ false → nat_eq b 35 ≡ true →
      good_tokens (with_piece (piece number b bs) at rest)
      ≡ with_mark (b ∷ take (comment_length bs) bs) (tokens_in (pieces_from 0 (comment_length bs) bs))
  comment_turn t_is r_is =
      let n = prefix_len (λ c. not (nat_eq c 10)) bs in
      ap (λ p. good_tokens (with_piece p at rest))
      (piece_as false true (is_ascii_alphabetic b) (is_ascii_digit b) number b bs t_is r_is refl refl)
      ∙ (later false n 0 tt
      ∙ (ap tokens_in (sym (comment_same 0 bs))
      ∙ sym (ap (λ t. cond t (tokens_in (pieces_from 0 (comment_length bs) bs))
      (with_token (token_of b (take (comment_length bs) bs)) (tokens_in (pieces_from 0 (comment_length bs) bs))))
      r_is)))

  blank_turn : (n : ℕ) → is_blank b ≡ true → good_tokens (with_piece (piece number b bs) at rest) ≡ tokens_in
      (pieces_from n 0 bs)
  blank_turn n t_is =
      ap (λ p. good_tokens (with_piece p at rest))
      (piece_as true (nat_eq b 35) (is_ascii_alphabetic b) (is_ascii_digit b) number b bs t_is refl refl refl)
      ∙ later false 0 n tt

  turn : (e t r w a d : Bool) → nat_eq b 10 ≡ e → is_blank b ≡ t → nat_eq b 35 ≡ r → is_word_byte b ≡ w →
      is_ascii_alphabetic b ≡ a →
      is_ascii_digit b ≡ d → Calm number zero (b ∷ bs) →
      good_tokens (with_piece (piece number b bs) at rest) ≡ tokens_in (pieces_from feeds zero (b ∷ bs))
  turn true t r w a d e_is t_is r_is w_is a_is d_is calm =
      blank_turn (more_feeds feeds) (ap is_blank (eqb-true b 10 e_is)) ∙ sym (front_as true t r w e_is t_is r_is w_is)
  turn false true r w a d e_is t_is r_is w_is a_is d_is calm =
      blank_turn feeds t_is ∙ sym (front_as false true r w e_is t_is r_is w_is)
  turn false false true w a d e_is t_is r_is w_is a_is d_is calm =
      comment_turn t_is r_is ∙ sym (front_as false false true w e_is t_is r_is w_is)
  turn false false false true true d e_is t_is r_is w_is a_is d_is calm =
      word_turn d t_is r_is a_is d_is calm ∙ sym (front_as false false false true e_is t_is r_is w_is)
  turn false false false true false true e_is t_is r_is w_is a_is d_is calm =
      number_turn t_is r_is a_is d_is ∙ sym (front_as false false false true e_is t_is r_is w_is)
  turn false false false true false false e_is t_is r_is w_is a_is d_is calm =
      underscore_turn r_is (word_kind b w_is a_is d_is) ∙ sym (front_as false false false true e_is t_is r_is w_is)
  turn false false false false true d e_is t_is r_is w_is a_is d_is calm =
      absurd (true≢false (sym (letter_word b a_is) ∙ w_is))
  turn false false false false false true e_is t_is r_is w_is a_is d_is calm =
      absurd (true≢false (sym (digit_word b d_is) ∙ w_is))
  turn false false false false false false e_is t_is r_is w_is a_is d_is calm =
      sign_turn t_is r_is a_is d_is ∙ sym (front_as false false false false e_is t_is r_is w_is)

calm_tail : (number : Bool) (inside b : ℕ) (bs : List ℕ) → Calm number (suc inside) (b ∷ bs) → Calm number inside bs
calm_tail true inside b bs calm = calm
calm_tail false inside b bs calm = tt

-- what the language cuts a text into is what its marks spell
cuts : (number : Bool) (inside : ℕ) (text : List ℕ) (at : At) (feeds : ℕ) → Calm number inside text →
    good_tokens (cut_from number inside text at) ≡ tokens_in (pieces_from feeds inside text)
cuts number inside [] at feeds calm = refl
cuts number (suc inside) (b ∷ bs) at feeds calm =
    cuts number inside bs (place_after b at) feeds (calm_tail number inside b bs calm)
cuts number zero (b ∷ bs) at feeds calm =
    turn number b bs at feeds (λ number inside feeds calm. cuts number inside bs (place_after b at) feeds calm)
    (nat_eq b 10) (is_blank b)
    (nat_eq b 35) (is_word_byte b) (is_ascii_alphabetic b) (is_ascii_digit b) refl refl refl refl refl refl calm

tokens_are : (text : List ℕ) → good_tokens (text_tokens text) ≡ tokens_of (marks text)
tokens_are text = cuts false 0 text record { line = 1; col = 1 } 0 tt

pub keeps_tokens : (text : List ℕ) → good_tokens (text_tokens (formatted text)) ≡ good_tokens (text_tokens text)
keeps_tokens text = tokens_are (formatted text) ∙ (ap tokens_of (keeps_marks text) ∙ sym (tokens_are text))
