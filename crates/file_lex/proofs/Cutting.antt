-- Piece after piece, a text is cut.
use Rattle.std.proofs.Common.{eqb-true, true≢false, ◌≡◌, ℕ, nat_eq, cond, true, false, zero, suc, ◌+◌, ◌≤◌, Bool, List}
use Rattle.std.proofs.Common.{[], ◌∷◌, ◌++◌, length, take, drop, Option, Some, None, refl, sym, ap, ◌∙◌, subst, arith}
use Rattle.std.proofs.Common.{append_assoc, length-append, length-drop, length-take-le}
use Rattle.layer_words.specs.declared.places.At.{At}
use Rattle.layer_ast.specs.declared.tokens.Lexed.{Lexed}
use Rattle.std.specs.Prelude.{not, if◌then◌else◌}
use Rattle.std.specs.Char.{is_ascii_alphabetic, is_ascii_digit}
use Rattle.std.specs.List.{prefix_len}
use Rattle.std.specs.Option.{option_map_or}
use Rattle.layer_words.specs.declared.events.Kind.{Kind}
use Rattle.layer_words.specs.declared.signs.Sign.{Sign}
use Rattle.layer_ast.specs.declared.tokens.Token.TheVariants as token
use Rattle.layer_ast.specs.Cut.{is_numeral, Piece, gap, one, bad, Tokens, piece, word_piece, number_piece, symbol_piece}
use Rattle.layer_ast.specs.Cut.{with_piece, cut_from, place_after}
use Rattle.layer_words.specs.Spelling.{is_blank, beside, reserved, kinds}
use Rattle.layer_ast.specs.Cut.{word_token}
use Rattle.file_lex.specs.Pieces.{GoesOn, with_front, more_of, is_number, is_flat, past}
use Rattle.file_lex.proofs.Flat.{past_flat}

-- what the loop keeps: the whole is the tokens so far and then those of what is left, the place has not run ahead, and
-- no token was added without a byte
pub record Cutting (whole : Tokens) (most size : ℕ) (rest : List ℕ) (after_number : Bool) (at : At)
    (front : List Lexed) : Type 0
  where
    pub same : with_front front (cut_from after_number 0 rest at) ≡ whole
    pub line : at.line + length rest ≤ most
    pub col : at.col + length rest ≤ most
    pub fewer : length rest + length front ≤ size

-- the bytes of a piece are passed over
passed : (number : Bool) (n : ℕ) (bytes : List ℕ) (at : At) → n ≤ length bytes →
    cut_from number n bytes at ≡ cut_from number 0 (drop n bytes) (past (take n bytes) at)
passed number zero bytes at le = refl
passed number (suc n) [] at le = absurd (omega arith)
passed number (suc n) (b ∷ bytes) at le = passed number n bytes (place_after b at) (omega arith)

-- a piece that is taken stands before the tokens after it
taken : (p : Piece) (at : At) (old new : List Lexed) (n : ℕ) (rest : Bool → ℕ → Tokens) → GoesOn p at old new (Some n) →
    with_front old (with_piece p at rest) ≡ with_front new (rest (is_number p) n)
taken (gap following) at old new n rest h = let e : n ≡ following = cc in rw (h.0, e) refl
taken (one token following) at old new n rest h = let e : n ≡ following = cc in rw (h.0, e, append_assoc) refl
taken bad at old new n rest h = cc

-- a byte moves the place by at most one line and one column
place_line : (b : ℕ) (at : At) → (place_after b at).line ≤ at.line + 1
place_line b at =
    elim (nat_eq b 10) as
    (λ t. (cond t (record { line = at.line + 1; col = 1 }) (record at { col = at.col + 1 })).line ≤ at.line + 1)
    [ true ↦ omega arith | false ↦ omega arith ]

place_col : (b : ℕ) (at : At) → (place_after b at).col ≤ at.col + 1
place_col b at =
    elim (nat_eq b 10) as
    (λ t. (cond t (record { line = at.line + 1; col = 1 }) (record at { col = at.col + 1 })).col ≤ at.col + 1)
    [ true ↦ omega arith | false ↦ omega arith ]

-- bytes move it by at most as many
past_line : (bytes : List ℕ) (at : At) → (past bytes at).line ≤ at.line + length bytes
past_line [] at = omega arith
past_line (b ∷ bytes) at = omega (arith, past_line bytes (place_after b at), place_line b at)

past_col : (bytes : List ℕ) (at : At) → (past bytes at).col ≤ at.col + length bytes
past_col [] at = omega arith
past_col (b ∷ bytes) at = omega (arith, past_col bytes (place_after b at), place_col b at)

-- a piece adds at most one token
one_more : (p : Piece) (at : At) (old new : List Lexed) (more : Option ℕ) → GoesOn p at old new more →
    length new ≤ suc (length old)
one_more (gap following) at old new more h = let same : length new ≡ length old = ap length h.0 in omega (arith, same)
one_more (one token following) at old new more h =
    let same : length new ≡ length (old ++ record { token = token; at = at } ∷ []) = ap length h.0 in
    omega (arith, same, length-append old (record { token = token; at = at } ∷ []))
one_more bad at old new more h = let same : length new ≡ length old = ap length h.0 in omega (arith, same)

module _ (whole : Tokens) (most size : ℕ) (first : ℕ) (following : List ℕ) (after_number : Bool) (at : At)
    (old new : List Lexed) (p : Piece)
    (is : p ≡ piece after_number first following) (c : Cutting whole most size (first ∷ following) after_number at old)
  where
    -- a piece that is taken goes on
    pub goes_on : (n : ℕ) → n ≤ length following → GoesOn p at old new (Some n) →
        Cutting whole most size (drop n following) (is_number p) (past (take n following) (place_after first at)) new
    goes_on n le h =
        let next = place_after first at in
        let bytes = take n following in
        let rest : Bool → ℕ → Tokens = λ number more. cut_from number more following next in
        record {
          same =
              ap (with_front new) (sym (passed (is_number p) n following next le))
              ∙ (sym (taken p at old new n rest h) ∙ (ap (λ q. with_front old (with_piece q at rest)) is ∙ c.same));
          line = omega (
            arith,
            c.line,
            past_line bytes next,
            place_line first at,
            length-take-le n following le,
            length-drop n following,
          );
          col = omega (
            arith,
            c.col,
            past_col bytes next,
            place_col first at,
            length-take-le n following le,
            length-drop n following,
          );
          fewer = omega (arith, c.fewer, length-drop n following, one_more p at old new (Some n) h);
        }

-- a piece that is taken has its own length
more_is : (p : Piece) (at : At) (old new : List Lexed) (n : ℕ) → GoesOn p at old new (Some n) → n ≡ more_of p
more_is (gap following) at old new n h = cc
more_is (one token following) at old new n h = cc
more_is bad at old new n h = cc

-- the token of a word is no number
pub no_numeral : (word : List ℕ) → false ≡ is_numeral (word_token word)
unfolding word_token
no_numeral word = by_tables (beside reserved word) (beside kinds word)
  where
    by_tables : (sign : Option Sign) (kind : Option Kind) →
        false ≡ is_numeral (option_map_or token.Sign sign (option_map_or token.Kind kind (token.Name word)))
    by_tables None None = refl
    by_tables None (Some kind) = refl
    by_tables (Some sign) kind = refl

-- a blank is a gap of one byte
blank_is : (number : Bool) (b : ℕ) (bs : List ℕ) → is_blank b ≡ true → gap 0 ≡ piece number b bs
unfolding piece
blank_is number b bs is =
    ap (λ t. if t then gap 0
    else if nat_eq b 35 then gap (prefix_len (λ c. not (nat_eq c 10)) bs)
    else if is_ascii_alphabetic b then (if number then bad else word_piece b bs)
    else if is_ascii_digit b then number_piece b bs
    else symbol_piece (b ∷ bs)) (sym is)

-- a turn of the loop at a blank
pub past_blank : (whole : Tokens) (most size : ℕ) (rest : List ℕ) (first : ℕ) (following : List ℕ) (after_number : Bool)
    (at next : At) (old : List Lexed) →
    Cutting whole most size rest after_number at old → rest ≡ first ∷ following → is_blank first ≡ true →
    next ≡ place_after first at →
    Cutting whole most size following false next old
past_blank whole most size rest first following after_number at next old c split blank next_is =
    let c' : Cutting whole most size (first ∷ following) after_number at old = rw split at c in
    rw next_is (
    goes_on whole most size first following after_number at old old (gap 0)
    (blank_is after_number first following blank) c'
    0 (omega arith) (refl, refl)
    )

-- a turn of the loop at another piece, which stands in one line
pub turn : (whole : Tokens) (most size : ℕ) (rest : List ℕ) (first : ℕ) (following after : List ℕ)
    (after_number number : Bool) (at next past_it : At)
    (old new : List Lexed) (p : Piece) (more : Option ℕ) (n : ℕ) →
    Cutting whole most size rest after_number at old → rest ≡ first ∷ following →
    p ≡ piece after_number first following →
    more_of p ≤ length following → is_flat (take (more_of p) following) ≡ true → number ≡ is_number p →
    GoesOn p at old new more →
    more ≡ Some n → next ≡ place_after first at → past_it ≡ record next { col = next.col + n } →
    after ≡ drop n following →
    Cutting whole most size after number past_it new
turn whole most size rest first following after after_number number at next past_it old new p more n c split is within
    flat number_is goes
    some next_is past_is after_is =
    let c' : Cutting whole most size (first ∷ following) after_number at old = rw split at c in
    let h : GoesOn p at old new (Some n) = rw some at goes in
    let own : n ≡ more_of p = more_is p at old new n h in
    let le : n ≤ length following = subst (λ m. m ≤ length following) (sym own) within in
    let straight : past (take n following) next ≡ past_it =
    past_flat (take n following) next (subst (λ m. is_flat (take m following) ≡ true) (sym own) flat)
    ∙ (ap (λ m. record next { col = next.col + m }) (length-take-le n following le) ∙ sym past_is) in
    rw (after_is, number_is, sym straight, next_is) (
    goes_on whole most size first following after_number at old new p is c' n le h
    )

-- after a byte that is no blank the column is the next one
pub next_column : (b : ℕ) (at : At) → is_blank b ≡ false → record at { col = at.col + 1 } ≡ place_after b at
next_column b at no_blank = no_feed (nat_eq b 10) refl
  where
    no_feed : (t : Bool) → nat_eq b 10 ≡ t → record at { col = at.col + 1 } ≡
        cond t (record { line = at.line + 1; col = 1 }) (record at { col = at.col + 1 })
    no_feed false is = refl
    no_feed true is = let feed : b ≡ 10 = eqb-true b 10 is in let blank : is_blank b ≡ true = ap is_blank feed in
        absurd (true≢false (sym blank ∙ no_blank))
