-- What stands at the front of a text is found whole, whatever is after it that doesn't go on with it.
use Rattle.std.proofs.Common.{◌≡◌, ℕ, zero, suc, ◌+◌, ◌≤◌, Bool, true, false, not, ◌&&◌, cond, nat_eq, List, [], ◌∷◌}
use Rattle.std.proofs.Common.{◌++◌, length, take, replicate, refl, sym, ap, subst, ◌∙◌, arith}
use Rattle.std.proofs.Math.Seq.{take-append_seam}
use Rattle.std.specs.List.{AllByRecursion, prefix_len}
use Rattle.layer_words.specs.Spelling.{is_blank, is_word_byte}
use Rattle.format_mean.specs.Pieces.{Piece, feed, blank, whole, one_more, comment_length, doubles, sign_length}
use Rattle.format_mean.specs.Pieces.{length_after, front, more_feeds, with_front, pieces_from}

-- whether what is after a token or comment that begins with this byte doesn't go on with it
abbrev pub stops_by : (remark word : Bool) → ℕ → List ℕ → Bool
stops_by remark word b [] = true
stops_by remark word b (c ∷ cs) =
    cond remark (nat_eq c 10) (cond word (not (is_word_byte c)) (not (doubles b && nat_eq c 61)))

abbrev pub stops : ℕ → List ℕ → Bool
stops b rest = stops_by (nat_eq b 35) (is_word_byte b) b rest

abbrev after_by : (remark word : Bool) → ℕ → List ℕ → ℕ
after_by remark word b bs = cond remark (comment_length bs) (cond word (prefix_len is_word_byte bs) (sign_length b bs))

-- bytes that are found whole as one piece
abbrev pub IsMark : List ℕ → Type 0
IsMark [] = ⊥
IsMark (b ∷ bs) =
    (nat_eq b 10 ≡ false) × (is_blank b ≡ false)
    × ((rest : List ℕ) → stops b rest ≡ true → length_after b (bs ++ rest) ≡ length bs)

abbrev pub IsPiece : Piece → Type 0
IsPiece p = (p.feeds ≤ 2) × IsMark p.spelling

-- a length of some front bytes is found again
abbrev Again : (List ℕ → ℕ) → List ℕ → List ℕ → ℕ → Type 0
Again count bs rest n = (count (take n bs ++ rest) ≡ n) × (length (take n bs) ≡ n)

comment_none : (w : Bool) (b : ℕ) (rest : List ℕ) → stops_by true w b rest ≡ true → comment_length rest ≡ 0
comment_none w b [] stop = refl
comment_none w b (c ∷ cs) stop = ap (λ t. cond t 0 (one_more (is_blank c) (comment_length cs))) stop

counted : (t : Bool) (n c : ℕ) (xs : List ℕ) → nat_eq c 10 ≡ false → is_blank c ≡ t → comment_length xs ≡ n →
    comment_length (c ∷ xs) ≡ one_more t n
counted t n c xs is_feed is h =
    ap (λ e. cond e 0 (one_more (is_blank c) (comment_length xs))) is_feed
    ∙ (ap (λ u. one_more u (comment_length xs)) is ∙ ap (one_more t) h)

comment_again : (rest : List ℕ) → comment_length rest ≡ 0 → (bs : List ℕ) →
    Again comment_length bs rest (comment_length bs)
comment_again rest none [] = (none, refl)
comment_again rest none (c ∷ cs) =
    let ih = comment_again rest none cs in
    by_byte (nat_eq c 10) (is_blank c) (comment_length cs) refl refl ih.0 ih.1
  where
    by_byte : (e t : Bool) (n : ℕ) → nat_eq c 10 ≡ e → is_blank c ≡ t → comment_length (take n cs ++ rest) ≡ n →
        length (take n cs) ≡ n → Again comment_length (c ∷ cs) rest (cond e 0 (one_more t n))
    by_byte true t n is_feed is h l = (none, refl)
    by_byte false true zero is_feed is h l = (none, refl)
    by_byte false true (suc n) is_feed is h l =
        (counted true (suc n) c (take (suc n) cs ++ rest) is_feed is h, ap suc l)
    by_byte false false n is_feed is h l = (counted false n c (take n cs ++ rest) is_feed is h, ap suc l)

word_none : (b : ℕ) (rest : List ℕ) → stops_by false true b rest ≡ true → prefix_len is_word_byte rest ≡ 0
word_none b [] stop = refl
word_none b (c ∷ cs) stop = by_byte (is_word_byte c) stop
  where
    by_byte : (t : Bool) → not t ≡ true → cond t (1 + prefix_len is_word_byte cs) 0 ≡ 0
    by_byte true is = cc
    by_byte false is = refl

word_again : (rest : List ℕ) → prefix_len is_word_byte rest ≡ 0 → (bs : List ℕ) →
    Again (prefix_len is_word_byte) bs rest (prefix_len is_word_byte bs)
word_again rest none [] = (none, refl)
word_again rest none (c ∷ cs) =
    let ih = word_again rest none cs in by_byte (is_word_byte c) (prefix_len is_word_byte cs) refl ih.0 ih.1
  where
    by_byte : (t : Bool) (n : ℕ) → is_word_byte c ≡ t → prefix_len is_word_byte (take n cs ++ rest) ≡ n →
        length (take n cs) ≡ n →
        Again (prefix_len is_word_byte) (c ∷ cs) rest (cond t (1 + n) 0)
    by_byte true n is h l =
        let e : 1 + n ≡ suc n = omega arith in
        subst (Again (prefix_len is_word_byte) (c ∷ cs) rest) (sym e) (rw (is, h) e, ap suc l)
    by_byte false n is h l = (none, refl)

sign_none : (b : ℕ) (rest : List ℕ) → stops_by false false b rest ≡ true → sign_length b rest ≡ 0
sign_none b [] stop = refl
sign_none b (c ∷ cs) stop = by_byte (doubles b && nat_eq c 61) stop
  where
    by_byte : (t : Bool) → not t ≡ true → ◌≡◌ {A = ℕ} (cond t 1 0) 0
    by_byte true is = cc
    by_byte false is = refl

sign_again : (b : ℕ) (rest : List ℕ) → sign_length b rest ≡ 0 → (bs : List ℕ) →
    Again (sign_length b) bs rest (sign_length b bs)
sign_again b rest none [] = (none, refl)
sign_again b rest none (c ∷ cs) = by_byte (doubles b && nat_eq c 61) refl
  where
    by_byte : (t : Bool) → (doubles b && nat_eq c 61) ≡ t → Again (sign_length b) (c ∷ cs) rest (cond t 1 0)
    by_byte true is = (ap (λ t. cond t 1 0) is, refl)
    by_byte false is = (none, refl)

by_kind : (remark word : Bool) (b : ℕ) (bs rest : List ℕ) → stops_by remark word b rest ≡ true →
    Again (after_by remark word b) bs rest (after_by remark word b bs)
by_kind true word b bs rest stop = comment_again rest (comment_none word b rest stop) bs
by_kind false true b bs rest stop = word_again rest (word_none b rest stop) bs
by_kind false false b bs rest stop = sign_again b rest (sign_none b rest stop) bs

-- what is found at the front of a text is found again
again : (b : ℕ) (bs rest : List ℕ) → stops b rest ≡ true →
    length_after b (take (length_after b bs) bs ++ rest) ≡ length (take (length_after b bs) bs)
again b bs rest stop =
    let h = by_kind (nat_eq b 35) (is_word_byte b) b bs rest stop in
    h.0 ∙ sym h.1

at_most_two : (n : ℕ) → more_feeds n ≤ 2
at_most_two zero = omega arith
at_most_two (suc n) = omega arith

-- each piece of a text is one
pub all_pieces : (feeds inside : ℕ) (text : List ℕ) → feeds ≤ 2 → AllByRecursion IsPiece (pieces_from feeds inside text)
all_pieces feeds inside [] few = tt
all_pieces feeds (suc inside) (b ∷ bs) few = all_pieces feeds inside bs few
all_pieces feeds zero (b ∷ bs) few =
    by_front (nat_eq b 10) (is_blank b) refl refl (λ f i le. all_pieces f i bs le)
  where
    by_front : (e t : Bool) → nat_eq b 10 ≡ e → is_blank b ≡ t →
        ((f i : ℕ) → f ≤ 2 → AllByRecursion IsPiece (pieces_from f i bs)) →
        AllByRecursion IsPiece
        (with_front (cond e feed (cond t blank (whole (length_after b bs)))) feeds b bs (λ f i. pieces_from f i bs))
    by_front true t is_feed is later = later (more_feeds feeds) 0 (at_most_two feeds)
    by_front false true is_feed is later = later feeds 0 few
    by_front false false is_feed is later =
        (((few, (is_feed, is, again b bs))), later 0 (length_after b bs) (omega arith))

-- bytes that belong to a piece before them are passed over
past : (feeds : ℕ) (bs rest : List ℕ) → pieces_from feeds (length bs) (bs ++ rest) ≡ pieces_from feeds 0 rest
past feeds [] rest = refl
past feeds (b ∷ bs) rest = past feeds bs rest

-- a piece at the front of a text
pub found : (k b : ℕ) (bs rest : List ℕ) → IsMark (b ∷ bs) → stops b rest ≡ true →
    pieces_from k 0 ((b ∷ bs) ++ rest) ≡ record { feeds = k; spelling = b ∷ bs } ∷ pieces_from 0 0 rest
found k b bs rest m stop =
    let here : front b (bs ++ rest) ≡ whole (length bs) =
    ap (λ e. cond e feed (cond (is_blank b) blank (whole (length_after b (bs ++ rest))))) m.0
    ∙ (ap (λ t. cond t blank (whole (length_after b (bs ++ rest)))) m.1 ∙ ap whole (m.2 rest stop)) in
    ap (λ f. with_front f k b (bs ++ rest) (λ feeds inside. pieces_from feeds inside (bs ++ rest))) here
    ∙ (ap (λ xs. record { feeds = k; spelling = b ∷ xs } ∷ pieces_from 0 (length bs) (bs ++ rest))
    (take-append_seam bs rest)
    ∙ ap (λ ps. record { feeds = k; spelling = b ∷ bs } ∷ ps) (past 0 bs rest))

-- blanks at the front of a text
pub past_blanks : (k n : ℕ) (rest : List ℕ) → pieces_from k 0 (replicate n 32 ++ rest) ≡ pieces_from k 0 rest
past_blanks k zero rest = refl
past_blanks k (suc n) rest = past_blanks k n rest

-- and line feeds, which are few
pub past_feeds : (n : ℕ) (rest : List ℕ) → n ≤ 2 → pieces_from 0 0 (replicate n 10 ++ rest) ≡ pieces_from n 0 rest
past_feeds zero rest few = refl
past_feeds (suc zero) rest few = refl
past_feeds (suc (suc zero)) rest few = refl
past_feeds (suc (suc (suc n))) rest few = absurd (omega (arith, few))
