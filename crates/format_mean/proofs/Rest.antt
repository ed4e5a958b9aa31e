-- What is laid out after a line that has begun is read as the pieces that it was laid out from.
use Rattle.std.proofs.Common.{◌≡◌, ℕ, zero, suc, ◌-◌, ◌≤◌, Bool, true, false, ◌||◌, cond, nat_eq, List, [], ◌∷◌, ◌++◌}
use Rattle.std.proofs.Common.{map, length, replicate, refl, sym, ap, ◌∙◌, arith, append_assoc, append-nil, true≢false}
use Rattle.std.specs.List.{AllByRecursion, concat}
use Rattle.format_mean.specs.declared.stand.Class.{Class}
use Rattle.format_mean.specs.declared.stand.Class.TheVariants as class
use Rattle.format_mean.specs.declared.stand.Stand.{Stand}
use Rattle.format_mean.specs.declared.stand.TheConstants.{COMMENT_COLUMN}
use Rattle.format_mean.specs.Classes.{class_of, are_joined, seen_after}
use Rattle.format_mean.specs.Pieces.{Piece, pieces_from, pieces}
use Rattle.format_mean.specs.Layout.{Begun, is_bare, is_remark, leads, begins_line, at_least_one, blanks_apart}
use Rattle.format_mean.specs.Layout.{blanks_before, feeds_before, line_at_feeds, left_of, put_after, lines_at}
use Rattle.format_mean.specs.Layout.{begun_at}
use Rattle.format_mean.specs.Layout.{last_line, lines_from, beginning}
use Rattle.format_mean.proofs.Whole.{stops, IsMark, IsPiece, found, past_blanks, past_feeds}
use Rattle.format_mean.proofs.Firsts.{no_remark, seen_remark, feed_stops, blank_stops, joined_stops}

-- the bytes after those of a line that has begun
abbrev pub rest_of : Begun → List Piece → List ℕ
rest_of t [] = 10 ∷ []
rest_of t (p ∷ ps) =
    replicate (feeds_before t p) 10
    ++ (replicate (blanks_before t.stand (left_of t.line (feeds_before t p)) (class_of p.spelling)) 32 ++
    (p.spelling ++ rest_of (begun_at t p) ps))

-- pieces with the line feeds that they are laid out with
abbrev pub settled : Begun → List Piece → List Piece
settled t [] = []
settled t (p ∷ ps) = record { feeds = feeds_before t p; spelling = p.spelling } ∷ settled (begun_at t p) ps

not_bare : (xs ys : List ℕ) → is_bare ys ≡ false → is_bare (xs ++ ys) ≡ false
not_bare [] ys has = has
not_bare (x ∷ xs) ys has = refl

mark_is : (spelling : List ℕ) → IsMark spelling → is_bare spelling ≡ false
mark_is [] m = absurd m
mark_is (b ∷ bs) m = refl

-- the lines are what the line has and what is after it
pub text_is : (t : Begun) (ps : List Piece) → is_bare t.line ≡ false → AllByRecursion IsPiece ps →
    concat (lines_from t ps) ≡ t.line ++ rest_of t ps
text_is t [] has all = last t.line has
  where
    last : (line : List ℕ) → is_bare line ≡ false → concat (last_line line) ≡ line ++ 10 ∷ []
    last [] has = absurd (true≢false has)
    last (b ∷ bs) has = append-nil (b ∷ bs ++ 10 ∷ [])
text_is t (p ∷ ps) has all =
    let next = begun_at t p in
    let begun : is_bare next.line ≡ false = not_bare _ p.spelling (mark_is p.spelling all.0.1) in
    by_feeds (feeds_before t p) (text_is next ps begun all.1)
  where
    by_feeds : (n : ℕ) →
        concat (lines_from (put_after t.stand (left_of t.line n) p.spelling) ps)
        ≡ (put_after t.stand (left_of t.line n) p.spelling).line ++
        rest_of (put_after t.stand (left_of t.line n) p.spelling) ps →
        concat (line_at_feeds t.line n ++ lines_from (put_after t.stand (left_of t.line n) p.spelling) ps)
        ≡ t.line ++ (replicate n 10 ++ (replicate (blanks_before t.stand (left_of t.line n) (class_of p.spelling)) 32
        ++ (p.spelling ++ rest_of (put_after t.stand (left_of t.line n) p.spelling) ps)))
    by_feeds zero ih =
        let blanks = replicate (blanks_before t.stand t.line (class_of p.spelling)) 32 in
        let rest = rest_of (put_after t.stand t.line p.spelling) ps in
        ih ∙ (append_assoc (t.line ++ blanks) p.spelling rest ∙ append_assoc t.line blanks (p.spelling ++ rest))
    by_feeds (suc n) ih =
        let blanks = replicate (blanks_before t.stand [] (class_of p.spelling)) 32 in
        let rest = rest_of (put_after t.stand [] p.spelling) ps in
        ap (λ text. (t.line ++ replicate (suc n) 10) ++ text) (ih ∙ append_assoc blanks p.spelling rest)
        ∙ append_assoc t.line (replicate (suc n) 10) (blanks ++ (p.spelling ++ rest))

no_feed : (n : ℕ) → 0 ≡ at_least_one n → ⊥
no_feed zero is = absurd (cc is)
no_feed (suc n) is = absurd (cc is)

-- where no line feed comes, the piece doesn't begin a line
goes_on : (t : Begun) (p : Piece) → is_bare t.line ≡ false → 0 ≡ feeds_before t p →
    begins_line t.stand (class_of p.spelling) ≡ false
goes_on t p has none = by_tests (is_bare t.line) (begins_line t.stand (class_of p.spelling)) has none
  where
    by_tests : (bare begins : Bool) → bare ≡ false → 0 ≡ cond bare 0 (cond begins (at_least_one p.feeds) p.feeds) →
        begins ≡ false
    by_tests true begins has none = absurd (true≢false has)
    by_tests false true has none = absurd (no_feed p.feeds none)
    by_tests false false has none = refl

no_first : (s t : Bool) → (s || t) ≡ false → s ≡ false
no_first true t is = is
no_first false t is = refl

-- where no blank comes, two tokens are joined
no_blank : (s : Stand) (column : ℕ) (c : Class) → 0 ≡ blanks_apart s column c → are_joined s.last c ≡ true
no_blank s column class.Remark none = absurd (no_feed (COMMENT_COLUMN - column) none)
no_blank s column c none = by_test (are_joined s.last c) none
  where
    by_test : (t : Bool) → ◌≡◌ {A = ℕ} 0 (cond t 0 1) → t ≡ true
    by_test true none = refl
    by_test false none = absurd (cc none)

-- what is after a token or comment doesn't go on with it
stops_here : (t : Begun) (ps : List Piece) (b : ℕ) (bs : List ℕ) (x : Class) →
    t.stand.last ≡ seen_after x (class_of (b ∷ bs)) →
    is_bare t.line ≡ false → AllByRecursion IsPiece ps → stops b (rest_of t ps) ≡ true
stops_here t [] b bs x last has all = feed_stops b []
stops_here t (p ∷ ps) b bs x last has all =
    by_feeds (feeds_before t p) (rest_of (begun_at t p) ps) refl
  where
    joined : (spelling rest : List ℕ) → IsMark spelling → nat_eq b 35 ≡ false →
        are_joined (seen_after x (class_of (b ∷ bs))) (class_of spelling) ≡ true → stops b (spelling ++ rest) ≡ true
    joined [] rest m none is = absurd m
    joined (d ∷ ds) rest m none is = joined_stops b bs d ds x rest none is

    by_blanks : (k : ℕ) (rest : List ℕ) → k ≡ blanks_before t.stand t.line (class_of p.spelling) → nat_eq b 35 ≡ false →
        stops b (replicate k 32 ++ (p.spelling ++ rest)) ≡ true
    by_blanks (suc k) rest is none = blank_stops b (replicate k 32 ++ (p.spelling ++ rest)) none
    by_blanks zero rest is none =
        let apart : 0 ≡ blanks_apart t.stand (length t.line) (class_of p.spelling) =
        is ∙ ap (λ bare. cond bare (blanks_before t.stand [] (class_of p.spelling))
        (blanks_apart t.stand (length t.line) (class_of p.spelling))) has in
        joined p.spelling rest all.0.1 none
        (ap (λ l. are_joined l (class_of p.spelling)) (sym last) ∙
        no_blank t.stand (length t.line) (class_of p.spelling) apart)

    by_feeds : (n : ℕ) (rest : List ℕ) → n ≡ feeds_before t p →
        stops b (replicate n 10 ++
        (replicate (blanks_before t.stand (left_of t.line n) (class_of p.spelling)) 32 ++ (p.spelling ++ rest))) ≡ true
    by_feeds (suc n) rest is =
        feed_stops b (replicate n 10 ++
        (replicate (blanks_before t.stand [] (class_of p.spelling)) 32 ++ (p.spelling ++ rest)))
    by_feeds zero rest is =
        let none : is_remark t.stand.last ≡ false =
        no_first (is_remark t.stand.last) (leads t.stand (class_of p.spelling)) (goes_on t p has is) in
        by_blanks (blanks_before t.stand t.line (class_of p.spelling)) rest refl
        (no_remark b bs (sym (ap is_remark last ∙ seen_remark x (class_of (b ∷ bs))) ∙ none))

few_feeds : (t : Begun) (p : Piece) → p.feeds ≤ 2 → feeds_before t p ≤ 2
few_feeds t p few = by_tests (is_bare t.line) (begins_line t.stand (class_of p.spelling)) p.feeds few
  where
    by_tests : (bare begins : Bool) (n : ℕ) → n ≤ 2 → cond bare 0 (cond begins (at_least_one n) n) ≤ 2
    by_tests true begins n few = omega arith
    by_tests false true zero few = omega arith
    by_tests false true (suc n) few = few
    by_tests false false n few = few

-- one piece is read
piece_read : (n k : ℕ) (spelling rest : List ℕ) (later : List Piece) → n ≤ 2 → IsMark spelling →
    ((b : ℕ) (bs : List ℕ) → spelling ≡ b ∷ bs → (stops b rest ≡ true) × (pieces_from 0 0 rest ≡ later)) →
    pieces_from 0 0 (replicate n 10 ++ (replicate k 32 ++ (spelling ++ rest))) ≡
    record { feeds = n; spelling = spelling } ∷ later
piece_read n k [] rest later few m following = absurd m
piece_read n k (b ∷ bs) rest later few m following =
    let h = following b bs refl in
    past_feeds n (replicate k 32 ++ ((b ∷ bs) ++ rest)) few
    ∙ (past_blanks n k ((b ∷ bs) ++ rest)
    ∙ (found n b bs rest m h.0 ∙ ap (λ ps. record { feeds = n; spelling = b ∷ bs } ∷ ps) h.1))

-- all that is after a line that has begun is read
reads : (t : Begun) (ps : List Piece) → is_bare t.line ≡ false → AllByRecursion IsPiece ps →
    pieces_from 0 0 (rest_of t ps) ≡ settled t ps
reads t [] has all = refl
reads t (p ∷ ps) has all =
    let next = begun_at t p in
    let begun : is_bare next.line ≡ false = not_bare _ p.spelling (mark_is p.spelling all.0.1) in
    piece_read (feeds_before t p) _ p.spelling (rest_of next ps) (settled next ps) (few_feeds t p all.0.0) all.0.1
    (λ b bs is. (
      stops_here next ps b bs t.stand.last (ap (λ w. seen_after t.stand.last (class_of w)) is) begun all.1,
      reads next ps begun all.1,
    ))

-- a file that is laid out is read as its settled pieces
pub read_back : (ps : List Piece) → AllByRecursion IsPiece ps → pieces (concat (lines_from beginning ps)) ≡
    settled beginning ps
read_back [] all = refl
read_back (p ∷ ps) all =
    let next = begun_at beginning p in
    let begun : is_bare next.line ≡ false = not_bare _ p.spelling (mark_is p.spelling all.0.1) in
    let k = blanks_before beginning.stand [] (class_of p.spelling) in
    ap pieces (text_is next ps begun all.1 ∙ append_assoc (replicate k 32) p.spelling (rest_of next ps))
    ∙ piece_read 0 k p.spelling (rest_of next ps) (settled next ps) (omega arith) all.0.1
    (λ b bs is. (
      stops_here next ps b bs beginning.stand.last
          (ap (λ w. seen_after beginning.stand.last (class_of w)) is) begun all.1,
      reads next ps begun all.1,
    ))

same_feeds : (bare begins : Bool) (n : ℕ) →
    cond bare 0 (cond begins (at_least_one (cond bare 0 (cond begins (at_least_one n) n)))
    (cond bare 0 (cond begins (at_least_one n) n)))
    ≡ cond bare 0 (cond begins (at_least_one n) n)
same_feeds true begins n = refl
same_feeds false true zero = refl
same_feeds false true (suc n) = refl
same_feeds false false n = refl

-- settled pieces are laid out as they were
pub laid_again : (t : Begun) (ps : List Piece) → lines_from t (settled t ps) ≡ lines_from t ps
laid_again t [] = refl
laid_again t (p ∷ ps) =
    let n = feeds_before t p in
    let again : feeds_before t (record { feeds = n; spelling = p.spelling }) ≡ n =
    same_feeds (is_bare t.line) (begins_line t.stand (class_of p.spelling)) p.feeds in
    ap (λ m. line_at_feeds t.line m ++ lines_from (put_after t.stand (left_of t.line m) p.spelling)
    (settled (begun_at t p) ps)) again
    ∙ ap (λ lines. lines_at t p ++ lines) (laid_again (begun_at t p) ps)

-- and have the same tokens and comments
pub same_marks : (t : Begun) (ps : List Piece) → map (λ p. p.spelling) (settled t ps) ≡ map (λ p. p.spelling) ps
same_marks t [] = refl
same_marks t (p ∷ ps) = ap (λ ms. p.spelling ∷ ms) (same_marks (begun_at t p) ps)
