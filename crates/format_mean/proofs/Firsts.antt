-- What the classes of tokens say of their first bytes.
use Rattle.std.proofs.Common.{◌≡◌, ℕ, Bool, true, false, not, ◌&&◌, ◌||◌, cond, nat_eq, List, ◌∷◌, ◌++◌, refl, sym}
use Rattle.std.proofs.Common.{subst, ◌∙◌, eqb-true, true≢false}
use Rattle.std.specs.Prelude.{codes}
use Rattle.std.specs.Str.{bytes_eq}
use Rattle.layer_words.specs.Spelling.{is_word_byte}
use Rattle.format_mean.specs.declared.stand.Class.{Class}
use Rattle.format_mean.specs.declared.stand.Class.TheVariants as class
use Rattle.format_mean.specs.Classes.{is_one_of, declaring, going, queueing, apart, word_class, sign_class, class_of}
use Rattle.format_mean.specs.Classes.{holds_next, holds_last, calls, are_joined, seen_after}
use Rattle.format_mean.specs.Layout.{is_remark}
use Rattle.format_mean.specs.Pieces.{doubles}
use Rattle.format_mean.proofs.Whole.{stops}

-- a word has one of seven classes
word_cases : (P : Class → Type 0) → P class.Layer → P class.Stack → P class.Declaring → P class.Going →
    P class.Queueing →
    P class.Apart → P class.Plain → (w : List ℕ) → P (word_class w)
word_cases P in_layer in_stack in_declaring in_going in_queueing in_apart in_plain w =
    by_tests (bytes_eq w (codes "layer")) (bytes_eq w (codes "stack")) (is_one_of w declaring)
    (is_one_of w going) (is_one_of w queueing)
    (is_one_of w apart)
  where
    by_tests : (a b c d e f : Bool) →
        P (cond a class.Layer
        (cond b class.Stack (cond c class.Declaring
        (cond d class.Going (cond e class.Queueing (cond f class.Apart class.Plain))))))
    by_tests true b c d e f = in_layer
    by_tests false true c d e f = in_stack
    by_tests false false true d e f = in_declaring
    by_tests false false false true e f = in_going
    by_tests false false false false true f = in_queueing
    by_tests false false false false false true = in_apart
    by_tests false false false false false false = in_plain

-- a byte that begins no word has one of nine
sign_cases : (P : ℕ → Class → Type 0) → P 35 class.Remark → P 123 class.Opening → P 125 class.Closing →
    P 40 class.Parenthesis →
    P 91 class.Bracket → P 46 class.Dot → P 59 class.Semicolon → P 44 class.Tight → P 41 class.Tight →
    P 93 class.Tight →
    P 58 class.Tight → ((b : ℕ) → P b class.Apart) → (b : ℕ) → P b (sign_class b)
sign_cases P remark opening closing parenthesis bracket dot semicolon comma close_parenthesis close_bracket colon other
    b =
    at 35 class.Remark _ remark
    (at 123 class.Opening _ opening (at 125 class.Closing _ closing (at 40 class.Parenthesis _ parenthesis
    (at 91 class.Bracket _ bracket (at 46 class.Dot _ dot (at 59 class.Semicolon _ semicolon four))))))
  where
    either : (k : ℕ) (c d : Class) (t : Bool) → nat_eq b k ≡ t → P k c → P b d → P b (cond t c d)
    either k c d true is there else = subst (λ n. P n c) (sym (eqb-true b k is)) there
    either k c d false is there else = else

    at : (k : ℕ) (c d : Class) → P k c → P b d → P b (cond (nat_eq b k) c d)
    at k c d there else = either k c d (nat_eq b k) refl there else

    tight : (s t u v : Bool) → nat_eq b 44 ≡ s → nat_eq b 41 ≡ t → nat_eq b 93 ≡ u → nat_eq b 58 ≡ v →
        P b (cond (s || (t || (u || v))) class.Tight class.Apart)
    tight true t u v s_is t_is u_is v_is = subst (λ n. P n class.Tight) (sym (eqb-true b 44 s_is)) comma
    tight false true u v s_is t_is u_is v_is = subst (λ n. P n class.Tight) (sym (eqb-true b 41 t_is)) close_parenthesis
    tight false false true v s_is t_is u_is v_is = subst (λ n. P n class.Tight) (sym (eqb-true b 93 u_is)) close_bracket
    tight false false false true s_is t_is u_is v_is = subst (λ n. P n class.Tight) (sym (eqb-true b 58 v_is)) colon
    tight false false false false s_is t_is u_is v_is = other b

    four : P b (cond (nat_eq b 44 || (nat_eq b 41 || (nat_eq b 93 || nat_eq b 58))) class.Tight class.Apart)
    four = tight (nat_eq b 44) (nat_eq b 41) (nat_eq b 93) (nat_eq b 58) refl refl refl refl

-- a token after which nothing stands apart is no word, and no sign that an equals sign may continue
abbrev Closed : ℕ → Class → Type 0
Closed b c = holds_next c ≡ true → (is_word_byte b ≡ false) × (doubles b ≡ false)

pub closed : (b : ℕ) (bs : List ℕ) → Closed b (class_of (b ∷ bs))
closed b bs = by_word (is_word_byte b)
  where
    by_word : (t : Bool) → Closed b (cond t (word_class (b ∷ bs)) (sign_class b))
    by_word true = word_cases (Closed b) (λ h. cc) (λ h. cc) (λ h. cc) (λ h. cc) (λ h. cc) (λ h. cc) (λ h. cc) (b ∷ bs)
    by_word false =
        sign_cases Closed (λ h. cc) (λ h. cc) (λ h. cc) (λ h. (refl, refl)) (λ h. (refl, refl)) (λ h. (refl, refl))
        (λ h. cc) (λ h. cc)
        (λ h. cc) (λ h. cc) (λ h. cc) (λ b h. cc) b

-- a token that stands apart from nothing, or a parenthesis, continues no word and no sign
abbrev follows : Class → Bool
follows class.Parenthesis = true
follows c = holds_last c

abbrev Open : ℕ → Class → Type 0
Open b c = follows c ≡ true → (is_word_byte b ≡ false) × (nat_eq b 61 ≡ false)

pub opened : (b : ℕ) (bs : List ℕ) → Open b (class_of (b ∷ bs))
opened b bs = by_word (is_word_byte b)
  where
    by_word : (t : Bool) → Open b (cond t (word_class (b ∷ bs)) (sign_class b))
    by_word true = word_cases (Open b) (λ h. cc) (λ h. cc) (λ h. cc) (λ h. cc) (λ h. cc) (λ h. cc) (λ h. cc) (b ∷ bs)
    by_word false =
        sign_cases Open (λ h. cc) (λ h. cc) (λ h. cc) (λ h. (refl, refl)) (λ h. (refl, refl)) (λ h. (refl, refl))
        (λ h. (refl, refl))
        (λ h. (refl, refl)) (λ h. (refl, refl)) (λ h. (refl, refl)) (λ h. (refl, refl)) (λ b h. cc) b

-- what is no comment doesn't begin as one
pub no_remark : (b : ℕ) (bs : List ℕ) → is_remark (class_of (b ∷ bs)) ≡ false → nat_eq b 35 ≡ false
no_remark b bs none = by_byte (nat_eq b 35) refl
  where
    by_byte : (t : Bool) → nat_eq b 35 ≡ t → t ≡ false
    by_byte false is = refl
    by_byte true is =
        let there : is_remark (class_of (35 ∷ bs)) ≡ false =
        subst (λ n. is_remark (class_of (n ∷ bs)) ≡ false) (eqb-true b 35 is) none in
        absurd (true≢false there)

-- what a token counts as is a comment or holds the next one where the token does
pub seen_remark : (x c : Class) → is_remark (seen_after x c) ≡ is_remark c
seen_remark class.Queueing class.Plain = refl
seen_remark x c = refl

pub seen_holds : (x c : Class) → holds_next (seen_after x c) ≡ holds_next c
seen_holds class.Queueing class.Plain = refl
seen_holds x c = refl

-- a token that stands apart from nothing, or the parenthesis of a call, follows at once
joined_follows : (last next : Class) → (holds_last next || calls last next) ≡ true → follows next ≡ true
joined_follows last class.Parenthesis is = refl
joined_follows class.Plain c is = by_next c is
  where
    by_next : (c : Class) → (holds_last c || calls class.Plain c) ≡ true → follows c ≡ true
    by_next class.Parenthesis is = refl
    by_next class.Semicolon is = refl
    by_next class.Tight is = refl
    by_next class.Dot is = refl
    by_next class.Bracket is = refl
    by_next _ is = cc
joined_follows _ class.Semicolon is = refl
joined_follows _ class.Tight is = refl
joined_follows _ class.Dot is = refl
joined_follows _ class.Bracket is = refl
joined_follows _ _ is = cc

-- a line feed and a blank stop all but a comment
pub feed_stops : (b : ℕ) (rest : List ℕ) → stops b (10 ∷ rest) ≡ true
feed_stops b rest = by_tests (nat_eq b 35) (is_word_byte b) (doubles b)
  where
    by_tests : (r w d : Bool) → cond r true (cond w true (not (d && false))) ≡ true
    by_tests true w d = refl
    by_tests false true d = refl
    by_tests false false true = refl
    by_tests false false false = refl

pub blank_stops : (b : ℕ) (rest : List ℕ) → nat_eq b 35 ≡ false → stops b (32 ∷ rest) ≡ true
blank_stops b rest none = by_tests (nat_eq b 35) (is_word_byte b) (doubles b) none
  where
    by_tests : (r w d : Bool) → r ≡ false → cond r false (cond w true (not (d && false))) ≡ true
    by_tests true w d is = cc
    by_tests false true d is = refl
    by_tests false false true is = refl
    by_tests false false false is = refl

-- a token that is joined to the next stops where that begins
pub joined_stops : (b : ℕ) (bs : List ℕ) (c : ℕ) (cs : List ℕ) (x : Class) (rest : List ℕ) → nat_eq b 35 ≡ false →
    are_joined (seen_after x (class_of (b ∷ bs))) (class_of (c ∷ cs)) ≡ true → stops b ((c ∷ cs) ++ rest) ≡ true
joined_stops b bs c cs x rest none is =
    by_holding (holds_next (seen_after x (class_of (b ∷ bs)))) refl is
  where
    by_tests : (r w d : Bool) → r ≡ false → (w ≡ false) × (d ≡ false) →
        cond r (nat_eq c 10) (cond w (not (is_word_byte c)) (not (d && nat_eq c 61))) ≡ true
    by_tests true w d none h = cc
    by_tests false true d none h = cc
    by_tests false false true none h = cc
    by_tests false false false none h = refl

    by_next : (r w d v e : Bool) → r ≡ false → (v ≡ false) × (e ≡ false) →
        cond r (nat_eq c 10) (cond w (not v) (not (d && e))) ≡ true
    by_next true w d v e none h = cc
    by_next false w d true e none h = cc
    by_next false w d v true none h = cc
    by_next false true d false false none h = refl
    by_next false false true false false none h = refl
    by_next false false false false false none h = refl

    by_holding : (t : Bool) → holds_next (seen_after x (class_of (b ∷ bs))) ≡ t →
        (t || (holds_last (class_of (c ∷ cs)) || calls (seen_after x (class_of (b ∷ bs))) (class_of (c ∷ cs)))) ≡
        true →
        stops b ((c ∷ cs) ++ rest) ≡ true
    by_holding true holds is =
        by_tests (nat_eq b 35) (is_word_byte b) (doubles b) none
        (closed b bs (sym (seen_holds x (class_of (b ∷ bs))) ∙ holds))
    by_holding false holds is =
        by_next (nat_eq b 35) (is_word_byte b) (doubles b) (is_word_byte c) (nat_eq c 61) none
        (opened c cs (joined_follows (seen_after x (class_of (b ∷ bs))) (class_of (c ∷ cs)) is))
