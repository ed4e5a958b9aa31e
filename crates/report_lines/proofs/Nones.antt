-- Headers with the separator after them, and the headers `none` of adjacent places.
use Rattle.std.proofs.Common.{◌≡◌, ◌≢◌, ◌++◌, ◌∷◌, ◌+◌, ◌-◌, ◌<◌, ◌≤◌, ℕ, zero, suc, Bool, true, false, List, [], arith}
use Rattle.std.proofs.Common.{length, get_or, take, drop, refl, sym, ap, subst, ◌∙◌, append_assoc, append-nil}
use Rattle.std.specs.Prelude.{OnOk, Result, Ok, Err, nat_lt}
use Rattle.std.proofs.lemmas.Bool.{ltb-true, ltb-false}
use Rattle.std.proofs.lemmas.Grind.{flat_map-append}
use Rattle.std.proofs.lemmas.List.{get_or_append_left, length-append}
use Rattle.std.proofs.Math.Seq.{drop-append_seam, drop-cons, get_or-append_seam, take-append_seam}
use Rattle.std.proofs.Math.ListN.{drop_of_length-le}
use Rattle.std.specs.Fmt.{decimal}
use Rattle.std.specs.List.{flat_map, join_by}
use Rattle.msg_core.specs.declared.message.Header.{Header}
use Rattle.layer_mean.specs.Tree.{LayerTree}
use Rattle.run_mean.specs.Text.{chain_text, header_text}
use Rattle.report_lines.specs.Nones.{AreLaidOut, slashed_headers, ends_of, first_nones, none_of, nones, slashed_header}

no_fields : (fields : List ℕ) → length fields ≡ 0 → [] ≡ fields
no_fields [] none = refl
no_fields (f ∷ fields) none = absurd (omega arith)

-- one more header after others
chained_more : (stack : List LayerTree) (hs : List Header) (h : Header) → slashed_headers stack (hs ++ h ∷ []) ≡
    slashed_headers stack hs ++ slashed_header stack h
chained_more stack hs h =
    flat_map-append (slashed_header stack) hs (h ∷ []) ∙
    ap (λ last. slashed_headers stack hs ++ last) (append-nil (slashed_header stack h))

pub suc_is : (n : ℕ) → suc n ≡ n + 1
suc_is n = omega arith

pub first_more : (stack : List LayerTree) (n : ℕ) (text new : List ℕ) → text ≡ first_nones stack n →
    new ≡ text ++ slashed_header stack (none_of n) → new ≡ first_nones stack (n + 1)
first_more stack n text new is put =
    put ∙ ap (λ t. t ++ slashed_header stack (none_of n)) is
    ∙ ap (λ place. first_nones stack n ++ slashed_header stack (none_of place)) (omega arith)
    ∙ sym (chained_more stack (nones 0 n) (none_of (0 + n)))
    ∙ ap (first_nones stack) (suc_is n)

plus_zero : (n : ℕ) → n + 0 ≡ n
plus_zero n = omega arith

plus_suc : (n m : ℕ) → n + suc m ≡ suc (n + m)
plus_suc n m = omega arith

-- the headers of the first places are those of fewer, and the others
parted : (stack : List LayerTree) (first n : ℕ) → first_nones stack (first + n) ≡ first_nones stack first ++
    slashed_headers stack (nones first n)
parted stack first zero = ap (first_nones stack) (plus_zero first) ∙ sym (append-nil (first_nones stack first))
parted stack first (suc n) =
    ap (first_nones stack) (plus_suc first n)
    ∙ chained_more stack (nones 0 (first + n)) (none_of (0 + (first + n)))
    ∙ ap (λ place. first_nones stack (first + n) ++ slashed_header stack (none_of place)) (omega arith)
    ∙ ap (λ text. text ++ slashed_header stack (none_of (first + n))) (parted stack first n)
    ∙ append_assoc (first_nones stack first) (slashed_headers stack (nones first n))
    (slashed_header stack (none_of (first + n)))
    ∙ ap (λ text. first_nones stack first ++ text) (sym (chained_more stack (nones first n) (none_of (first + n))))

ends_count : (stack : List LayerTree) (n : ℕ) → length (ends_of stack n) ≡ n + 1
ends_count stack zero = refl
ends_count stack (suc n) =
    let e = length-append (ends_of stack n) (length (first_nones stack (suc n)) ∷ []) in
    let before = ends_count stack n in
    omega (arith, e, before)

ends_at : (stack : List LayerTree) (n k d : ℕ) → k ≤ n → get_or (ends_of stack n) k d ≡ length (first_nones stack k)
ends_at stack zero zero d le = refl
ends_at stack zero (suc k) d le = absurd (omega (arith, le))
ends_at stack (suc n) k d le = by_test (nat_lt n k) refl (ends_at stack n k d)
  where
    by_test : (last : Bool) → nat_lt n k ≡ last →
        (k ≤ n → get_or (ends_of stack n) k d ≡ length (first_nones stack k)) →
        get_or (ends_of stack n ++ length (first_nones stack (suc n)) ∷ []) k d ≡ length (first_nones stack k)
    by_test true is before =
        let lt = ltb-true n k is in
        let count = ends_count stack n in
        let same : k ≡ suc n = omega (arith, le, lt) in
        let seam : k ≡ length (ends_of stack n) = omega (arith, same, count) in
        ap (λ i. get_or (ends_of stack n ++ length (first_nones stack (suc n)) ∷ []) i d) seam
        ∙ get_or-append_seam (ends_of stack n) (length (first_nones stack (suc n))) [] d
        ∙ ap (λ i. length (first_nones stack i)) (sym same)
    by_test false is before =
        let le = ltb-false n k is in
        let count = ends_count stack n in
        get_or_append_left (ends_of stack n) (length (first_nones stack (suc n)) ∷ []) d k (omega (arith, le, count))
        ∙ before (omega (arith, le))

pub ends_more : (stack : List LayerTree) (n : ℕ) (ends new text : List ℕ) (count : ℕ) → ends ≡ ends_of stack n →
    text ≡ first_nones stack (n + 1) →
    new ≡ ends ++ count ∷ [] → count ≡ length text → new ≡ ends_of stack (n + 1)
ends_more stack n ends new text count before is put all =
    put ∙ (λ i. before i ++ all i ∷ []) ∙ ap (λ t. ends_of stack n ++ length t ∷ []) is
    ∙ ap (λ m. ends_of stack n ++ length (first_nones stack m) ∷ []) (sym (suc_is n)) ∙ ap (ends_of stack) (suc_is n)

-- each place has a beginning
pub within : (s stack : List LayerTree) (texts places : List ℕ) (k : ℕ) → s ≡ stack → AreLaidOut s texts places →
    k ≤ length stack → k < length places
within s stack texts places k same laid le =
    let count = ap length laid.1 ∙ ends_count s (length s) in
    let same_length = ap length same in
    omega (arith, le, count, same_length)

pub begins : (s stack : List LayerTree) (texts places : List ℕ) (k d : ℕ) → s ≡ stack → AreLaidOut s texts places →
    k ≤ length stack →
    get_or places k d ≡ length (first_nones stack k)
begins s stack texts places k d same laid le =
    let same_length = ap length same in
    ap (λ xs. get_or xs k d) laid.1 ∙ ends_at s (length s) k d (omega (arith, le, same_length)) ∙
    ap (λ t. length (first_nones t k)) same

-- what lies between two places: the texts between them
pub record Cut (stack : List LayerTree) (texts : List ℕ) (first n from to : ℕ) : Type 0 where
  pub ordered : from ≤ to
  pub inside : to ≤ length texts
  pub is : take (to - from) (drop from texts) ≡ slashed_headers stack (nones first n)

pub cut_parts : (a b c : List ℕ) → take (length (a ++ b) - length a) (drop (length a) ((a ++ b) ++ c)) ≡ b
cut_parts a b c =
    let e = length-append a b in
    ap (λ xs. take (length (a ++ b) - length a) (drop (length a) xs)) (append_assoc a b c)
    ∙ ap (λ xs. take (length (a ++ b) - length a) xs) (drop-append_seam a (b ++ c))
    ∙ ap (λ i. take i (b ++ c)) (omega (arith, e))
    ∙ take-append_seam b c

pub cut : (s stack : List LayerTree) (texts places : List ℕ) (first n from to : ℕ) → s ≡ stack →
    AreLaidOut s texts places → first + n ≤ length stack →
    from ≡ length (first_nones stack first) → to ≡ length (first_nones stack (first + n)) →
    Cut stack texts first n from to
cut s stack texts places first n from to same laid le begin is_to =
    let a = first_nones stack first in
    let b = slashed_headers stack (nones first n) in
    let rest = length stack - (first + n) in
    let c = slashed_headers stack (nones (first + n) rest) in
    let count : length stack ≡ (first + n) + rest = omega (arith, le) in
    let whole : texts ≡ (a ++ b) ++ c =
    laid.0 ∙ ap (λ t. first_nones t (length t)) same ∙ ap (first_nones stack) count ∙ parted stack (first + n) rest
    ∙ ap (λ front. front ++ c) (parted stack first n) in
    let end : to ≡ length (a ++ b) = is_to ∙ ap length (parted stack first n) in
    let both = length-append a b in
    let all = ap length whole ∙ length-append (a ++ b) c in
    record {
      ordered = omega (arith, begin, end, both);
      inside = omega (arith, end, all);
      is = (λ i. take (end i - begin i) (drop (begin i) (whole i))) ∙ cut_parts a b c;
    }

-- what is left begins with the next header
first_dropped : (hs : List Header) (k : ℕ) (h : Header) → k < length hs → h ≡ get_or hs k h →
    drop k hs ≡ h ∷ drop (k + 1) hs
first_dropped hs k h within is =
    drop-cons hs k h within ∙ ap (λ x. x ∷ drop (suc k) hs) (sym is) ∙ ap (λ i. h ∷ drop i hs) (suc_is k)

-- a header with tag 0 and without numbers is that of its place
pub none_is : (h : Header) → h.tag ≡ 0 → length h.fields ≡ 0 → h ≡ none_of h.layer
none_is h tagged empty = λ i. record { layer = h.layer; tag = tagged i; fields = sym (no_fields h.fields empty) i }

pub none_at : (hs : List Header) (k place : ℕ) (h : Header) → k < length hs → h ≡ get_or hs k h → h.layer ≡ place →
    h ≡ none_of h.layer →
    drop k hs ≡ none_of place ∷ drop (k + 1) hs
none_at hs k place h within is placed none =
    first_dropped hs k h within is ∙ ap (λ x. x ∷ drop (k + 1) hs) (none ∙ ap none_of placed)

-- one more of them
pub nones_next : (hs : List Header) (k first n : ℕ) → drop k hs ≡ nones first n ++ drop (k + n) hs →
    drop (k + n) hs ≡ none_of (first + n) ∷ drop (k + n + 1) hs → drop k hs ≡ nones first (n + 1) ++
    drop (k + (n + 1)) hs
nones_next hs k first n before next =
    let one : suc n ≡ n + 1 = omega arith in
    let following : k + n + 1 ≡ k + (n + 1) = omega arith in
    before ∙ ap (λ rest. nones first n ++ rest) next ∙
    sym (append_assoc (nones first n) (none_of (first + n) ∷ []) (drop (k + n + 1) hs))
    ∙ (λ i. nones first (one i) ++ drop (following i) hs)

-- after headers that were put the others follow
pub put_front : (stack : List LayerTree) (hs front rest : List Header) (line new : List ℕ) →
    new ≡ line ++ slashed_headers stack front → hs ≡ front ++ rest →
    new ++ slashed_headers stack rest ≡ line ++ slashed_headers stack hs
put_front stack hs front rest line new put is =
    ap (λ text. text ++ slashed_headers stack rest) put ∙
    append_assoc line (slashed_headers stack front) (slashed_headers stack rest)
    ∙ ap (λ text. line ++ text)
    (sym (flat_map-append (slashed_header stack) front rest) ∙ ap (slashed_headers stack) (sym is))

-- separators after pieces are those between them, and a last one
following : (f : Header → List ℕ) (sep : List ℕ) (hs : List Header) →
    sep ++ flat_map (λ h. f h ++ sep) hs ≡ flat_map (λ h. sep ++ f h) hs ++ sep
following f sep [] = append-nil sep
following f sep (h ∷ hs) =
    sym (append_assoc sep (f h ++ sep) (flat_map (λ h. f h ++ sep) hs))
    ∙ ap (λ xs. xs ++ flat_map (λ h. f h ++ sep) hs) (sym (append_assoc sep (f h) sep))
    ∙ append_assoc (sep ++ f h) sep (flat_map (λ h. f h ++ sep) hs)
    ∙ ap (λ xs. (sep ++ f h) ++ xs) (following f sep hs)
    ∙ sym (append_assoc (sep ++ f h) (flat_map (λ h. sep ++ f h) hs) sep)

joined : (stack : List LayerTree) (hs : List Header) → hs ≢ [] → slashed_headers stack hs ≡ chain_text stack hs ++ 47 ∷
    []
joined stack [] some = absurd (some refl)
joined stack (h ∷ hs) some =
    append_assoc (header_text stack h) (47 ∷ []) (slashed_headers stack hs)
    ∙ ap (λ xs. header_text stack h ++ xs) (following (header_text stack) (47 ∷ []) hs)
    ∙ sym (append_assoc (header_text stack h) (flat_map (λ h. 47 ∷ header_text stack h) hs) (47 ∷ []))

without_last : (xs : List ℕ) (x : ℕ) → take (length (xs ++ x ∷ []) - 1) (xs ++ x ∷ []) ≡ xs
without_last xs x =
    let e = length-append xs (x ∷ []) in
    ap (λ i. take i (xs ++ x ∷ [])) (omega (arith, e)) ∙ take-append_seam xs (x ∷ [])

some_headers : (hs : List Header) → length hs ≢ 0 → hs ≢ []
some_headers hs some is = some (ap length is)

-- after the last header none is left
pub none_left : (stack : List LayerTree) (hs : List Header) (k : ℕ) (line now : List ℕ) →
    now ++ slashed_headers stack (drop k hs) ≡ line ++ slashed_headers stack hs → length hs ≤ k →
    now ≡ line ++ slashed_headers stack hs
none_left stack hs k line now put past =
    let none = drop_of_length-le hs past in
    sym (append-nil now) ∙ ap (λ rest. now ++ slashed_headers stack rest) (sym none) ∙ put

-- once all headers are put, the last separator goes
pub all_put : (stack : List LayerTree) (hs : List Header) (line now new : List ℕ) →
    now ≡ line ++ slashed_headers stack hs →
    length hs ≢ 0 → new ≡ take (length now - 1) now → new ≡ line ++ chain_text stack hs
all_put stack hs line now new put some last =
    let whole : now ≡ (line ++ chain_text stack hs) ++ 47 ∷ [] =
    put ∙ ap (λ text. line ++ text) (joined stack hs (some_headers hs some))
    ∙ sym (append_assoc line (chain_text stack hs) (47 ∷ [])) in
    last ∙ ap (λ xs. take (length xs - 1) xs) whole ∙ without_last (line ++ chain_text stack hs) 47

-- a header that was put with its separator
pub one_put : (stack : List LayerTree) (hs : List Header) (k : ℕ) (h : Header) (line new : List ℕ) →
    k < length hs → h ≡ get_or hs k h → new ≡ line ++ slashed_header stack h →
    new ++ slashed_headers stack (drop (k + 1) hs) ≡ line ++
    slashed_headers stack (drop k hs)
one_put stack hs k h line new within is put =
    put_front stack (drop k hs) (h ∷ []) (drop (k + 1) hs) line new
    (put ∙ ap (λ text. line ++ text) (sym (append-nil (slashed_header stack h))))
    (first_dropped hs k h within is)

-- a text whose last byte is put together with the separator
pub closed : {E : Type 0} (r : Result (Unit {0}) E) (line front numbers now new : List ℕ) → now ≡ line ++ front →
    OnOk r (new ≡ now ++ numbers ++ 41 ∷ 47 ∷ []) → OnOk r (new ≡ line ++ ((front ++ numbers ++ 41 ∷ []) ++ 47 ∷ []))
closed (Ok done) line front numbers now new is put =
    put ∙ sym (append_assoc (now ++ numbers) (41 ∷ []) (47 ∷ []))
    ∙ ap (λ xs. xs ++ 41 ∷ [] ++ 47 ∷ []) (ap (λ xs. xs ++ numbers) is ∙ append_assoc line front numbers)
    ∙ ap (λ xs. xs ++ 47 ∷ []) (append_assoc line (front ++ numbers) (41 ∷ []))
    ∙ append_assoc line (front ++ numbers ++ 41 ∷ []) (47 ∷ [])
closed (Err e) line front numbers now new is put = put

one_field : (fields : List ℕ) (number : ℕ) → length fields ≡ 1 → number ≡ get_or fields 0 0 →
    decimal number ≡ join_by decimal (44 ∷ []) fields
one_field [] number one is = absurd (omega (arith, one))
one_field (field ∷ []) number one is = ap decimal is ∙ sym (append-nil (decimal field))
one_field (field ∷ next ∷ fields) number one is = absurd (omega (arith, one))

-- one number with what stands after it
pub one_closed : {E : Type 0} (r : Result (Unit {0}) E) (line fields new : List ℕ) (number : ℕ) → length fields ≡ 1 →
    number ≡ get_or fields 0 0 → OnOk r (new ≡ line ++ decimal number ++ 41 ∷ 47 ∷ []) →
    OnOk r (new ≡ line ++ join_by decimal (44 ∷ []) fields ++ 41 ∷ 47 ∷ [])
one_closed r line fields new number one is put =
    subst (λ text. OnOk r (new ≡ line ++ text ++ 41 ∷ 47 ∷ [])) (one_field fields number one is) put
