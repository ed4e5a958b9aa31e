-- Digits, sixteen at a time.
use Rattle.std.proofs.Common.{◌≡◌, ◌+◌, ◌*◌, ◌%◌, ◌^◌, ◌<◌, ◌≤◌, ℕ, zero, suc, Bool, true, false, List, [], ◌∷◌, ◌++◌}
use Rattle.std.proofs.Common.{length, take, drop, get_or, map, replicate, cond, Option, Some, None, refl, ap, sym, ◌∙◌}
use Rattle.std.proofs.Common.{append_assoc, arith, Fits, w8}
use Rattle.std.specs.Prelude.{◌&&◌, ◌==◌, not, nat_lt, IfSome, option_map, if◌then◌else◌}
use Rattle.std.specs.Option.{unwrap_or}
use Rattle.std.specs.List.{list_all}
use Rattle.std.specs.Simd.Lanes.{Each1, chunk, mask_l, put_chunk, sel_l, top, zip2}
use Rattle.std.proofs.lemmas.List.{length-append, length-map}
use Rattle.std.proofs.lemmas.List.Folds.{list_all-append}
use Rattle.std.proofs.lemmas.Simd.{chunk-drop, length-chunk, length-put_chunk, mask_l-mod, take_more_put_chunk}
use Rattle.std.proofs.lemmas.Bool.Decides.{nat_tests}
use Rattle.script_mean.specs.Words.{◌>>=◌, hex_digit, hex_bytes}
use Rattle.script_text.specs.Blocks.{WritesBlock, digit_value}
use Rattle.script_text.proofs.Hex.{bounded}

-- each lane is the value of its digit
pub lanes_are : (sub add less : ℕ → ℕ → ℕ) (n : ℕ) (ds : List ℕ) → length ds ≡ n → Each1 (Fits w8) ds →
    ((x : ℕ) → Fits w8 x →
    cond (top 7 (less (sub x 48) 10)) (sub x 48) (add (cond (top 7 (less (sub x 97) 6)) (sub x 97) 6) 10) ≡
    digit_value x) →
    sel_l (map (top 7) (zip2 less (zip2 sub ds (replicate n 48)) (replicate n 10))) (zip2 sub ds (replicate n 48))
    (zip2 add (sel_l (map (top 7) (zip2 less (zip2 sub ds (replicate n 97)) (replicate n 6)))
    (zip2 sub ds (replicate n 97)) (replicate n 6))
    (replicate n 10)) ≡ map digit_value ds
lanes_are sub add less zero [] long small lane = refl
lanes_are sub add less zero (x ∷ ds) long small lane = absurd (omega (arith, long))
lanes_are sub add less (suc n) [] long small lane = absurd (omega (arith, long))
lanes_are sub add less (suc n) (x ∷ ds) long small lane =
    λ i. lane x small.0 i ∷ lanes_are sub add less n ds (omega (arith, long)) small.1 lane i

-- the byte of two values
abbrev pub byte_of : ℕ → ℕ → ℕ
byte_of high low = (high * 16 % 256 + low) % 256

abbrev pub combined : List ℕ → List ℕ
combined [] = []
combined (one ∷ []) = []
combined (high ∷ low ∷ more) = byte_of high low ∷ combined more

-- the bytes of n pairs of values from a place on
abbrev pub pairs_from : (k n : ℕ) → List ℕ → List ℕ
pairs_from k zero vs = []
pairs_from k (suc n) vs = byte_of (get_or vs k 0) (get_or vs (suc k) 0) ∷ pairs_from (suc (suc k)) n vs

further : (n k a b : ℕ) (vs : List ℕ) → pairs_from (suc (suc k)) n (a ∷ b ∷ vs) ≡ pairs_from k n vs
further zero k a b vs = refl
further (suc n) k a b vs = ap (λ bytes. byte_of (get_or vs k 0) (get_or vs (suc k) 0) ∷ bytes)
    (further n (suc (suc k)) a b vs)

pub combined_is : (n : ℕ) (vs : List ℕ) → length vs ≡ 2 * n → combined vs ≡ pairs_from 0 n vs
combined_is zero [] long = refl
combined_is zero (a ∷ vs) long = absurd (omega (arith, long))
combined_is (suc n) [] long = absurd (omega (arith, long))
combined_is (suc n) (a ∷ []) long = absurd (omega (arith, long))
combined_is (suc n) (a ∷ b ∷ vs) long =
    ap (λ bytes. byte_of a b ∷ bytes) (combined_is n vs (omega (arith, long)) ∙ sym (further n 0 a b vs))

ltb_is : (n : ℕ) → n < 16 → nat_lt n 16 ≡ true
ltb_is n small = grind (arith, nat_tests)

abbrev pub all_small : List ℕ → Bool
all_small vs = list_all (λ v. nat_lt v 16) vs

one_pair : (h l : Option ℕ) (all : Bool) (bytes : List ℕ) (rest whole : Option (List ℕ)) → IfSome h (λ v. v < 16) →
    IfSome l (λ v. v < 16) →
    whole ≡ (if all then option_map (λ more. bytes ++ more) rest else None) →
    (h >>= λ x. l >>= λ y. whole >>= λ more. Some ((x * 16 + y) ∷ more))
    ≡ (if nat_lt (unwrap_or h 16) 16 && (nat_lt (unwrap_or l 16) 16 && all) then
    option_map (λ more. (byte_of (unwrap_or h 16) (unwrap_or l 16) ∷ bytes) ++ more) rest else None)
one_pair None l all bytes rest whole first second is = refl
one_pair (Some h) None all bytes rest whole first second is = rw (ltb_is h first) refl
one_pair (Some h) (Some l) false bytes rest whole first second is = rw (is, ltb_is h first, ltb_is l second) refl
one_pair (Some h) (Some l) true bytes None whole first second is = rw (is, ltb_is h first, ltb_is l second) refl
one_pair (Some h) (Some l) true bytes (Some rest) whole first second is =
    let byte : h * 16 + l ≡ byte_of h l = omega (arith, first, second) in
    rw (is, ltb_is h first, ltb_is l second) (ap (λ b. Some (b ∷ bytes ++ rest)) byte)

-- what digits spell after an even number of others
hex_after : (n : ℕ) (xs ys : List ℕ) → length xs ≡ 2 * n → hex_bytes (xs ++ ys)
    ≡ (if all_small (map digit_value xs) then option_map (λ more. combined (map digit_value xs) ++ more) (hex_bytes ys)
    else None)
hex_after zero [] ys long = same (hex_bytes ys)
  where
    same : (o : Option (List ℕ)) → o ≡ option_map (λ more. [] ++ more) o
    same None = refl
    same (Some more) = refl
hex_after zero (a ∷ xs) ys long = absurd (omega (arith, long))
hex_after (suc n) [] ys long = absurd (omega (arith, long))
hex_after (suc n) (a ∷ []) ys long = absurd (omega (arith, long))
hex_after (suc n) (a ∷ b ∷ xs) ys long =
    one_pair (hex_digit a) (hex_digit b) (all_small (map digit_value xs)) (combined (map digit_value xs)) (hex_bytes ys)
    (hex_bytes (xs ++ ys)) (bounded a) (bounded b)
    (hex_after n xs ys (omega (arith, long)))

map_both : (xs ys : List ℕ) → map digit_value (xs ++ ys) ≡ map digit_value xs ++ map digit_value ys
map_both [] ys = refl
map_both (x ∷ xs) ys = ap (λ vs. digit_value x ∷ vs) (map_both xs ys)

front_joined : (front block : List ℕ) (rest : Option (List ℕ)) →
    option_map (λ more. front ++ more) (option_map (λ more. block ++ more) rest)
    ≡ option_map (λ more. (front ++ block) ++ more) rest
front_joined front block None = refl
front_joined front block (Some rest) = ap Some (sym (append_assoc front block rest))

-- a block of bytes is written, if its digits are some
pub writes : (at : ℕ) (digits old fs bs : List ℕ) (result : Bool) → 2 * at + 32 ≤ length digits → at + 16 ≤ length old →
    fs ≡ map digit_value (chunk (2 * at) 16 digits) → bs ≡ map digit_value (chunk (2 * at + 16) 16 digits) →
    result ≡ (all_small fs && all_small bs) →
    WritesBlock at digits old (put_chunk at old (pairs_from 0 16 (fs ++ bs))) result
writes at digits old fs bs result many room front back is = by_result result is
  where
    c1 : List ℕ
    c1 = chunk (2 * at) 16 digits

    c2 : List ℕ
    c2 = chunk (2 * at + 16) 16 digits

    vs : map digit_value (c1 ++ c2) ≡ fs ++ bs
    vs = map_both c1 c2 ∙ (λ i. sym front i ++ sym back i)

    long : length (c1 ++ c2) ≡ 2 * 16
    long =
        let one = length-chunk (2 * at) 16 digits (omega (arith, many)) in
        let two = length-chunk (2 * at + 16) 16 digits (omega (arith, many)) in
        let both = length-append c1 c2 in omega (arith, one, two, both)

    long_vs : length (fs ++ bs) ≡ 2 * 16
    long_vs = ap length (sym vs) ∙ length-map (c1 ++ c2) digit_value ∙ long

    following : List ℕ
    following = drop (2 * (at + 16)) digits

    split : drop (2 * at) digits ≡ (c1 ++ c2) ++ following
    split =
        let last : 2 * at + 16 + 16 ≡ 2 * (at + 16) = omega arith in
        chunk-drop (2 * at) 16 digits ∙
        ap (λ xs. c1 ++ xs) (chunk-drop (2 * at + 16) 16 digits ∙ ap (λ k. c2 ++ drop k digits) last)
        ∙ sym (append_assoc c1 c2 following)

    whole : hex_bytes (drop (2 * at) digits)
        ≡ (if all_small fs && all_small bs then option_map (λ more. pairs_from 0 16 (fs ++ bs) ++ more)
        (hex_bytes following) else None)
    whole =
        ap hex_bytes split ∙ hex_after 16 (c1 ++ c2) following long
        ∙ ap (λ ws. if all_small ws then option_map (λ more. combined ws ++ more) (hex_bytes following) else None) vs
        ∙ (λ i. if list_all-append (λ v. nat_lt v 16) fs bs i then option_map
        (λ more. combined_is 16 (fs ++ bs) long_vs i ++ more) (hex_bytes following) else None)

    by_result : (r : Bool) → r ≡ (all_small fs && all_small bs) →
        WritesBlock at digits old (put_chunk at old (pairs_from 0 16 (fs ++ bs))) r
    by_result true e = (
      length-put_chunk at old (pairs_from 0 16 (fs ++ bs)),
      ap (option_map (λ more. take at old ++ more))
          (whole ∙ ap (λ b. if b then option_map (λ more. pairs_from 0 16 (fs ++ bs) ++ more) (hex_bytes following) else
          None) (sym e))
          ∙ front_joined (take at old) (pairs_from 0 16 (fs ++ bs)) (hex_bytes following)
          ∙ ap (λ t. option_map (λ more. t ++ more) (hex_bytes following))
          (sym (take_more_put_chunk at old (pairs_from 0 16 (fs ++ bs)) (at + 16) refl room)),
    )
    by_result false e = (
      length-put_chunk at old (pairs_from 0 16 (fs ++ bs)),
      whole ∙ ap (λ b. if b then option_map (λ more. pairs_from 0 16 (fs ++ bs) ++ more) (hex_bytes following) else
          None)
          (sym e),
    )

-- no lane of the greater is above a digit's value
mask_step : (b : Bool) (m : ℕ) → (cond b 1 0 + 2 * m == 0) ≡ (not b && (m == 0))
mask_step true m = grind (arith, nat_tests)
mask_step false m = grind (arith, nat_tests)

parted : (x y xs ys : Bool) → (not (not (x && y)) && (xs && ys)) ≡ ((x && xs) && (y && ys))
parted true true xs ys = refl
parted true false true ys = refl
parted true false false ys = refl
parted false y xs ys = refl

abbrev mask_of : (less least : ℕ → ℕ → ℕ) (n : ℕ) (fs bs : List ℕ) → List Bool
mask_of less least n fs bs = map (top 7) (zip2 least (replicate n 16) (sel_l (map (top 7) (zip2 less fs bs)) bs fs))

mask_long : (less least : ℕ → ℕ → ℕ) (n : ℕ) (fs bs : List ℕ) → length fs ≡ n → length bs ≡ n →
    length (mask_of less least n fs bs) ≡ n
mask_long less least zero fs bs one two = refl
mask_long less least (suc n) [] bs one two = absurd (omega (arith, one))
mask_long less least (suc n) (f ∷ fs) [] one two = absurd (omega (arith, two))
mask_long less least (suc n) (f ∷ fs) (b ∷ bs) one two =
    let more = mask_long less least n fs bs (omega (arith, one)) (omega (arith, two)) in omega (arith, more)

mask_none : (less least : ℕ → ℕ → ℕ) (n : ℕ) (fs bs : List ℕ) → length fs ≡ n → length bs ≡ n →
    ((f b : ℕ) → top 7 (least 16 (cond (top 7 (less f b)) b f)) ≡ not (nat_lt f 16 && nat_lt b 16)) →
    (mask_l (mask_of less least n fs bs) == 0) ≡ (all_small fs && all_small bs)
mask_none less least zero [] [] one two lane = refl
mask_none less least zero (f ∷ fs) bs one two lane = absurd (omega (arith, one))
mask_none less least zero [] (b ∷ bs) one two lane = absurd (omega (arith, two))
mask_none less least (suc n) [] bs one two lane = absurd (omega (arith, one))
mask_none less least (suc n) (f ∷ fs) [] one two lane = absurd (omega (arith, two))
mask_none less least (suc n) (f ∷ fs) (b ∷ bs) one two lane =
    mask_step (top 7 (least 16 (cond (top 7 (less f b)) b f))) (mask_l (mask_of less least n fs bs))
    ∙ (λ i. not (lane f b i) && mask_none less least n fs bs (omega (arith, one)) (omega (arith, two)) lane i)
    ∙ parted (nat_lt f 16) (nat_lt b 16) (all_small fs) (all_small bs)

pub none_high : (less least : ℕ → ℕ → ℕ) (fs bs : List ℕ) → length fs ≡ 16 → length bs ≡ 16 →
    ((f b : ℕ) → top 7 (least 16 (cond (top 7 (less f b)) b f)) ≡ not (nat_lt f 16 && nat_lt b 16)) →
    (mask_l (map (top 7) (zip2 least (replicate 16 16) (sel_l (map (top 7) (zip2 less fs bs)) bs fs))) % 2 ^ 64 == 0) ≡
    (all_small fs && all_small bs)
none_high less least fs bs one two lane =
    let long = mask_long less least 16 fs bs one two in
    ap (λ m. m == 0) (mask_l-mod (mask_of less least 16 fs bs) 64 (omega (arith, long))) ∙
    mask_none less least 16 fs bs one two lane

-- before any block is written
pub begins : (digits bytes : List ℕ) →
    hex_bytes digits ≡ option_map (λ more. take 0 bytes ++ more) (hex_bytes (drop (2 * 0) digits))
begins digits bytes = same (hex_bytes digits)
  where
    same : (o : Option (List ℕ)) → o ≡ option_map (λ more. take 0 bytes ++ more) o
    same None = refl
    same (Some more) = refl
