-- Headers agree with a plan one after the other.
use Rattle.std.proofs.Common.{◌≡◌, ◌≢◌, ℕ, zero, suc, ◌+◌, ◌<◌, ◌≤◌, Bool, true, false, List, [], ◌∷◌, ◌++◌, Option}
use Rattle.std.proofs.Common.{Some, None, refl, sym, ap, ◌∙◌, add-one, arith, length, drop, get_or, map}
use Rattle.std.specs.Prelude.{◌==◌, ◌&&◌, bytes_eq, flat_map, if◌then◌else◌}
use Rattle.std.proofs.Math.Seq.{drop-cons}
use Rattle.std.proofs.lemmas.Bool.{eqb-true, eq-eqb}
use Rattle.msg_core.specs.declared.message.Header.{Header}
use Rattle.packet_mean.specs.Plan.{agree}
use Rattle.packet_short.specs.Fits.{alike, following}

-- the first of those that are left
pub left_at : {X : Type 0} (xs : List X) (k : ℕ) (x : X) → k < length xs → x ≡ get_or xs k x →
    drop k xs ≡ x ∷ drop (k + 1) xs
left_at xs k x below is =
    drop-cons xs k x below ∙ ap (λ y. y ∷ drop (suc k) xs) (sym is) ∙ ap (λ n. x ∷ drop n xs) (sym (add-one k))

-- none are left
pub none_left : {X : Type 0} (xs : List X) (k : ℕ) → length xs ≤ k → drop k xs ≡ []
none_left [] zero past = refl
none_left [] (suc k) past = refl
none_left (x ∷ xs) zero past = absurd (omega arith)
none_left (x ∷ xs) (suc k) past = none_left xs k (omega arith)

-- whether further numbers agree after some
abbrev agreed : Option (List (Option ℕ)) → List ℕ → Bool
agreed None more = false
agreed (Some rest) more = agree rest more

by_test : (same others : Bool) (rest : Option (List (Option ℕ))) (more : List ℕ) → others ≡ agreed rest more →
    (same && others) ≡ agreed (if same then rest else None) more
by_test true others rest more is = is
by_test false others rest more is = refl

agree_on : (planned : List (Option ℕ)) (numbers more : List ℕ) → agree planned (numbers ++ more) ≡
    agreed (following planned numbers) more
agree_on planned [] more = refl
agree_on [] (v ∷ numbers) more = refl
agree_on (None ∷ planned) (v ∷ numbers) more = agree_on planned numbers more
agree_on (Some c ∷ planned) (v ∷ numbers) more =
    by_test (v == c) (agree planned (numbers ++ more)) (following planned numbers) more (agree_on planned numbers more)

never : (b : Bool) → (b && false) ≡ false
never true = refl
never false = refl

pub no_same : (a b : ℕ) (same : Bool) → (a == b) ≡ same → a ≢ b → same ≡ false
no_same a b true is other = absurd (other (eqb-true a b is))
no_same a b false is other = refl

-- a header of another tag
pub other_tag : (tags : List ℕ) (t : ℕ) (ts : List ℕ) (planned : List (Option ℕ)) (hs : List Header) (k : ℕ)
    (h : Header) → k < length hs →
    h ≡ get_or hs k h → tags ≡ t ∷ ts → t ≢ h.tag → alike tags planned (drop k hs) ≡ false
other_tag tags t ts planned hs k h below is first other =
    rw (first, left_at hs k h below is, no_same t h.tag (t == h.tag) refl other) refl

-- a header whose fields don't agree
pub disagrees : (tags : List ℕ) (planned : List (Option ℕ)) (hs : List Header) (k : ℕ) (h : Header) → k < length hs →
    h ≡ get_or hs k h →
    None ≡ following planned h.fields → alike tags planned (drop k hs) ≡ false
disagrees tags planned hs k h below is none =
    rw (left_at hs k h below is, agree_on planned h.fields (flat_map (λ h. h.fields) (drop (k + 1) hs)), ← none)
    (never (bytes_eq tags (map (λ h. h.tag) (h ∷ drop (k + 1) hs))))

-- a header as planned
pub agrees_on : (tags : List ℕ) (t : ℕ) (ts : List ℕ) (planned rest : List (Option ℕ)) (hs : List Header) (k : ℕ)
    (h : Header) → k < length hs →
    h ≡ get_or hs k h → tags ≡ t ∷ ts → t ≡ h.tag → Some rest ≡ following planned h.fields →
    alike ts rest (drop (k + 1) hs) ≡ alike tags planned (drop k hs)
agrees_on tags t ts planned rest hs k h below is first same some =
    sym (rw (
      first,
      left_at hs k h below is,
      agree_on planned h.fields (flat_map (λ h. h.fields) (drop (k + 1) hs)),
      ← some,
      eq-eqb t h.tag same,
    ) refl)

-- what stands for an element that isn't there plays no part
get_or_same : (xs : List ℕ) (k : ℕ) → k < length xs → get_or xs k (get_or xs k 0) ≡ get_or xs k 0
get_or_same [] k below = absurd (omega arith)
get_or_same (x ∷ xs) zero below = refl
get_or_same (x ∷ xs) (suc k) below = get_or_same xs k (omega arith)

-- the numbers from a place on
numbers_at : (xs : List ℕ) (k : ℕ) → k < length xs → drop k xs ≡ get_or xs k 0 ∷ drop (k + 1) xs
numbers_at xs k below = left_at xs k (get_or xs k 0) below (sym (get_or_same xs k below))

-- a header as planned, the tags being read by its place
pub goes_on : (tags : List ℕ) (planned rest : List (Option ℕ)) (hs : List Header) (k : ℕ) (h : Header) →
    k < length tags → k < length hs →
    h ≡ get_or hs k h → get_or tags k 0 ≡ h.tag → Some rest ≡ following planned h.fields →
    alike (drop (k + 1) tags) rest (drop (k + 1) hs) ≡ alike (drop k tags) planned (drop k hs)
goes_on tags planned rest hs k h tagged below is same some =
    agrees_on (drop k tags) (get_or tags k 0) (drop (k + 1) tags) planned rest hs k h below is
    (numbers_at tags k tagged) same some

-- a field after the last planned one
pub none_after : (planned : List (Option ℕ)) (fields : List ℕ) (k : ℕ) → k < length fields → planned ≡ [] →
    following planned (drop k fields) ≡ None
none_after planned fields k below none = rw (none, numbers_at fields k below) refl

-- no more tags nor headers: nothing more is planned, or some field is
pub ends_alike : (tags : List ℕ) (planned : List (Option ℕ)) (left : List Header) (empty : Bool) → left ≡ [] →
    tags ≡ [] →
    empty ≡ (length planned == 0) → empty ≡ alike tags planned left
ends_alike tags planned left empty none no_tags is = rw (none, no_tags) (is ∙ sym (no_fields planned))
  where
    some : (n m : ℕ) → n ≡ suc m → (n == 0) ≡ false
    some n m is = no_same n 0 (n == 0) refl (λ none. absurd (omega arith))

    no_fields : (planned : List (Option ℕ)) → agree planned [] ≡ (length planned == 0)
    no_fields [] = refl
    no_fields (Some c ∷ planned) = sym (some (length (Some c ∷ planned)) (length planned) (omega arith))
    no_fields (None ∷ planned) = sym (some (length {A = Option ℕ} (None ∷ planned)) (length planned) (omega arith))

-- a list without elements
pub empty_list : {X : Type 0} (xs : List X) → length xs ≡ 0 → xs ≡ []
empty_list [] none = refl
empty_list (x ∷ xs) none = absurd (omega arith)

-- all that is planned is left after a header without fields
pub all_after : (planned : List (Option ℕ)) (fields : List ℕ) → length fields ≡ 0 →
    Some planned ≡ following planned fields
all_after planned fields none = rw (empty_list fields none) refl
