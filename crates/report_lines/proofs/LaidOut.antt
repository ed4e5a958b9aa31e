-- The texts before the numbers of declared headers, one after the other.
use Rattle.std.proofs.Common.{◌≡◌, ◌≢◌, ◌++◌, ◌∷◌, ◌+◌, ◌-◌, ◌<◌, ◌≤◌, ℕ, zero, suc, Bool, true, false, List, [], arith}
use Rattle.std.proofs.Common.{length, get_or, take, drop, refl, sym, ap, subst, ◌∙◌, append_assoc, append-nil, add-zero}
use Rattle.std.proofs.Common.{zero-add}
use Rattle.std.proofs.lemmas.Grind.{flat_map-append}
use Rattle.std.proofs.lemmas.Bool.{ltb-true, ltb-false, lt-ltb}
use Rattle.std.proofs.lemmas.List.{get_or_append_left, length-append, length-map, take_more, take-append-drop}
use Rattle.std.specs.Prelude.{nat_lt, if◌then◌else◌}
use Rattle.std.proofs.Math.Seq.{drop-cons, get_or-append_seam, get_or-append-add}
use Rattle.std.specs.List.{flat_map}
use Rattle.msg_core.specs.declared.message.Header.{Header}
use Rattle.layer_mean.specs.Tree.{LayerTree}
use Rattle.run_mean.specs.Text.{layer_number}
use Rattle.typed_layer.specs.View.{header_tree, layer_tree}
use Rattle.typed_layer.specs.declared.tree.TypedLayer.{TypedLayer}
use Rattle.report_lines.specs.Nones.{header_front}
use Rattle.report_lines.specs.Fronts.{AddFronts, AreAllFronts, AreFronts, below, declared_headers, ends_from, header_of}
use Rattle.report_lines.specs.Fronts.{headers_at, headers_to_tag, tags_at}
use Rattle.report_lines.proofs.Nones.{cut_parts, suc_is}

ends_count : {X Y : Type 0} (f : X → List Y) (from : ℕ) (xs : List X) → length (ends_from f from xs) ≡ length xs + 1
ends_count f from [] = refl
ends_count f from (x ∷ xs) = let before = ends_count f (from + length (f x)) xs in omega (arith, before)

-- one more piece ends where all end
ends_last : {X Y : Type 0} (f : X → List Y) (from : ℕ) (xs : List X) (x : X) →
    ends_from f from (xs ++ x ∷ []) ≡ ends_from f from xs ++ (from + length (flat_map f (xs ++ x ∷ []))) ∷ []
ends_last f from [] x = ap (λ ys. from ∷ (from + length ys) ∷ []) (sym (append-nil (f x)))
ends_last f from (y ∷ xs) x =
    let all = length-append (f y) (flat_map f (xs ++ x ∷ [])) in
    ap (λ ends. from ∷ ends) (ends_last f (from + length (f y)) xs x
    ∙ ap (λ end. ends_from f (from + length (f y)) xs ++ end ∷ []) (omega (arith, all)))

-- where a piece begins
ends_at : {X Y : Type 0} (f : X → List Y) (from : ℕ) (xs : List X) (k d : ℕ) → k ≤ length xs →
    get_or (ends_from f from xs) k d ≡ from + length (flat_map f (take k xs))
ends_at f from [] zero d le = sym (add-zero from)
ends_at f from [] (suc k) d le = absurd (omega (arith, le))
ends_at f from (x ∷ xs) zero d le = sym (add-zero from)
ends_at f from (x ∷ xs) (suc k) d le =
    let all = length-append (f x) (flat_map f (take k xs)) in
    ends_at f (from + length (f x)) xs k d (omega (arith, le)) ∙ omega (arith, all)

-- what lies between a beginning and the next one: the piece
pub record Piece (texts : List ℕ) (from to : ℕ) (piece : List ℕ) : Type 0 where
  pub ordered : from ≤ to
  pub inside : to ≤ length texts
  pub is : take (to - from) (drop from texts) ≡ piece

pub piece_at : {X : Type 0} (f : X → List ℕ) (xs : List X) (k : ℕ) (d : X) (texts ends : List ℕ) (from to e e' : ℕ) →
    texts ≡ flat_map f xs →
    ends ≡ ends_from f 0 xs → k < length xs → from ≡ get_or ends k e → to ≡ get_or ends (k + 1) e' →
    Piece texts from to (f (get_or xs k d))
piece_at f xs k d texts ends from to e e' are ended lt begin end =
    let x = get_or xs k d in
    let a = flat_map f (take k xs) in
    let c = flat_map f (drop (suc k) xs) in
    let more : flat_map f (take (k + 1) xs) ≡ a ++ f x =
    ap (flat_map f) (take_more xs k d lt) ∙ flat_map-append f (take k xs) (x ∷ []) ∙
    ap (λ ys. a ++ ys) (append-nil (f x)) in
    let whole : texts ≡ (a ++ f x) ++ c =
    are ∙ ap (flat_map f) (sym (take-append-drop k xs)) ∙ flat_map-append f (take k xs) (drop k xs)
    ∙ ap (λ ys. a ++ flat_map f ys) (drop-cons xs k d lt) ∙ sym (append_assoc a (f x) c) in
    let is_from : from ≡ length a = begin ∙ ap (λ es. get_or es k e) ended ∙ ends_at f 0 xs k e (omega (arith, lt)) ∙
    zero-add (length a) in
    let is_to : to ≡ length (a ++ f x) =
    end ∙ ap (λ es. get_or es (k + 1) e') ended ∙ ends_at f 0 xs (k + 1) e' (omega (arith, lt))
    ∙ zero-add (length (flat_map f (take (k + 1) xs))) ∙ ap length more in
    let both = length-append a (f x) in
    let all = ap length whole ∙ length-append (a ++ f x) c in
    record {
      ordered = omega (arith, is_from, is_to, both);
      inside = omega (arith, is_to, all);
      is = (λ i. take (is_to i - is_from i) (drop (is_from i) (whole i))) ∙ cut_parts a (f x) c;
    }

-- one more header
pub fronts_more : (stack : List LayerTree) (h : Header) (texts begins new_texts new_begins : List ℕ) (count : ℕ) →
    new_texts ≡ texts ++ header_front stack h → count ≡ length new_texts → new_begins ≡ begins ++ count ∷ [] →
    AddFronts stack (h ∷ []) texts begins new_texts new_begins
fronts_more stack h texts begins new_texts new_begins count put counted push = λ hs are.
    let all : new_texts ≡ flat_map (header_front stack) (hs ++ h ∷ []) =
    put ∙ ap (λ ts. ts ++ header_front stack h) are.0
    ∙ sym (flat_map-append (header_front stack) hs (h ∷ []) ∙
    ap (λ ys. flat_map (header_front stack) hs ++ ys) (append-nil (header_front stack h))) in (
      all,
      push ∙ (λ i. are.1 i ++ counted i ∷ []) ∙ ap (λ ts. ends_from (header_front stack) 0 hs ++ length ts ∷ []) all
          ∙ ap (λ end. ends_from (header_front stack) 0 hs ++ end ∷ [])
          (sym (zero-add (length (flat_map (header_front stack) (hs ++ h ∷ [])))))
          ∙ sym (ends_last (header_front stack) 0 hs h),
    )

-- the headers of one more place
pub place_more : (stack : List LayerTree) (place tags : ℕ)
    (texts begins firsts new_texts new_begins new_firsts : List ℕ) (count : ℕ) →
    tags ≡ tags_at stack place → AddFronts stack (headers_to_tag place tags) texts begins new_texts new_begins →
    count ≡ length new_begins - 1 →
    new_firsts ≡ firsts ++ count ∷ [] → AreAllFronts stack place texts begins firsts →
    AreAllFronts stack (place + 1) new_texts new_begins new_firsts
place_more stack place tags texts begins firsts new_texts new_begins new_firsts count is add counted push are =
    let more : declared_headers stack place ++ headers_to_tag place tags ≡ declared_headers stack (suc place) =
    ap (λ n. declared_headers stack place ++ headers_to_tag place n) is
    ∙ sym (flat_map-append (headers_at stack) (below place) (place ∷ []) ∙
    ap (λ ys. declared_headers stack place ++ ys) (append-nil (headers_at stack place))) in
    let fronts : AreFronts stack (declared_headers stack (suc place)) new_texts new_begins =
    subst (λ hs. AreFronts stack hs new_texts new_begins) more (add (declared_headers stack place) are.0) in
    let all = ap length fronts.1 ∙ ends_count (header_front stack) 0 (declared_headers stack (suc place)) in
    let number : count ≡ length (declared_headers stack (suc place)) = omega (arith, counted, all) in
    let firsts : new_firsts ≡ ends_from (headers_at stack) 0 (below (suc place)) =
    push ∙ (λ i. are.1 i ++ number i ∷ [])
    ∙ ap (λ end. ends_from (headers_at stack) 0 (below place) ++ end ∷ [])
    (sym (zero-add (length (declared_headers stack (suc place)))))
    ∙ sym (ends_last (headers_at stack) 0 (below place) place) in
    subst (λ n. AreAllFronts stack n new_texts new_begins new_firsts) (suc_is place) (fronts, firsts)

-- the headers of a place
tagged_count : (place n : ℕ) → length (headers_to_tag place n) ≡ n
tagged_count place zero = refl
tagged_count place (suc n) =
    let all = length-append (headers_to_tag place n) (header_of place (suc n) ∷ []) in
    let before = tagged_count place n in
    omega (arith, all, before)

below_count : (n : ℕ) → length (below n) ≡ n
below_count zero = refl
below_count (suc n) = let all = length-append (below n) (n ∷ []) in let before = below_count n in
    omega (arith, all, before)

-- the places from k on
others : (k r : ℕ) → List ℕ
others k zero = []
others k (suc r) = others k r ++ (k + r) ∷ []

parted : (k r : ℕ) → below (k + r) ≡ below k ++ others k r
unfolding others
parted k zero = ap below (add-zero k) ∙ sym (append-nil (below k))
parted k (suc r) =
    ap below (add-suc k r) ∙ ap (λ ps. ps ++ (k + r) ∷ []) (parted k r) ∙
    append_assoc (below k) (others k r) ((k + r) ∷ [])
  where
    add-suc : (k r : ℕ) → k + suc r ≡ suc (k + r)
    add-suc k r = omega arith

-- where what is after some pieces begins
ends_seam : {X Y : Type 0} (f : X → List Y) (from : ℕ) (xs ys : List X) (d : ℕ) →
    get_or (ends_from f from (xs ++ ys)) (length xs) d ≡ from + length (flat_map f xs)
ends_seam f from [] [] d = sym (add-zero from)
ends_seam f from [] (y ∷ ys) d = sym (add-zero from)
ends_seam f from (x ∷ xs) ys d =
    let all = length-append (f x) (flat_map f xs) in
    ends_seam f (from + length (f x)) xs ys d ∙ omega (arith, all)

tagged_at : (place n i : ℕ) (d : Header) → i < n → get_or (headers_to_tag place n) i d ≡ header_of place (suc i)
tagged_at place zero i d lt = absurd (omega (arith, lt))
tagged_at place (suc n) i d lt = by_test (nat_lt i n) refl (tagged_at place n i d)
  where
    by_test : (inside : Bool) → nat_lt i n ≡ inside →
        (i < n → get_or (headers_to_tag place n) i d ≡ header_of place (suc i)) →
        get_or (headers_to_tag place n ++ header_of place (suc n) ∷ []) i d ≡ header_of place (suc i)
    by_test true is before =
        let less = ltb-true i n is in
        let count = tagged_count place n in
        get_or_append_left (headers_to_tag place n) (header_of place (suc n) ∷ []) d i (omega (arith, less, count)) ∙
        before less
    by_test false is before =
        let most = ltb-false i n is in
        let count = tagged_count place n in
        let same : i ≡ n = omega (arith, most, lt) in
        let seam : i ≡ length (headers_to_tag place n) = omega (arith, same, count) in
        ap (λ k. get_or (headers_to_tag place n ++ header_of place (suc n) ∷ []) k d) seam
        ∙ get_or-append_seam (headers_to_tag place n) (header_of place (suc n)) [] d
        ∙ ap (λ k. header_of place (suc k)) (sym same)

module _ (stack : List LayerTree) (n : ℕ) (texts begins firsts : List ℕ)
    (are : AreAllFronts stack n texts begins firsts) where
  pub firsts_count : length firsts ≡ n + 1
  firsts_count = ap length are.1 ∙ ends_count (headers_at stack) 0 (below n) ∙ ap (λ k. k + 1) (below_count n)

  pub begins_count : length begins ≡ length (declared_headers stack n) + 1
  begins_count = ap length are.0.1 ∙ ends_count (header_front stack) 0 (declared_headers stack n)

  pub first_at : (k d : ℕ) → k ≤ n → get_or firsts k d ≡ length (declared_headers stack k)
  first_at k d le =
      let rest = n - k in
      let whole : n ≡ k + rest = omega (arith, le) in
      let count = below_count k in
      ap (λ xs. get_or xs k d) are.1
      ∙ ap (λ places. get_or (ends_from (headers_at stack) 0 places) k d) (ap below whole ∙ parted k rest)
      ∙ ap (λ i. get_or (ends_from (headers_at stack) 0 (below k ++ others k rest)) i d) (sym count)
      ∙ ends_seam (headers_at stack) 0 (below k) (others k rest) d ∙ zero-add (length (declared_headers stack k))

  pub front_at : (k e e' from to : ℕ) → k < length (declared_headers stack n) → from ≡ get_or begins k e →
      to ≡ get_or begins (k + 1) e' →
      Piece texts from to (header_front stack (get_or (declared_headers stack n) k (header_of 0 0)))
  front_at k e e' from to lt begin end =
      piece_at (header_front stack) (declared_headers stack n) k (header_of 0 0) texts begins from to e e' are.0.0
      are.0.1 lt
      begin end

-- the headers of a place among those of all
next_first : (stack : List LayerTree) (place : ℕ) → declared_headers stack (place + 1) ≡ declared_headers stack place ++
    headers_at stack place
next_first stack place =
    ap (declared_headers stack) (sym (suc_is place))
    ∙ flat_map-append (headers_at stack) (below place) (place ∷ []) ∙
    ap (λ ys. declared_headers stack place ++ ys) (append-nil (headers_at stack place))

all_parted : (stack : List LayerTree) (n k : ℕ) → k ≤ n → declared_headers stack n ≡ declared_headers stack k ++
    flat_map (headers_at stack) (others k (n - k))
all_parted stack n k le =
    let whole : n ≡ k + (n - k) = omega (arith, le) in
    ap (declared_headers stack) whole ∙ ap (flat_map (headers_at stack)) (parted k (n - k)) ∙
    flat_map-append (headers_at stack) (below k) (others k (n - k))

pub firsts_ordered : (stack : List LayerTree) (place first next : ℕ) → first ≡ length (declared_headers stack place) →
    next ≡ length (declared_headers stack (place + 1)) → first ≤ next
firsts_ordered stack place first next is is_next =
    let all = ap length (next_first stack place) ∙ length-append (declared_headers stack place) (headers_at stack place)
    in
    omega (arith, is, is_next, all)

pub number_is : (stack : List LayerTree) (n place tag first next following : ℕ) → place < n → tag ≢ 0 →
    first ≡ length (declared_headers stack place) →
    next ≡ length (declared_headers stack (place + 1)) → following ≡ tag - 1 → following < next - first →
    (first + following < length (declared_headers stack n)) ×
    (get_or (declared_headers stack n) (first + following) (header_of 0 0) ≡ header_of place tag)
number_is stack n place tag first next following lt some is is_next back less =
    let a = declared_headers stack place in
    let b = headers_at stack place in
    let c = flat_map (headers_at stack) (others (place + 1) (n - (place + 1))) in
    let whole : declared_headers stack n ≡ (a ++ b) ++ c =
    all_parted stack n (place + 1) (omega (arith, lt)) ∙ ap (λ ys. ys ++ c) (next_first stack place) in
    let joined = length-append a b in
    let all = ap length whole ∙ length-append (a ++ b) c in
    let next_is = is_next ∙ ap length (next_first stack place) in
    let count = tagged_count place (tags_at stack place) in
    let inside : following < length b = omega (arith, less, next_is, joined, is) in
    let tag_is : suc following ≡ tag = omega (arith, back, some) in (
      omega (arith, all, joined, is, inside),
      ap (λ ys. get_or ys (first + following) (header_of 0 0)) (whole ∙ append_assoc a b c)
          ∙ ap (λ k. get_or (a ++ (b ++ c)) (k + following) (header_of 0 0)) is
          ∙ get_or-append-add a (b ++ c) following (header_of 0 0)
          ∙ get_or_append_left b c (header_of 0 0) following inside
          ∙ tagged_at place (tags_at stack place) following (header_of 0 0) (omega (arith, inside, count))
          ∙ ap (header_of place) tag_is,
    )

-- how many headers of a place are laid out
pub tags_all : (stack : List LayerTree) (place count : ℕ) → count ≡ length (layer_number stack place).headers →
    count < 255 → count ≡ tags_at stack place
tags_all stack place count is lt =
    sym (ap (λ n. if nat_lt n 255 then n else 255) (sym is) ∙
    ap (λ few. if few then count else 255) (lt-ltb count 255 lt))

pub tags_most : (stack : List LayerTree) (place count : ℕ) → count ≡ length (layer_number stack place).headers →
    255 ≤ count → 255 ≡ tags_at stack place
tags_most stack place count is most =
    sym (ap (λ n. if nat_lt n 255 then n else 255) (sym is) ∙ by_test (nat_lt count 255) refl)
  where
    by_test : (few : Bool) → nat_lt count 255 ≡ few → (if few then count else 255) ≡ 255
    by_test true is = let lt = ltb-true count 255 is in absurd (omega (arith, lt, most))
    by_test false is = refl

pub headers_count : (stack : List LayerTree) (place : ℕ) (layer : TypedLayer) (count : ℕ) →
    layer_tree layer ≡ layer_number stack place →
    count ≡ length layer.headers.items → count ≡ length (layer_number stack place).headers
headers_count stack place layer count is counted =
    counted ∙ sym (length-map layer.headers.items header_tree) ∙ ap (λ l. length l.headers) is

-- the stack that a type's invariant speaks of is the one that contracts see
pub seen : (s stack : List LayerTree) (texts begins firsts : List ℕ) → s ≡ stack →
    AreAllFronts s (length s) texts begins firsts →
    AreAllFronts stack (length stack) texts begins firsts
seen s stack texts begins firsts same are = subst (λ t. AreAllFronts t (length t) texts begins firsts) same are

pub place_seen : (s stack : List LayerTree) (place : ℕ) (texts begins firsts new_texts new_begins new_firsts : List ℕ) →
    s ≡ stack →
    (AreAllFronts s place texts begins firsts → AreAllFronts s (place + 1) new_texts new_begins new_firsts) →
    AreAllFronts stack place texts begins firsts → AreAllFronts stack (place + 1) new_texts new_begins new_firsts
place_seen s stack place texts begins firsts new_texts new_begins new_firsts same more =
    subst (λ t. AreAllFronts t place texts begins firsts → AreAllFronts t (place + 1) new_texts new_begins new_firsts)
    same more
