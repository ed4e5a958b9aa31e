-- Lists of trees, one element further.
use Rattle.std.proofs.Common.{◌≡◌, ℕ, zero, suc, ◌+◌, ◌-◌, ◌<◌, true, List, [], ◌∷◌, ◌++◌, map, take, length, get_or}
use Rattle.std.proofs.Common.{slice_get, Option, Some, None, option_map, option_to_list, refl, sym, ap, ◌∙◌, arith}
use Rattle.std.proofs.Common.{filter_map, subst}
use Rattle.std.specs.List.{AllByRecursion, cons_option, last_or}
use Rattle.std.proofs.lemmas.List.{length-map, map_more, map-append}
use Rattle.std.proofs.lemmas.List.Elements.{filter_map-append}
use Rattle.file_mean.specs.Names.{numbers_among}

-- the trees of one more element
pub trees_more : {X A : Type 0} (tree : X → A) (xs : List X) (i : ℕ) (x : X) → i < length xs → x ≡ get_or xs i x →
    map tree (take (i + 1) xs) ≡ map tree (take i xs) ++ tree x ∷ []
trees_more tree xs i x within is = map_more tree xs i x within ∙ ap (λ y. map tree (take i xs) ++ tree y ∷ []) (sym is)

last_of : {X A : Type 0} (tree : X → A) (o : Option A) (y : X) (ys : List X) (x : X) →
    Some x ≡ slice_get (y ∷ ys) (length ys) →
    Some (tree x) ≡ last_or o (map tree (y ∷ ys))
last_of tree o y [] x e = ap (option_map tree) e
last_of tree o y (z ∷ zs) x e = last_of tree (Some (tree y)) z zs x e

-- the last element
pub last_there : {X A : Type 0} (tree : X → A) (first : X) (rest : List X) (x : X) →
    Some x ≡ slice_get rest (length rest - 1) →
    Some (tree x) ≡ last_or None (tree first ∷ map tree rest)
last_there tree first [] x e = absurd (cc e)
last_there tree first (y ∷ ys) x e =
    let n : suc (length ys) - 1 ≡ length ys = omega arith in
    last_of tree (Some (tree first)) y ys x (e ∙ ap (slice_get (y ∷ ys)) n)

pub map_take : {X A : Type 0} (tree : X → A) (n : ℕ) (xs : List X) → map tree (take n xs) ≡ take n (map tree xs)
map_take tree zero xs = refl
map_take tree (suc n) [] = refl
map_take tree (suc n) (x ∷ xs) = ap (λ ys. tree x ∷ ys) (map_take tree n xs)

-- all but the last, of one element and of more
pub front_none : {X A : Type 0} (tree : X → A) (first : X) (rest : List X) → length rest ≡ 0 →
    numbers_among true (tree first ∷ map tree rest) ≡ []
front_none tree first [] none = refl
front_none tree first (x ∷ rest) none = absurd (omega (arith, none))

pub front_more : {X A : Type 0} (tree : X → A) (first : X) (rest inner : List X) → 0 < length rest →
    inner ≡ take (length rest - 1) rest → tree first ∷ map tree inner ≡ numbers_among true (tree first ∷ map tree rest)
front_more tree first [] inner some is = absurd (omega (arith, some))
front_more tree first (x ∷ rest) inner some is =
    let n : suc (length rest) - 1 ≡ length rest = omega arith in
    let m : suc (suc (length (map tree rest))) - 1 ≡ suc (length rest) =
    ap (λ k. suc (suc k) - 1) (length-map rest tree) ∙ two (length rest) in
    ap (λ l. tree first ∷ map tree l) (is ∙ ap (λ k. take k (x ∷ rest)) n)
    ∙ (ap (λ l. tree first ∷ l) (map_take tree (length rest) (x ∷ rest))
    ∙ ap (λ k. take k (tree first ∷ tree x ∷ map tree rest)) (sym m))
  where
    two : (k : ℕ) → suc (suc k) - 1 ≡ suc k
    two k = omega arith

one_kept : {B V : Type 0} (shown : V → B) (item : Option V) → map shown (option_to_list item) ≡
    cons_option (option_map shown item) []
one_kept shown None = refl
one_kept shown (Some x) = refl

-- what is shown of one more element, if it is kept
pub kept_more : {X A B V : Type 0} (tree : X → A) (keep : A → Option B) (shown : V → B) (xs : List X) (i : ℕ) (x : X)
    (all pushed : List V) (item : Option V) → i < length xs → x ≡ get_or xs i x →
    option_map shown item ≡ keep (tree x) →
    map shown all ≡ filter_map keep (map tree (take i xs)) → pushed ≡ all ++ option_to_list item →
    map shown pushed ≡ filter_map keep (map tree (take (i + 1) xs))
kept_more tree keep shown xs i x all pushed item within is same so_far push =
    ap (map shown) push
    ∙ (map-append shown all (option_to_list item)
    ∙ (ap (λ ys. ys ++ map shown (option_to_list item)) so_far
    ∙ (ap (λ ys. filter_map keep (map tree (take i xs)) ++ ys) (one_kept shown item ∙ ap (λ o. cons_option o []) same)
    ∙ (sym (filter_map-append keep (map tree (take i xs)) (tree x ∷ []))
    ∙ ap (filter_map keep) (sym (trees_more tree xs i x within is))))))

-- what is made of one more element
pub made_more : {X A B V : Type 0} (tree : X → A) (make : A → B) (shown : V → B) (xs : List X) (i : ℕ) (x : X)
    (all pushed : List V) (item : V) → i < length xs → x ≡ get_or xs i x → shown item ≡ make (tree x) →
    map shown all ≡ map make (map tree (take i xs)) → pushed ≡ all ++ item ∷ [] →
    map shown pushed ≡ map make (map tree (take (i + 1) xs))
made_more tree make shown xs i x all pushed item within is same so_far push =
    ap (map shown) push
    ∙ (map-append shown all (item ∷ [])
    ∙ (ap (λ ys. ys ++ shown item ∷ []) so_far
    ∙ (ap (λ y. map make (map tree (take i xs)) ++ y ∷ []) same
    ∙ (sym (map-append make (map tree (take i xs)) (tree x ∷ []))
    ∙ ap (map make) (sym (trees_more tree xs i x within is))))))

-- what holds of what is made of each holds of that of one
pub holds_at : {X A : Type 0} (P : A → Type 0) (tree : X → A) (xs : List X) (i : ℕ) (x : X) → i < length xs →
    x ≡ get_or xs i x →
    AllByRecursion P (map tree xs) → P (tree x)
holds_at P tree [] i x within is all = absurd (omega (arith, within))
holds_at P tree (y ∷ xs) zero x within is all = subst (λ z. P (tree z)) (sym is) all.0
holds_at P tree (y ∷ xs) (suc i) x within is all = holds_at P tree xs i x (omega (arith, within)) is all.1

-- the last of what is made of each
pub last_map : {A B : Type 0} (f : A → B) (o : Option A) (xs : List A) → option_map f (last_or o xs) ≡
    last_or (option_map f o) (map f xs)
last_map f o [] = refl
last_map f o (x ∷ xs) = last_map f (Some x) xs
