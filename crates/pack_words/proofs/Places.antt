-- Places of names in lists.
use Rattle.std.proofs.Common.{◌≡◌, ℕ, zero, suc, ◌+◌, ◌-◌, ◌<◌, ◌≤◌, Bool, true, false, not, if◌then◌else◌, nat_lt}
use Rattle.std.proofs.Common.{List, [], ◌∷◌, codes, map, length, get_or, Option, Some, None, refl, sym, ap, ap₂, ◌∙◌}
use Rattle.std.proofs.Common.{arith}
use Rattle.std.proofs.lemmas.List.{length-map, get_or-map}
use Rattle.std.proofs.lemmas.Bool.{lt-ltb, le-ltb, ltb-true, ltb-false}
use Rattle.std.specs.List.{position, position_or_len}
use Rattle.std.specs.Option.{option_map_or}
use Rattle.std.specs.Prelude.{bytes_eq, slice_get, slice_index_or}
use Rattle.layer_mean.specs.Headers.{header_none}
use Rattle.layer_mean.specs.Tree.{CellTree, LayerTree}
use Rattle.pack_mean.specs.Named.{place_of}
use Rattle.trace_mean.specs.Fuse.{fields_of}
use Rattle.typed_layer.specs.View.{cell_tree, header_tree}
use Rattle.typed_layer.specs.declared.tree.Cell.{Cell}
use Rattle.typed_layer.specs.declared.tree.HeaderForm.{HeaderForm}

-- a place among what is made of each
or_len_map : {X A : Type 0} (tree : X → A) (test : A → Bool) (xs : List X) →
    position_or_len test (map tree xs) ≡ position_or_len (λ x. test (tree x)) xs
or_len_map tree test [] = refl
or_len_map tree test (x ∷ xs) = ap (λ k. if not (test (tree x)) then 1 + k else 0) (or_len_map tree test xs)

position_map : {X A : Type 0} (tree : X → A) (test : A → Bool) (xs : List X) →
    position test (map tree xs) ≡ position (λ x. test (tree x)) xs
position_map tree test xs = ap₂ (λ k n. if nat_lt k n then Some k else None) (or_len_map tree test xs)
    (length-map xs tree)

pub cell_found : (word : List ℕ) (cells : List Cell) (place : Option ℕ) →
    place ≡ position (λ (c : Cell). bytes_eq word c.name) cells →
    place ≡ place_of word (map (λ (c : CellTree). c.name) (map cell_tree cells))
cell_found word cells place is =
    is ∙ sym (position_map (λ (c : CellTree). c.name) (bytes_eq word) (map cell_tree cells)
    ∙ position_map cell_tree (λ (c : CellTree). bytes_eq word c.name) cells)

header_found : (word : List ℕ) (headers : List HeaderForm) →
    position (λ (h : HeaderForm). bytes_eq word h.name) headers ≡
    place_of word (map (λ h. h.name) (map header_tree headers))
header_found word headers =
    sym (position_map (λ h. h.name) (bytes_eq word) (map header_tree headers)
    ∙ position_map header_tree (λ h. bytes_eq word h.name) headers)

-- the place of the first, and of one after another
first : {X : Type 0} (p : X → Bool) (x : X) (xs : List X) → p x ≡ true → Some 0 ≡ position p (x ∷ xs)
first p x xs passes = sym (
    ap (λ b. let k = if not b then 1 + position_or_len p xs else 0 in
    if nat_lt k (suc (length xs)) then Some k else None) passes
    ∙ ap (λ b. if b then Some 0 else None) (lt-ltb 0 (suc (length xs)) (omega arith)))

chosen : (k : ℕ) (b c : Bool) → b ≡ c → (if b then Some k else None) ≡ (if c then Some k else None)
chosen k b c e = ap (λ (z : Bool). if z then Some k else None) e

later_place : (k n : ℕ) (b : Bool) → nat_lt k n ≡ b →
    (if nat_lt (1 + k) (suc n) then Some (1 + k) else None) ≡ (if b then Some (k + 1) else None)
later_place k n true is =
    let below : 1 + k < suc n = omega (arith, ltb-true k n is) in
    let same : 1 + k ≡ k + 1 = omega arith in
    chosen (1 + k) (nat_lt (1 + k) (suc n)) true (lt-ltb (1 + k) (suc n) below) ∙ ap Some same
later_place k n false is =
    let above : suc n ≤ 1 + k = omega (arith, ltb-false k n is) in
    chosen (1 + k) (nat_lt (1 + k) (suc n)) false (le-ltb (1 + k) (suc n) above)

abbrev next : Option ℕ → Option ℕ
next None = None
next (Some k) = Some (k + 1)

next_if : (b : Bool) (k : ℕ) → (if b then Some (k + 1) else None) ≡ next (if b then Some k else None)
next_if true k = refl
next_if false k = refl

after_first : {X : Type 0} (p : X → Bool) (x : X) (xs : List X) → p x ≡ false →
    position p (x ∷ xs) ≡ next (position p xs)
after_first p x xs fails =
    ap (λ b. let k = if not b then 1 + position_or_len p xs else 0 in
    if nat_lt k (suc (length xs)) then Some k else None) fails
    ∙ later_place (position_or_len p xs) (length xs) (nat_lt (position_or_len p xs) (length xs)) refl
    ∙ next_if (nat_lt (position_or_len p xs) (length xs)) (position_or_len p xs)

pub none_first : (word : List ℕ) (headers : List HeaderForm) → bytes_eq word (codes "none") ≡ true →
    Some 0 ≡ place_of word (map (λ h. h.name) (header_none ∷ map header_tree headers))
none_first word headers is = first (bytes_eq word) (codes "none") (map (λ h. h.name) (map header_tree headers)) is

pub header_after : (word : List ℕ) (headers : List HeaderForm) (k : ℕ) → bytes_eq word (codes "none") ≡ false →
    Some k ≡ position (λ (h : HeaderForm). bytes_eq word h.name) headers →
    Some (k + 1) ≡ place_of word (map (λ h. h.name) (header_none ∷ map header_tree headers))
header_after word headers k other is = ap next (is ∙ header_found word headers)
    ∙ sym (after_first (bytes_eq word) (codes "none") (map (λ h. h.name) (map header_tree headers)) other)

pub no_header : (word : List ℕ) (headers : List HeaderForm) → bytes_eq word (codes "none") ≡ false →
    None ≡ position (λ (h : HeaderForm). bytes_eq word h.name) headers →
    None ≡ place_of word (map (λ h. h.name) (header_none ∷ map header_tree headers))
no_header word headers other is = ap next (is ∙ header_found word headers)
    ∙ sym (after_first (bytes_eq word) (codes "none") (map (λ h. h.name) (map header_tree headers)) other)

-- a declared header stands after `none`
later_get : {X : Type 0} (x : X) (xs : List X) (k : ℕ) → 0 < k → slice_get (x ∷ xs) k ≡ slice_get xs (k - 1)
later_get x xs zero lt = absurd (omega (arith, lt))
later_get x xs (suc k) lt = let same : k ≡ suc k - 1 = omega arith in ap (slice_get xs) same

pub fields_after : (layer : LayerTree) (tag number count : ℕ) → 0 < tag → number ≡ tag - 1 →
    count ≡ option_map_or (λ h. h.fields) (slice_get layer.headers number) 0 → count ≡ fields_of layer tag
fields_after layer tag number count lt is found =
    found ∙ ap (λ h. option_map_or (λ h. h.fields) h 0)
    (ap (slice_get layer.headers) is ∙ sym (later_get header_none layer.headers tag lt))

-- what is made of an element
pub made_at : {X A : Type 0} (f : X → A) (xs : List X) (k : ℕ) (x : X) (d : A) → k < length xs → x ≡ get_or xs k x →
    f x ≡ slice_index_or (map f xs) k d
made_at f xs k x d lt is = ap f is ∙ sym (get_or-map f xs k x d lt)
