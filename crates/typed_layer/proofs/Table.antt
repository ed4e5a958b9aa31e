-- The table of handlers tells what a search of them would.
use Rattle.std.proofs.Common.{arith, ◌≡◌, refl, sym, ◌∙◌, ap, subst, ℕ, zero, suc, ◌+◌, ◌-◌, ◌*◌, ◌<◌, ◌≤◌, ◌==◌, ◌&&◌}
use Rattle.std.proofs.Common.{Bool, true, false, if◌then◌else◌, List, [], ◌∷◌, All, map, length, drop, replicate}
use Rattle.std.proofs.Common.{slice_get, slice_set, Option, Some, None}
use Rattle.std.specs.List.{find, range_with_len}
use Rattle.std.specs.Option.{option_map}
use Rattle.std.proofs.lemmas.List.Elements.{All-head, All-tail}
use Rattle.std.proofs.lemmas.Bool.{eqb-true, eq-eqb}
use Rattle.std.proofs.lemmas.List.FromFn.{length-map-range_with_len, get_or-map-range_with_len}
use Rattle.std.proofs.Math.ListN.{get_or}
use Rattle.std.proofs.lemmas.Nat.{same_from_place}
use Rattle.std.proofs.lemmas.Option.{slice_get_read}
use Rattle.std.proofs.Math.Dec.{eqb}
use denote.Enum.Declared.{tag_of}
use Rattle.layer_words.specs.declared.events.Dir.{Dir}
use Rattle.layer_words.specs.declared.events.Kind.{Kind}
use Rattle.layer_words.specs.declared.events.Kind.TheVariants.{Cast, Send, Timer, Suspect, Stable, Ack, Elect, Block}
use Rattle.layer_words.specs.declared.events.Kind.TheVariants.{BlockOk, Flushed, View, Leave}
use Rattle.layer_words.specs.declared.events.Dir.TheVariants.{Up, Down}
use Rattle.layer_words.specs.contracts.events.Dir as dir_row
use Rattle.layer_words.specs.contracts.events.Kind as kind_row
use Rattle.layer_mean.specs.Visit.{is_for}
use Rattle.typed_layer.specs.declared.tree.Handler.{Handler}
use Rattle.typed_layer.specs.View.{handler_tree}
use Rattle.typed_layer.specs.Table.{IsTagged, code, handler_code, entry_from, table_from}

ap2 : {A B C : Type 0} (f : A → B → C) {x y : A} {u v : B} → x ≡ y → u ≡ v → f x u ≡ f y v
ap2 f {x = x} {v = v} p q = ap (f x) q ∙ ap (λ z. f z v) p

kind_small : (kind : Kind) → tag_of kind_row.the_type kind < 12
kind_small Cast = omega arith
kind_small Send = omega arith
kind_small Timer = omega arith
kind_small Suspect = omega arith
kind_small Stable = omega arith
kind_small Ack = omega arith
kind_small Elect = omega arith
kind_small Block = omega arith
kind_small BlockOk = omega arith
kind_small Flushed = omega arith
kind_small View = omega arith
kind_small Leave = omega arith

dir_small : (dir : Dir) → tag_of dir_row.the_type dir < 2
dir_small Up = omega arith
dir_small Down = omega arith

-- A code is below the number of codes.
pub code_small : (dir : Dir) (kind : Kind) (tag : ℕ) → tag < 8 → code dir kind tag < 192
code_small dir kind tag small = let d = dir_small dir in let k = kind_small kind in omega (arith, d, k, small)

-- Two tests that each imply the other are one.
tests_same : (x y : Bool) → (x ≡ true → y ≡ true) → (y ≡ true → x ≡ true) → x ≡ y
tests_same true y f g = sym (f refl)
tests_same false true f g = g refl
tests_same false false f g = refl

and_parts : (x y : Bool) → (x && y) ≡ true → (x ≡ true) × (y ≡ true)
and_parts true true e = (refl, refl)
and_parts true false e = absurd (cc e)
and_parts false y e = absurd (cc e)

-- Handlers of one code are for the same events.
pub code_is_for : (h : Handler) (dir : Dir) (kind : Kind) (tag : ℕ) → h.tag < 8 → tag < 8 →
    (handler_code h == code dir kind tag) ≡ is_for dir kind tag (handler_tree h)
code_is_for h dir kind tag small tag_small =
    let d = tag_of dir_row.the_type h.direction in
    let k = tag_of kind_row.the_type h.kind in
    let e = tag_of dir_row.the_type dir in
    let l = tag_of kind_row.the_type kind in
    tests_same (handler_code h == code dir kind tag) (is_for dir kind tag (handler_tree h))
    (λ same.
    let p = same_from_place (d * 12 + k) h.tag (e * 12 + l) tag 8 small tag_small (eqb-true _ _ same) in
    let q = same_from_place d k e l 12 (kind_small h.kind) (kind_small kind) p.0 in
    rw (eq-eqb d e q.0, eq-eqb k l q.1, eq-eqb h.tag tag p.1) refl)
    (λ same.
    let p = and_parts (eqb d e && eqb k l) (eqb h.tag tag) same in
    let q = and_parts (eqb d e) (eqb k l) p.0 in
    let a = eqb-true d e q.0 in
    let b = eqb-true k l q.1 in
    let c = eqb-true h.tag tag p.1 in
    eq-eqb (handler_code h) (code dir kind tag) (omega (arith, a, b, c)))

-- The handler that a table entry names.
abbrev named_by : ℕ → List Handler → ℕ → Option Handler
named_by k handlers n = slice_get handlers (n - k)

zero_less : (n : ℕ) → n - n ≡ 0
zero_less n = omega arith

sums : (x y : ℕ) → x + 1 + y ≡ x + suc y
sums x y = omega arith

plain_sum : (n : ℕ) → 0 + n ≡ n
plain_sum n = omega arith

-- An entry is the first handler that a search by code finds, or none.
entry_finds : (k : ℕ) (handlers : List Handler) (dir : Dir) (kind : Kind) (tag : ℕ) → tag < 8 → All IsTagged handlers →
    k + length handlers ≤ 255 →
    (k ≤ entry_from k handlers (code dir kind tag)) ×
    (option_map handler_tree (named_by k handlers (entry_from k handlers (code dir kind tag))) ≡
    find (is_for dir kind tag) (map handler_tree handlers))
entry_finds k [] dir kind tag small tagged few = (omega (arith, few), refl)
entry_finds k (h ∷ rest) dir kind tag small tagged few =
    let more = entry_finds (suc k) rest dir kind tag small (All-tail IsTagged h rest tagged) (omega (arith, few)) in
    go (handler_code h == code dir kind tag) (is_for dir kind tag (handler_tree h))
    (code_is_for h dir kind tag (All-head IsTagged h rest tagged) small) more
  where
    go : (x y : Bool) → x ≡ y →
        (suc k ≤ entry_from (suc k) rest (code dir kind tag)) ×
        (option_map handler_tree (named_by (suc k) rest (entry_from (suc k) rest (code dir kind tag))) ≡
        find (is_for dir kind tag) (map handler_tree rest)) →
        (k ≤ (if x then k else entry_from (suc k) rest (code dir kind tag))) ×
        (option_map handler_tree (named_by k (h ∷ rest) (if x then k else entry_from (suc k) rest (code dir kind tag)))
        ≡
        (if y then Some (handler_tree h) else find (is_for dir kind tag) (map handler_tree rest)))
    go true true e more = (omega arith, ap (λ n. option_map handler_tree (slice_get (h ∷ rest) n)) (zero_less k))
    go false false e more =
        let n = entry_from (suc k) rest (code dir kind tag) in
        let step : n - k ≡ suc (n - suc k) = omega (arith, more.0) in
        (omega (arith, more.0), ap (λ m. option_map handler_tree (slice_get (h ∷ rest) m)) step ∙ more.1)
    go true false e more = absurd (cc e)
    go false true e more = absurd (cc e)

-- What the table has at a code finds the handler.
pub table_finds : (handlers : List Handler) (dir : Dir) (kind : Kind) (tag : ℕ) → tag < 8 → All IsTagged handlers →
    length handlers ≤ 64 →
    option_map handler_tree (slice_get handlers (entry_from 0 handlers (code dir kind tag))) ≡
    find (is_for dir kind tag) (map handler_tree handlers)
table_finds handlers dir kind tag small tagged few =
    let found = entry_finds 0 handlers dir kind tag small tagged (omega (arith, few)) in
    let same : entry_from 0 handlers (code dir kind tag) - 0 ≡ entry_from 0 handlers (code dir kind tag) =
    omega arith in
    ap (λ n. option_map handler_tree (slice_get handlers n)) (sym same) ∙ found.1

-- No handler is for a tag that no header can have.
pub none_beyond : (handlers : List Handler) (dir : Dir) (kind : Kind) (tag : ℕ) → 8 ≤ tag → All IsTagged handlers →
    None ≡ find (is_for dir kind tag) (map handler_tree handlers)
none_beyond [] dir kind tag large tagged = refl
none_beyond (h ∷ rest) dir kind tag large tagged =
    go (is_for dir kind tag (handler_tree h)) (All-head IsTagged h rest tagged) refl
    (none_beyond rest dir kind tag large (All-tail IsTagged h rest tagged))
  where
    go : (b : Bool) → h.tag < 8 → is_for dir kind tag (handler_tree h) ≡ b →
        None ≡ find (is_for dir kind tag) (map handler_tree rest) →
        None ≡ (if b then Some (handler_tree h) else find (is_for dir kind tag) (map handler_tree rest))
    go false small e more = more
    go true small e more =
        let p = and_parts (eqb (tag_of dir_row.the_type h.direction) (tag_of dir_row.the_type dir) &&
        eqb (tag_of kind_row.the_type h.kind) (tag_of kind_row.the_type kind)) (eqb h.tag tag) e in
        let same = eqb-true h.tag tag p.1 in
        absurd (omega (arith, same, small, large))

-- A handler's entry before others'.
set_entry : (f : ℕ → ℕ) (n a i v : ℕ) →
    slice_set (map f (range_with_len a n)) i v ≡ map (λ j. if (a + i) == j then v else f j) (range_with_len a n)
set_entry f zero a i v = refl
set_entry f (suc n) a zero v = ap2 (λ x xs. x ∷ xs) (here (a + 0) a (omega arith)) (far n (a + 1) (omega arith))
  where
    here : (x y : ℕ) → x ≡ y → v ≡ (if x == y then v else f y)
    here x y e = rw (eq-eqb x y e) refl

    miss : (x j : ℕ) → x < j → f j ≡ (if x == j then v else f j)
    miss x j less = go (x == j) refl
      where
        go : (b : Bool) → (x == j) ≡ b → f j ≡ (if b then v else f j)
        go true e = let same = eqb-true x j e in absurd (omega (arith, same, less))
        go false e = refl

    far : (m b : ℕ) → a + 0 < b → map f (range_with_len b m) ≡
        map (λ j. if (a + 0) == j then v else f j) (range_with_len b m)
    far zero b less = refl
    far (suc m) b less = ap2 (λ x xs. x ∷ xs) (miss (a + 0) b less) (far m (b + 1) (omega (arith, less)))
set_entry f (suc n) a (suc i) v = ap2 (λ x xs. x ∷ xs) (miss (a + suc i) a (omega arith))
    (set_entry f n (a + 1) i v ∙ moved)
  where
    miss : (x j : ℕ) → j < x → f j ≡ (if x == j then v else f j)
    miss x j less = go (x == j) refl
      where
        go : (b : Bool) → (x == j) ≡ b → f j ≡ (if b then v else f j)
        go true e = let same = eqb-true x j e in absurd (omega (arith, same, less))
        go false e = refl

    moved : map (λ j. if (a + 1 + i) == j then v else f j) (range_with_len (a + 1) n) ≡
        map (λ j. if (a + suc i) == j then v else f j) (range_with_len (a + 1) n)
    moved = ap (λ x. map (λ j. if x == j then v else f j) (range_with_len (a + 1) n)) (sums a i)

-- The table with one more handler before the others.
pub table_grows : (k : ℕ) (h : Handler) (rest : List Handler) →
    slice_set (table_from (suc k) rest) (handler_code h) k ≡ table_from k (h ∷ rest)
unfolding table_from
table_grows k h rest =
    set_entry (entry_from (suc k) rest) 192 0 (handler_code h) k
    ∙ ap (λ x. map (λ j. if x == j then k else entry_from (suc k) rest j) (range_with_len 0 192))
    (plain_sum (handler_code h))

-- The table has all codes.
pub table_length : (k : ℕ) (handlers : List Handler) → length (table_from k handlers) ≡ 192
unfolding table_from
table_length k handlers = length-map-range_with_len (entry_from k handlers) 0 192

-- The entry at a code.
pub table_entry : (handlers : List Handler) (c d : ℕ) → c < 192 → get_or (table_from 0 handlers) c d ≡
    entry_from 0 handlers c
unfolding table_from
table_entry handlers c d small = get_or-map-range_with_len (entry_from 0 handlers) 0 192 c c d small (omega arith)

-- Nothing stands past a list's end.
missing_at : (handlers : List Handler) (n : ℕ) → length handlers ≤ n → slice_get handlers n ≡ None
missing_at [] n more = refl
missing_at (x ∷ rest) zero more = absurd (omega (arith, more))
missing_at (x ∷ rest) (suc n) more = missing_at rest n (omega (arith, more))

-- A table without handlers.
pub table_starts : (handlers : List Handler) (table : List ℕ) → table ≡ replicate 192 255 →
    table ≡ table_from (length handlers) (drop (length handlers) handlers)
unfolding table_from
table_starts handlers table is = is ∙ ap (λ rest. map (entry_from (length handlers) rest) (range_with_len 0 192))
    (sym (drop_all handlers))
  where
    drop_all : (hs : List Handler) → drop (length hs) hs ≡ []
    drop_all [] = refl
    drop_all (h ∷ rest) = drop_all rest

-- The handler before those that the table has is entered.
pub table_step : (handlers : List Handler) (left : ℕ) (h : Handler) (old new : List ℕ) → 0 < left →
    left ≤ length handlers →
    h ≡ get_or handlers (left - 1) h → old ≡ table_from left (drop left handlers) →
    new ≡ slice_set old (handler_code h) (left - 1) →
    (left - 1 ≤ length handlers) × (new ≡ table_from (left - 1) (drop (left - 1) handlers))
table_step handlers zero h old new some within is was now = absurd (omega (arith, some))
table_step handlers (suc k) h old new some within is was now =
    let less : k < length handlers = omega (arith, within) in
    let one : suc k - 1 ≡ k = omega arith in
    subst (λ n. (n ≤ length handlers) × (new ≡ table_from n (drop n handlers))) (sym one) (
      (omega (arith, within)),
      (now ∙ ap2 (λ t n. slice_set t (handler_code h) n) was one ∙ table_grows k h (drop (suc k) handlers)
          ∙ ap (table_from k) (sym (drop_step handlers k h less (is ∙ ap (λ n. get_or handlers n h) one)))),
    )
  where
    drop_step : (hs : List Handler) (n : ℕ) (x : Handler) → n < length hs → x ≡ get_or hs n x →
        drop n hs ≡ x ∷ drop (suc n) hs
    drop_step [] n x less e = absurd (omega (arith, less))
    drop_step (y ∷ rest) zero x less e = ap (λ z. z ∷ rest) (sym e)
    drop_step (y ∷ rest) (suc n) x less e = drop_step rest n x (omega (arith, less)) e

-- The handler that the table's entry names, where it names one, is the one that a search finds; where it names none, a
-- search finds none.
pub finds_named : (handlers : List Handler) (dir : Dir) (kind : Kind) (tag entry : ℕ) (h : Handler) → tag < 8 →
    All IsTagged handlers → length handlers ≤ 64 → entry ≡ get_or (table_from 0 handlers) (code dir kind tag) entry →
    entry < length handlers → h ≡ get_or handlers entry h →
    Some (handler_tree h) ≡ find (is_for dir kind tag) (map handler_tree handlers)
finds_named handlers dir kind tag entry h small tagged few is less at =
    let same = is ∙ table_entry handlers (code dir kind tag) entry (code_small dir kind tag small) in
    ap (option_map handler_tree) (sym (slice_get_read handlers (length handlers) entry h refl less at))
    ∙ ap (λ n. option_map handler_tree (slice_get handlers n)) same
    ∙ table_finds handlers dir kind tag small tagged few

pub finds_none : (handlers : List Handler) (dir : Dir) (kind : Kind) (tag entry : ℕ) → tag < 8 →
    All IsTagged handlers → length handlers ≤ 64 → entry ≡ get_or (table_from 0 handlers) (code dir kind tag) entry →
    length handlers ≤ entry → None ≡ find (is_for dir kind tag) (map handler_tree handlers)
finds_none handlers dir kind tag entry small tagged few is more =
    let same = is ∙ table_entry handlers (code dir kind tag) entry (code_small dir kind tag small) in
    ap (option_map handler_tree) (sym (missing_at handlers entry more))
    ∙ ap (λ n. option_map handler_tree (slice_get handlers n)) same
    ∙ table_finds handlers dir kind tag small tagged few
