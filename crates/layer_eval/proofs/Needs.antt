-- How needs add up.
use Rattle.std.proofs.Common.{◌≡◌, ℕ, suc, zero, ◌+◌, ◌-◌, ◌*◌, ◌<◌, ◌≤◌, List, [], ◌∷◌, ◌++◌, length, map, take}
use Rattle.std.proofs.Common.{get_or, Option, Result, Ok, Err, sym, ap, subst, arith}
use Rattle.std.proofs.Math.Nat.{mul-le-mul_right, suc-mul}
use Rattle.layer_mean.specs.Tree.{ExpressionTree, StatementTree, StatementTrees, each}
use Rattle.layer_eval.proofs.Acts.{one_more_tree, last_tree}
use Rattle.typed_layer.specs.View.{trees, statement_tree}
use Rattle.typed_layer.specs.declared.tree.Statement.{Statement}
use Rattle.layer_desk.specs.Need.{Layout, Room, Need, nothing_needed, statement_need, block_need}
use Rattle.layer_desk.specs.Spent.{SpentAtMost, Lacks, Spent}
use Rattle.layer_desk.specs.declared.no_room.NoRoom.{NoRoom}
use Rattle.layer_desk.specs.declared.no_room.NoRoom.TheVariants as lack
use Rattle.layer_eval.specs.declared.pending.Pending.{Pending}
use Rattle.layer_eval.specs.Owed.{owed_places, owing}

-- a need n and, after it, a need m are within the need w
pub record Within (n m w : Need) : Type 0 where
  pub slots : n.slots + m.slots ≤ w.slots
  pub places : n.places + m.places ≤ w.places
  pub hand : m.hand ≤ w.hand
  pub headers : m.headers ≤ w.headers
  pub misfits : m.misfits ≤ w.misfits

pub lacks_after : (a b : Room) (n m w : Need) (e : NoRoom) → SpentAtMost a b n → Lacks b m e → Within n m w →
    Lacks a w e
lacks_after a b n m w lack.Slot spent lacks within =
    record { short = let one = spent.slots in let two = within.slots in let s = lacks.short in omega arith }
lacks_after a b n m w lack.Place spent lacks within =
    record { short = let one = spent.places in let two = within.places in let s = lacks.short in omega arith }
lacks_after a b n m w lack.Hand spent lacks within =
    record { short = let one = spent.hand in let two = within.hand in let s = lacks.short in omega arith }
lacks_after a b n m w lack.Headers spent lacks within =
    record { short = let two = within.headers in let s = lacks.short in omega arith }
lacks_after a b n m w lack.Misfit spent lacks within =
    record { short = let two = within.misfits in let s = lacks.short in omega arith }

pub spent_after : (a b c : Room) (n m w : Need) → SpentAtMost a b n → SpentAtMost b c m → Within n m w →
    SpentAtMost a c w
spent_after a b c n m w first second within = record {
  slots = let one = first.slots in let two = second.slots in let both = within.slots in omega arith;
  places = let one = first.places in let two = second.places in let both = within.places in omega arith;
  hand = let one = first.hand in let two = second.hand in omega arith;
}

-- the first i of some statements, and the statement after them, are within all
pub item_within : (layout : Layout) (xs : List Statement) (i : ℕ) (x : Statement) → i < length xs → x ≡ get_or xs i x →
    Within (block_need layout (trees (map statement_tree (take i xs)))) (statement_need layout (statement_tree x))
    (block_need layout (trees (map statement_tree xs)))
item_within layout [] i x within is = absurd (omega (arith, within))
item_within layout (y ∷ xs) zero x within is =
    let same = ap (λ z. statement_need layout (statement_tree z)) is in
    let slots = ap (λ (n : Need). n.slots) same in
    let places = ap (λ (n : Need). n.places) same in
    let hand = ap (λ (n : Need). n.hand) same in
    let misfits = ap (λ (n : Need). n.misfits) same in
    record {
      slots = omega (arith, slots);
      places = omega (arith, places);
      hand = omega (arith, hand);
      headers =
          omega arith;
      misfits = omega (arith, misfits);
    }
item_within layout (y ∷ xs) (suc i) x within is =
    let rest = item_within layout xs i x (omega (arith, within)) is in
    let slots = rest.slots in let places = rest.places in let hand = rest.hand in let misfits = rest.misfits in
    record {
      slots = omega arith;
      places = omega arith;
      hand = omega arith;
      headers = omega arith;
      misfits =
          omega arith;
    }

-- the needs of `k` turns
abbrev pub repeated : ℕ → Need → Need
repeated k n = record n { slots = k * n.slots; places = k * n.places }

times_more : (k most n : ℕ) → k < most → k * n + n ≤ most * n
times_more k most n less = let all : suc k * n ≤ most * n = mul-le-mul_right n (omega (arith, less)) in
    omega (arith, all, suc-mul k n)

pub turn_within : (k most : ℕ) (n : Need) → k < most → Within (repeated k n) n (repeated most n)
turn_within k most n less = record {
  slots = omega (arith, times_more k most n.slots less);
  places = omega (arith, times_more k most n.places less);
  hand = omega arith;
  headers = omega arith;
  misfits = omega arith;
}

-- where there is no room for one turn more after k of them, there is none for the loop
pub turns_lack : (layout : Layout) (a b b' : Room) (k slot most : ℕ) (below : ExpressionTree) (block : StatementTrees)
    (tree : StatementTree) (e : NoRoom) →
    tree ≡ each slot below most block → k < most → SpentAtMost a b (repeated k (block_need layout block)) → b' ≡ b →
    Lacks b' (block_need layout block) e → Lacks a (statement_need layout tree) e
turns_lack layout a b b' k slot most below block tree e same less spent is lacks =
    let turn = turn_within k most (block_need layout block) less in
    let slots = turn.slots in let places = turn.places in
    subst (λ t. Lacks a (statement_need layout t) e) (sym same)
    (lacks_after a b (repeated k (block_need layout block)) (block_need layout block)
    (statement_need layout (each slot below most block)) e spent
    (subst (λ r. Lacks r (block_need layout block) e) is lacks)
    (record {
      slots = omega arith;
      places = omega arith;
      hand = omega arith;
      headers = omega arith;
      misfits =
          omega arith;
    }))

-- at most n turns were spent
pub turns_spent : (layout : Layout) (a b : Room) (k slot most : ℕ) (below : ExpressionTree) (block : StatementTrees)
    (tree : StatementTree) →
    tree ≡ each slot below most block → k ≤ most → SpentAtMost a b (repeated k (block_need layout block)) →
    SpentAtMost a b (statement_need layout tree)
turns_spent layout a b k slot most below block tree same less spent =
    let slots = spent.slots in let places = spent.places in
    let more_slots = mul-le-mul_right (block_need layout block).slots less in
    let more_places = mul-le-mul_right (block_need layout block).places less in
    subst (λ t. SpentAtMost a b (statement_need layout t)) (sym same)
    (record { slots = omega arith; places = omega arith; hand = spent.hand })

-- one more turn was spent
pub turn_spent : (layout : Layout) (a b b' c : Room) (k : ℕ) (block : StatementTrees) →
    SpentAtMost a b (repeated k (block_need layout block)) → b' ≡ b →
    SpentAtMost b' c (block_need layout block) → SpentAtMost a c (repeated (k + 1) (block_need layout block))
turn_spent layout a b b' c k block first is second =
    let n = block_need layout block in
    spent_after a b c (repeated k n) n (repeated (k + 1) n) first (subst (λ r. SpentAtMost r c n) is second)
    (turn_within k (k + 1) n (omega arith))

item_more : (layout : Layout) (ts : List StatementTree) (x : StatementTree) →
    Within (block_need layout (trees ts)) (statement_need layout x) (block_need layout (trees (ts ++ x ∷ [])))
item_more layout [] x =
    record {
      slots = omega arith;
      places = omega arith;
      hand = omega arith;
      headers = omega arith;
      misfits =
          omega arith;
    }
item_more layout (y ∷ ts) x =
    let rest = item_more layout ts x in
    let slots = rest.slots in let places = rest.places in let hand = rest.hand in let misfits = rest.misfits in
    record {
      slots = omega arith;
      places = omega arith;
      hand = omega arith;
      headers = omega arith;
      misfits =
          omega arith;
    }

-- one more statement was spent
pub item_spent : (layout : Layout) (xs : List Statement) (i : ℕ) (x : Statement) (a b c : Room) → i < length xs →
    x ≡ get_or xs i x →
    SpentAtMost a b (block_need layout (trees (map statement_tree (take i xs)))) →
    SpentAtMost b c (statement_need layout (statement_tree x)) →
    SpentAtMost a c (block_need layout (trees (map statement_tree (take (i + 1) xs))))
item_spent layout xs i x a b c within is first second =
    subst (λ ts. SpentAtMost a c (block_need layout (trees ts))) (sym (one_more_tree xs i x within is))
    (spent_after a b c _ _ _ first second (item_more layout (map statement_tree (take i xs)) (statement_tree x)))

-- where there is no room for a statement after those before it, there is none for the block
pub item_lacks : (layout : Layout) (xs : List Statement) (i : ℕ) (x : Statement) (a b : Room) (e : NoRoom) →
    i < length xs → x ≡ get_or xs i x →
    SpentAtMost a b (block_need layout (trees (map statement_tree (take i xs)))) →
    Lacks b (statement_need layout (statement_tree x)) e →
    Lacks a (block_need layout (trees (map statement_tree xs))) e
item_lacks layout xs i x a b e within is spent lacks =
    lacks_after a b _ _ _ e spent lacks (item_within layout xs i x within is)

-- what is before a statement is within all
front_within : (layout : Layout) (ts : List StatementTree) (x : StatementTree) →
    Within nothing_needed (block_need layout (trees ts)) (block_need layout (trees (ts ++ x ∷ [])))
front_within layout [] x =
    record {
      slots = omega arith;
      places = omega arith;
      hand = omega arith;
      headers = omega arith;
      misfits =
          omega arith;
    }
front_within layout (y ∷ ts) x =
    let rest = front_within layout ts x in
    let slots = rest.slots in let places = rest.places in let hand = rest.hand in let misfits = rest.misfits in
    record {
      slots = omega arith;
      places = omega arith;
      hand = omega arith;
      headers = omega arith;
      misfits =
          omega arith;
    }

-- where there is no room for a need, there is none for a greater one
lacks_more : (a : Room) (n m : Need) (e : NoRoom) → Lacks a n e → Within nothing_needed n m → Lacks a m e
lacks_more a n m e lacks within =
    lacks_after a a nothing_needed n m e (record { slots = omega arith; places = omega arith; hand = omega arith })
    lacks within

owing_more : (owed : Option Pending) (n m : Need) → Within nothing_needed n m →
    Within nothing_needed (owing owed n) (owing owed m)
owing_more owed n m within = record {
  slots = within.slots;
  places = let more = within.places in omega arith;
  hand = within.hand;
  headers = within.headers;
  misfits = within.misfits;
}

-- after a need n, but for the place of an emission that is yet to go, there is no room for a need m
owed_lacks : (before owed : Option Pending) (a b : Room) (n m w : Need) (e : NoRoom) →
    SpentAtMost (record a { places = owed_places owed + a.places }) b (owing before n) →
    Lacks b (owing owed m) e → Within n m w → Lacks a (owing before w) e
owed_lacks before owed a b n m w lack.Slot spent lacks within =
    record { short = let one = spent.slots in let two = within.slots in let s = lacks.short in omega arith }
owed_lacks before owed a b n m w lack.Place spent lacks within =
    record { short = let one = spent.places in let two = within.places in let s = lacks.short in omega arith }
owed_lacks before owed a b n m w lack.Hand spent lacks within =
    record { short = let one = spent.hand in let two = within.hand in let s = lacks.short in omega arith }
owed_lacks before owed a b n m w lack.Headers spent lacks within =
    record { short = let two = within.headers in let s = lacks.short in omega arith }
owed_lacks before owed a b n m w lack.Misfit spent lacks within =
    record { short = let two = within.misfits in let s = lacks.short in omega arith }

-- or it is spent
owed_spent : (before first second : Option Pending) (a b c : Room) (n m w : Need) →
    SpentAtMost (record a { places = owed_places first + a.places }) b (owing before n) →
    SpentAtMost (record b { places = owed_places second + b.places }) c (owing first m) → Within n m w →
    SpentAtMost (record a { places = owed_places second + a.places }) c (owing before w)
owed_spent before first second a b c n m w one two within = record {
  slots = let s = one.slots in let t = two.slots in let both = within.slots in omega arith;
  places = let s = one.places in let t = two.places in let both = within.places in omega arith;
  hand = let s = one.hand in let t = two.hand in omega arith;
}

owed_ends : {A : Type 0} (before owed : Option Pending) (a b c : Room) (n m w : Need) (r : Result A NoRoom) →
    SpentAtMost (record a { places = owed_places owed + a.places }) b (owing before n) → Spent b c (owing owed m) r →
    Within n m w → Spent a c (owing before w) r
owed_ends before owed a b c n m w (Ok x) one two within = record {
  slots = let s = one.slots in let t = two.slots in let both = within.slots in omega arith;
  places = let s = one.places in let t = two.places in let both = within.places in omega arith;
  hand = let s = one.hand in let t = two.hand in omega arith;
}
owed_ends before owed a b c n m w (Err e) one two within = owed_lacks before owed a b n m w e one two within

-- the statements before the last, with emissions that are yet to go
pub owed_item_spent : (layout : Layout) (xs : List Statement) (i : ℕ) (x : Statement)
    (before first second : Option Pending) (a b c : Room) → i < length xs →
    x ≡ get_or xs i x → SpentAtMost (record a { places = owed_places first + a.places }) b
    (owing before (block_need layout (trees (map statement_tree (take i xs))))) →
    SpentAtMost (record b { places = owed_places second + b.places }) c
    (owing first (statement_need layout (statement_tree x))) →
    SpentAtMost (record a { places = owed_places second + a.places }) c
    (owing before (block_need layout (trees (map statement_tree (take (i + 1) xs)))))
owed_item_spent layout xs i x before first second a b c within is one two =
    subst (λ ts. SpentAtMost (record a { places = owed_places second + a.places }) c
    (owing before (block_need layout (trees ts)))) (sym (one_more_tree xs i x within is))
    (owed_spent before first second a b c _ _ _ one two
    (item_more layout (map statement_tree (take i xs)) (statement_tree x)))

pub owed_item_lacks : (layout : Layout) (xs : List Statement) (i : ℕ) (x : Statement) (before owed : Option Pending)
    (a b : Room) (e : NoRoom) → i < length xs →
    x ≡ get_or xs i x → SpentAtMost (record a { places = owed_places owed + a.places }) b
    (owing before (block_need layout (trees (map statement_tree (take i xs))))) →
    Lacks b (owing owed (statement_need layout (statement_tree x))) e →
    Lacks a (owing before (block_need layout (trees (map statement_tree xs)))) e
owed_item_lacks layout xs i x before owed a b e within is spent lacks =
    owed_lacks before owed a b _ _ _ e spent lacks (item_within layout xs i x within is)

-- where there is no room for the statements before the last, there is none for all of them
pub front_lacks : (layout : Layout) (xs ys : List Statement) (x : Statement) (before : Option Pending) (a : Room)
    (e : NoRoom) → xs ≡ ys → 1 ≤ length xs →
    x ≡ get_or xs (length xs - 1) x →
    Lacks a (owing before (block_need layout (trees (map statement_tree (take (length xs - 1) xs))))) e →
    Lacks a (owing before (block_need layout (trees (map statement_tree ys)))) e
front_lacks layout xs ys x before a e same some is lacks =
    subst (λ ts. Lacks a (owing before (block_need layout (trees ts))) e) (sym (last_tree xs ys x same some is))
    (lacks_more a _ _ e lacks
    (owing_more before _ _ (front_within layout (map statement_tree (take (length xs - 1) xs)) (statement_tree x))))

-- the last statement after those before it
pub last_spent : {A : Type 0} (layout : Layout) (xs ys : List Statement) (x : Statement) (before owed : Option Pending)
    (a b c : Room) (r : Result A NoRoom) → xs ≡ ys →
    1 ≤ length xs → x ≡ get_or xs (length xs - 1) x →
    SpentAtMost (record a { places = owed_places owed + a.places }) b
    (owing before (block_need layout (trees (map statement_tree (take (length xs - 1) xs))))) →
    Spent b c (owing owed (statement_need layout (statement_tree x))) r →
    Spent a c (owing before (block_need layout (trees (map statement_tree ys)))) r
last_spent layout xs ys x before owed a b c r same some is first second =
    subst (λ ts. Spent a c (owing before (block_need layout (trees ts))) r) (sym (last_tree xs ys x same some is))
    (owed_ends before owed a b c _ _ _ r first second
    (item_more layout (map statement_tree (take (length xs - 1) xs)) (statement_tree x)))
