-- Messages by their sorts, and what a state keeps.
use Rattle.std.proofs.Common.{◌≡◌, ℕ, ◌<◌, true, List, [], ◌∷◌, ◌++◌, ◌∙◌, length, Option, Some, None, refl, sym, subst}
use Rattle.std.proofs.Common.{arith}
use Rattle.std.specs.Prelude.{nat_lt, slice_get, slice_index_or, drop, option_and_then}
use Rattle.std.specs.List.{AllByRecursion, AllZip}
use Rattle.std.specs.Option.{option_map_or}
use Rattle.std.proofs.Math.ListN.{length-drop, length-set, length-append}
use Rattle.std.proofs.lemmas.Bool.{and_parts, ltb-true}
use Rattle.msg_core.specs.Chain.{Content}
use Rattle.msg_core.specs.declared.message.Header.{Header}
use Rattle.layer_words.specs.declared.sorts.Sort.{Sort}
use Rattle.layer_words.specs.declared.sorts.Sort.TheVariants.{Int, Msg, Part}
use Rattle.layer_mean.specs.declared.run.Row.{Row}
use Rattle.layer_mean.specs.Tree.{Carried, part, whole, ItemsTree, Form, numbers, queue, queues, CellTree, LayerTree}
use Rattle.layer_mean.specs.State as state
use Rattle.layer_mean.specs.State.{State, Contents, no_cell, numbers_in, queues_in, cell_at, number_at, rows_at, row_at}
use Rattle.layer_mean.specs.State.{has_room, with_cell, with_element, with_number, with_queue, with_rows, with_row}
use Rattle.layer_mean.specs.State.{without_front}
use Rattle.layer_mean.specs.Value.{Scope, number_in, message_in, missing}
use Rattle.packet_mean.specs.ChainedState.{IsNumber, Numbers, IsBody, IsMessage, KeptHeaders, EndsWith, IsRow, IsQueue}
use Rattle.packet_mean.specs.ChainedState.{HoldsForm, IsState}
use Rattle.chain_laws.specs.Typed.{Queue, queue_in, queue_at, sort_of}
use Rattle.chain_laws.proofs.Lists.{Where, each_where, each_or, each_so, each_set, each_change, each_append, each_drop}
use Rattle.chain_laws.proofs.Lists.{zip_at, zip_change}
use Rattle.chain_laws.proofs.Small.{zero_small, no_body}

-- the headers of a message of a sort; of a slot that holds none yet nothing is said
abbrev pub HeadersOf : (List Header → Type 0) → Sort → List Header → Type 0
HeadersOf P Int headers = Unit {0}
HeadersOf P Msg headers = P headers
HeadersOf P Part headers = headers ≡ []

abbrev pub Is : (List Header → Type 0) → Sort → Content → Type 0
Is P sort m = IsMessage (HeadersOf P sort) m

pub kept_sort : (P : List Header → Type 0) (carried : Carried) (hs : List Header) → KeptHeaders P carried hs →
    HeadersOf P (sort_of carried) hs
kept_sort P part hs h = h
kept_sort P (whole blank) hs h = h

-- headers that a row keeps for a are those of a message of b's sort, if the sorts are the same
pub same_kept : (P : List Header → Type 0) (a b : Carried) (hs : List Header) → sort_of a ≡ sort_of b →
    KeptHeaders P a hs →
    HeadersOf P (sort_of b) hs
same_kept P a b hs is h = subst (λ sort. HeadersOf P sort hs) is (kept_sort P a hs h)

pub kept_of : (P : List Header → Type 0) (carried : Carried) (hs : List Header) → HeadersOf P (sort_of carried) hs →
    KeptHeaders P carried hs
kept_of P part hs h = h
kept_of P (whole blank) hs h = h

-- the scope of a block
pub record IsScope (P : List Header → Type 0) (sorts : List Sort) (l : Scope) : Type 0 where
  pub numbers_are : Numbers l.numbers
  pub messages_are : AllZip (Is P) sorts l.messages

-- what numbers and bodies rest on: all numbers and bodies of a state and a scope

pub record KeptRow (row : Row) : Type 0 where
  pub numbers_are : Numbers row.numbers
  pub message_is : Where (λ m. IsBody m.body) row.message

pub record KeptRows (rows : List Row) : Type 0 where
  pub count : IsNumber (length rows)
  pub rows_are : AllByRecursion KeptRow rows

pub record KeptCell (held : Contents) : Type 0 where
  pub numbers_are : Numbers (numbers_in held)
  pub queues_are : AllByRecursion KeptRows (queues_in held)

pub record Kept (s : State) (l : Scope) : Type 0 where
  pub me : IsNumber s.me
  pub count : IsNumber s.count
  pub ltime : IsNumber s.ltime
  pub cells : AllByRecursion KeptCell s.cells
  pub numbers_are : Numbers l.numbers
  pub bodies : AllByRecursion (λ m. IsBody m.body) l.messages

ends_body : (P : List Header → Type 0) (item : Option (List ℕ × Carried)) (m : Option Content) → EndsWith P item m →
    Where (λ m. IsBody m.body) m
ends_body P None None h = tt
ends_body P None (Some m) h = absurd h
ends_body P (Some item) None h = absurd h
ends_body P (Some item) (Some m) h = h.body

kept_row : (P : List Header → Type 0) (items : ItemsTree) (row : Row) → IsRow P items row → KeptRow row
kept_row P items row h =
    record { numbers_are = h.numbers; message_is = ends_body P items.message row.message h.message }

kept_rows : (P : List Header → Type 0) (capacity : ℕ) (items : ItemsTree) (rows : List Row) →
    IsQueue P capacity items rows → KeptRows rows
kept_rows P capacity items rows h = record {
  count = omega (arith, h.bounded, h.within);
  rows_are = each_so _ _ (kept_row P items) rows h.rows_are;
}

kept_cell : (P : List Header → Type 0) (n : ℕ) (form : Form) (held : Contents) → HoldsForm P n form held → KeptCell held
kept_cell P n (numbers shape initial) (state.numbers ns) h = record { numbers_are = h.1; queues_are = tt }
kept_cell P n (numbers shape initial) (state.queues qs) h = absurd h
kept_cell P n (queue capacity items) (state.numbers ns) h = absurd h
kept_cell P n (queue capacity items) (state.queues qs) h =
    record { numbers_are = tt; queues_are = each_so _ _ (kept_rows P capacity items) qs h.1 }
kept_cell P n (queues capacity items) (state.numbers ns) h = absurd h
kept_cell P n (queues capacity items) (state.queues qs) h =
    record { numbers_are = tt; queues_are = each_so _ _ (kept_rows P capacity items) qs h.1 }

kept_cells : (P : List Header → Type 0) (n : ℕ) (cells : List CellTree) (held : List Contents) →
    AllZip (λ (cell : CellTree) held. HoldsForm P n cell.form held) cells held → AllByRecursion KeptCell held
kept_cells P n [] [] h = tt
kept_cells P n [] (x ∷ held) h = absurd h
kept_cells P n (c ∷ cells) [] h = absurd h
kept_cells P n (c ∷ cells) (x ∷ held) h = (kept_cell P n c.form x h.0, kept_cells P n cells held h.1)

bodies_are : (P : List Header → Type 0) (sorts : List Sort) (ms : List Content) → AllZip (Is P) sorts ms →
    AllByRecursion (λ m. IsBody m.body) ms
bodies_are P [] [] h = tt
bodies_are P [] (m ∷ ms) h = absurd h
bodies_are P (x ∷ sorts) [] h = absurd h
bodies_are P (x ∷ sorts) (m ∷ ms) h = (h.0.body, bodies_are P sorts ms h.1)

pub kept : (P : List Header → Type 0) (layer : LayerTree) (sorts : List Sort) (s : State) (l : Scope) →
    IsState P layer s →
    IsScope P sorts l → Kept s l
kept P layer sorts s l h i = record {
  me = omega (arith, h.me, h.most_members);
  count = omega (arith, h.most_members);
  ltime = h.ltime;
  cells = kept_cells P s.count layer.cells s.cells h.cells;
  numbers_are = i.numbers_are;
  bodies = bodies_are P sorts l.messages i.messages_are;
}

-- reads

no_kept : KeptCell no_cell
no_kept = record { numbers_are = tt; queues_are = tt }

no_rows : KeptRows []
no_rows = record { count = zero_small; rows_are = tt }

pub number_at_small : (s : State) (c i : ℕ) → AllByRecursion KeptCell s.cells → IsNumber (number_at s c i)
number_at_small s c i h =
    each_or IsNumber (numbers_in (cell_at s c)) i 0 (each_or KeptCell s.cells c no_cell h no_kept).numbers_are
    zero_small

pub rows_at_kept : (s : State) (c i : ℕ) → AllByRecursion KeptCell s.cells → KeptRows (rows_at s c i)
rows_at_kept s c i h =
    each_or KeptRows (queues_in (cell_at s c)) i [] (each_or KeptCell s.cells c no_cell h no_kept).queues_are no_rows

pub row_at_kept : (s : State) (c i k : ℕ) → AllByRecursion KeptCell s.cells → Where KeptRow (row_at s c i k)
row_at_kept s c i k h = each_where KeptRow (rows_at s c i) k (rows_at_kept s c i h).rows_are

pub number_in_small : (k : ℕ) (row : Option Row) → Where KeptRow row → IsNumber (number_in k row)
number_in_small k None h = zero_small
number_in_small k (Some row) h = each_or IsNumber row.numbers k 0 h.numbers_are zero_small

missing_body : (carried : Carried) → IsBody (missing carried).body
missing_body part = no_body
missing_body (whole blank) = no_body

held_body : (carried : Carried) (m : Option Content) → Where (λ m. IsBody m.body) m →
    IsBody (option_map_or (λ m. m) m (missing carried)).body
held_body carried None h = missing_body carried
held_body carried (Some m) h = h

pub message_in_body : (carried : Carried) (row : Option Row) → Where KeptRow row → IsBody (message_in carried row).body
message_in_body carried None h = missing_body carried
message_in_body carried (Some row) h = held_body carried row.message h.message_is

-- the rows of a queue of a layer

some_same : {A : Type 0} (x y : A) → Some x ≡ Some y → x ≡ y
some_same x y e = cc e

queues_hold : (P : List Header → Type 0) (n : ℕ) (form : Form) (held : Contents) (q : Queue) → HoldsForm P n form held →
    queue_in form ≡ Some q → AllByRecursion (IsQueue P q.capacity q.items) (queues_in held)
queues_hold P n (numbers shape initial) held q h is = absurd (cc is)
queues_hold P n (queue capacity items) (state.numbers ns) q h is = absurd h
queues_hold P n (queue capacity items) (state.queues qs) q h is =
    subst (λ (r : Queue). AllByRecursion (IsQueue P r.capacity r.items) qs) (some_same _ q is) h.1
queues_hold P n (queues capacity items) (state.numbers ns) q h is = absurd h
queues_hold P n (queues capacity items) (state.queues qs) q h is =
    subst (λ (r : Queue). AllByRecursion (IsQueue P r.capacity r.items) qs) (some_same _ q is) h.1

-- the cell of a queue that a layer lists
pub listed_cell : (layer : LayerTree) (c : ℕ) (q : Queue) → queue_at layer c ≡ Some q → {C : Type 0} →
    ((cell : CellTree) → slice_get layer.cells c ≡ Some cell → queue_in cell.form ≡ Some q → C) → C
listed_cell layer c q is {C} k = go (slice_get layer.cells c) refl is where
  go : (o : Option CellTree) → slice_get layer.cells c ≡ o → option_and_then (λ cell. queue_in cell.form) o ≡ Some q → C
  go None at is = absurd (cc is)
  go (Some cell) at is = k cell at is

pub rows_hold : (P : List Header → Type 0) (layer : LayerTree) (s : State) (c i : ℕ) (q : Queue) → IsState P layer s →
    queue_at layer c ≡ Some q → AllByRecursion (IsRow P q.items) (rows_at s c i)
rows_hold P layer s c i q h is = listed_cell layer c q is (λ cell at form.
    let held = zip_at (λ (cell : CellTree) held. HoldsForm P s.count cell.form held) layer.cells s.cells c cell no_cell
    h.cells at in
    each_or (AllByRecursion (IsRow P q.items)) (queues_in (cell_at s c)) i []
    (each_so (IsQueue P q.capacity q.items) (AllByRecursion (IsRow P q.items)) (λ rows is. is.rows_are)
    (queues_in (cell_at s c))
    (queues_hold P s.count cell.form (cell_at s c) q held form))
    tt)

-- writes

with_held : (P : List Header → Type 0) (layer : LayerTree) (s : State) (c : ℕ) (held : Contents) → IsState P layer s →
    ((cell : CellTree) → slice_get layer.cells c ≡ Some cell → HoldsForm P s.count cell.form (cell_at s c) →
    HoldsForm P s.count cell.form held) → IsState P layer (with_cell s c held)
with_held P layer s c held h so = record {
  some_member = h.some_member;
  most_members = h.most_members;
  me = h.me;
  ltime = h.ltime;
  cells = zip_change (λ (cell : CellTree) held. HoldsForm P s.count cell.form held) layer.cells s.cells c held no_cell
      h.cells so;
}

number_written : (P : List Header → Type 0) (n i v : ℕ) (form : Form) (held : Contents) → IsNumber v →
    HoldsForm P n form held →
    HoldsForm P n form (with_element i v held)
number_written P n i v (numbers shape initial) (state.numbers ns) small h =
    (omega (arith, h.0, length-set ns i v), each_set IsNumber ns i v h.1 small)
number_written P n i v (numbers shape initial) (state.queues qs) small h = absurd h
number_written P n i v (queue capacity items) (state.numbers ns) small h = absurd h
number_written P n i v (queue capacity items) (state.queues qs) small h = h
number_written P n i v (queues capacity items) (state.numbers ns) small h = absurd h
number_written P n i v (queues capacity items) (state.queues qs) small h = h

pub number_keeps : (P : List Header → Type 0) (layer : LayerTree) (s : State) (c i v : ℕ) → IsState P layer s →
    IsNumber v →
    IsState P layer (with_number s c i v)
number_keeps P layer s c i v h small =
    with_held P layer s c (with_element i v (cell_at s c)) h
    (λ cell at is. number_written P s.count i v cell.form (cell_at s c) small is)

-- other rows in a queue, where they are again rows of its form
rows_filled : (P : List Header → Type 0) (n i : ℕ) (rows : List Row) (form : Form) (held : Contents) →
    HoldsForm P n form held →
    ((q : Queue) → queue_in form ≡ Some q → IsQueue P q.capacity q.items (slice_index_or (queues_in held) i []) →
    IsQueue P q.capacity q.items rows) → HoldsForm P n form (with_queue i rows held)
rows_filled P n i rows (numbers shape initial) (state.numbers ns) h so = h
rows_filled P n i rows (numbers shape initial) (state.queues qs) h so = absurd h
rows_filled P n i rows (queue capacity items) (state.numbers ns) h so = absurd h
rows_filled P n i rows (queue capacity items) (state.queues qs) h so = (
  omega (arith, h.0, length-set qs i rows),
  each_change _ qs i rows [] h.1 (so (record { capacity = capacity; items = items }) refl),
)
rows_filled P n i rows (queues capacity items) (state.numbers ns) h so = absurd h
rows_filled P n i rows (queues capacity items) (state.queues qs) h so = (
  omega (arith, h.0, length-set qs i rows),
  each_change _ qs i rows [] h.1 (so (record { capacity = capacity; items = items }) refl),
)

rows_keep : (P : List Header → Type 0) (layer : LayerTree) (s : State) (c i : ℕ) (rows : List Row) → IsState P layer s →
    ((q : Queue) → queue_at layer c ≡ Some q → IsQueue P q.capacity q.items (rows_at s c i) →
    IsQueue P q.capacity q.items rows) →
    IsState P layer (with_rows s c i rows)
rows_keep P layer s c i rows h so = with_held P layer s c (with_queue i rows (cell_at s c)) h
    (λ cell at is. rows_filled P s.count i rows cell.form (cell_at s c) is (λ q form. so q (rw at form)))

pub front_keeps : (P : List Header → Type 0) (layer : LayerTree) (s : State) (c i : ℕ) → IsState P layer s →
    IsState P layer (without_front s c i)
front_keeps P layer s c i h = rows_keep P layer s c i (drop 1 (rows_at s c i)) h (λ q is old. record {
  bounded = old.bounded;
  within = omega (arith, old.within, length-drop 1 (rows_at s c i));
  rows_are = each_drop _ 1 (rows_at s c i) old.rows_are;
})

pub row_keeps : (P : List Header → Type 0) (layer : LayerTree) (s : State) (c i capacity : ℕ) (q : Queue) (row : Row) →
    IsState P layer s → queue_at layer c ≡ Some q → capacity ≡ q.capacity → has_room s c i capacity ≡ true →
    IsRow P q.items row →
    IsState P layer (with_row s c i row)
row_keeps P layer s c i capacity q row h listed same room is = rows_keep P layer s c i (rows_at s c i ++ row ∷ []) h
    (λ r at old.
    let e : r ≡ q = some_same r q (sym at ∙ listed) in
    let free : length (rows_at s c i) < capacity = ltb-true (length (rows_at s c i)) capacity
    (and_parts (nat_lt i (length (queues_in (cell_at s c)))) (nat_lt (length (rows_at s c i)) capacity) room).1 in
    subst (λ (r : Queue). IsQueue P r.capacity r.items (rows_at s c i ++ row ∷ [])) (sym e) record {
      bounded = subst (λ (r : Queue). IsNumber r.capacity) e old.bounded;
      within = omega (arith, free, same, length-append (rows_at s c i) (row ∷ []));
      rows_are = each_append _ (rows_at s c i) (row ∷ [])
          (subst (λ (r : Queue). AllByRecursion (IsRow P r.items) (rows_at s c i)) e old.rows_are) (is, tt);
    })
