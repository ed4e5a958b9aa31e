-- The rows with messages of chained states, cell by cell and layer by layer.
use Rattle.std.proofs.Common.{◌≡◌, ℕ, suc, ◌*◌, ◌<◌, ◌≤◌, Bool, false, List, [], ◌∷◌, map, length, Option, Some, None}
use Rattle.std.proofs.Common.{refl, ap, arith, cond}
use Rattle.std.specs.Prelude.{slice_index_or}
use Rattle.std.specs.List.{sum_by, count_by, AllByRecursion, AllZip}
use Rattle.std.specs.Option.{option_map_or}
use Rattle.std.proofs.Math.Nat.{suc-mul, mul-le-mul_left}
use Rattle.std.proofs.lemmas.List.Sums.{sum_by-cons, count_by-le-length}
use Rattle.msg_core.specs.Chain.{Content}
use Rattle.msg_core.specs.declared.message.Header.{Header}
use Rattle.layer_mean.specs.declared.run.Row.{Row}
use Rattle.layer_mean.specs.Tree.{Carried, ItemsTree, Form, numbers, queue, queues, CellTree, LayerTree, no_layer}
use Rattle.layer_mean.specs.State as state
use Rattle.layer_mean.specs.State.{State, Contents}
use Rattle.layer_mean.specs.Visit.{no_state, fresh}
use Rattle.stack_mean.specs.Acceptance.{capacity_for, message_rows}
use Rattle.packet_mean.specs.ChainedState.{IsFrom, EndsWith, IsRow, IsQueue, HoldsForm, IsState}
use Rattle.chain_laws.proofs.Lists.{each_or}
use Rattle.layer_stage.specs.Kept.{has_message, rows_kept, messages_kept}
use Rattle.pool_laws.specs.Rows.{StatesKeepRows, FreshAreWithin}

-- the rows with messages that a layer may keep at a member of a view of n
abbrev layer_rows : ℕ → LayerTree → ℕ
layer_rows n layer = sum_by (λ cell. message_rows n cell.form) layer.cells

module _ (Above : List Header → Type 0) where
  -- a row whose queue carries nothing has no message
  bare : (row : Row) (m : Option Content) → row.message ≡ m → EndsWith Above None m → has_message row ≡ false
  bare row None is h = rw is refl
  bare row (Some m) is h = absurd h

  no_messages : (items : ItemsTree) → items.message ≡ None → (rows : List Row) →
      AllByRecursion (IsRow Above items) rows →
      count_by has_message rows ≡ 0
  no_messages items none [] h = refl
  no_messages items none (row ∷ rows) h =
      let first : has_message row ≡ false = bare row row.message refl (rw none at h.0.message) in
      let rest = no_messages items none rows h.1 in
      let one : cond {A = ℕ} (has_message row) 1 0 ≡ 0 = ap (λ (b : Bool). cond {A = ℕ} b 1 0) first in
      let split = sum_by-cons (λ (x : Row). cond (has_message x) 1 0) row rows in
      omega arith

  -- a queue has at most as many as its items say
  queue_keeps : (capacity : ℕ) (items : ItemsTree) (rows : List Row) → IsQueue Above capacity items rows →
      count_by has_message rows ≤ capacity_for items capacity
  queue_keeps capacity items rows is = go items.message refl where
    go : (o : Option (List ℕ × Carried)) → items.message ≡ o →
        count_by has_message rows ≤ option_map_or (λ carried. capacity) o 0
    go None none = let no = no_messages items none rows is.rows_are in omega arith
    go (Some item) some = let all = count_by-le-length has_message rows in let within = is.within in omega arith

  queues_keep : (capacity : ℕ) (items : ItemsTree) (qs : List (List Row)) →
      AllByRecursion (IsQueue Above capacity items) qs →
      sum_by (count_by has_message) qs ≤ length qs * capacity_for items capacity
  queues_keep capacity items [] h = omega arith
  queues_keep capacity items (rows ∷ qs) h =
      let first = queue_keeps capacity items rows h.0 in
      let rest = queues_keep capacity items qs h.1 in
      let split = sum_by-cons (count_by has_message) rows qs in
      let times = suc-mul (length qs) (capacity_for items capacity) in
      omega arith

  -- and a cell as its form says
  form_keeps : (n most : ℕ) → n ≤ most → (form : Form) (held : Contents) → HoldsForm Above n form held →
      rows_kept held ≤ message_rows most form
  form_keeps n most few (numbers shape initial) (state.numbers ns) h = omega arith
  form_keeps n most few (queue capacity items) (state.queues qs) h =
      let all = queues_keep capacity items qs h.1 in
      let one : length qs * capacity_for items capacity ≡ 1 * capacity_for items capacity =
      ap (λ k. k * capacity_for items capacity) h.0 in
      omega arith
  form_keeps n most few (queues capacity items) (state.queues qs) h =
      let all = queues_keep capacity items qs h.1 in
      let each : length qs * capacity_for items capacity ≡ n * capacity_for items capacity =
      ap (λ k. k * capacity_for items capacity) h.0 in
      let more : capacity_for items capacity * n ≤ capacity_for items capacity * most =
      mul-le-mul_left (capacity_for items capacity) few in
      omega arith
  form_keeps n most few (numbers shape initial) (state.queues qs) h = absurd h
  form_keeps n most few (queue capacity items) (state.numbers ns) h = absurd h
  form_keeps n most few (queues capacity items) (state.numbers ns) h = absurd h

  cells_keep : (n most : ℕ) → n ≤ most → (cells : List CellTree) (held : List Contents) →
      AllZip (λ (cell : CellTree) held. HoldsForm Above n cell.form held) cells held →
      sum_by rows_kept held ≤ sum_by (λ cell. message_rows most cell.form) cells
  cells_keep n most few [] [] h = omega arith
  cells_keep n most few [] (x ∷ held) h = absurd h
  cells_keep n most few (cell ∷ cells) [] h = absurd h
  cells_keep n most few (cell ∷ cells) (x ∷ held) h =
      let first = form_keeps n most few cell.form x h.0 in
      let rest = cells_keep n most few cells held h.1 in
      let one = sum_by-cons rows_kept x held in
      let two = sum_by-cons (λ (cell : CellTree). message_rows most cell.form) cell cells in
      omega arith

  state_keeps : (layer : LayerTree) (s : State) (most : ℕ) → IsState Above layer s → s.count ≤ most →
      messages_kept s ≤ layer_rows most layer
  state_keeps layer s most is few = cells_keep s.count most few layer.cells s.cells is.cells

-- layer by layer
layers_keep : (most : ℕ) (stack : List LayerTree) (states : List State) → length states ≡ length stack →
    ((place : ℕ) → place < length stack →
    messages_kept (slice_index_or states place no_state) ≤ layer_rows most (slice_index_or stack place no_layer)) →
    sum_by messages_kept states ≤ sum_by (layer_rows most) stack
layers_keep most [] [] same h = omega arith
layers_keep most [] (s ∷ states) same h = absurd (omega arith)
layers_keep most (layer ∷ stack) [] same h = absurd (omega arith)
layers_keep most (layer ∷ stack) (s ∷ states) same h =
    let first = h 0 (omega arith) in
    let rest = layers_keep most stack states (omega arith) (λ place below. h (suc place) (omega (arith, below))) in
    let one = sum_by-cons messages_kept s states in
    let two = sum_by-cons (layer_rows most) layer stack in
    omega arith

pub states_keep_rows : StatesKeepRows
states_keep_rows stack states most chained few = layers_keep most stack states chained.count (λ place below.
    state_keeps (IsFrom stack (suc place)) (slice_index_or stack place no_layer) (slice_index_or states place no_state)
    most
    (chained.states_are place below)
    (each_or (λ (s : State). s.count ≤ most) states place no_state few.within (omega arith)))

-- fresh states

fresh_within : (stack : List LayerTree) (me count ltime most : ℕ) → count ≤ most →
    AllByRecursion (λ (s : State). s.count ≤ most) (map (λ layer. fresh layer me count ltime) stack)
fresh_within [] me count ltime most few = tt
fresh_within (layer ∷ stack) me count ltime most few = (few, fresh_within stack me count ltime most few)

pub fresh_are_within : FreshAreWithin
fresh_are_within stack me count ltime most few = record { within = fresh_within stack me count ltime most few }
