-- Runs of typed layers from chained states are as traces rely on.
use Rattle.std.proofs.Common.{◌≡◌, ℕ, zero, suc, ◌-◌, ◌<◌, ◌≤◌, true, List, [], ◌∷◌, length, Some}
use Rattle.std.proofs.Common.{option_map, refl, sym, ap, ◌∙◌, arith}
use Rattle.std.specs.Prelude.{nat_le, slice_get, slice_index_or}
use Rattle.std.specs.List.{AllByRecursion, AllZip}
use Rattle.std.proofs.lemmas.Bool.{and_parts, leb-true}
use Rattle.std.proofs.lemmas.Option.{slice_get-get_or}
use Rattle.msg_core.specs.declared.message.Header.{Header}
use Rattle.layer_words.specs.declared.sorts.Sort.{Sort}
use Rattle.layer_words.specs.declared.events.Dir.{Dir}
use Rattle.layer_mean.specs.declared.run.Case.{Case}
use Rattle.layer_mean.specs.declared.run.Event.{Event}
use Rattle.layer_mean.specs.Event.{carries}
use Rattle.layer_mean.specs.declared.run.Row.{Row}
use Rattle.layer_mean.specs.Tree.{message, held}
use Rattle.layer_mean.specs.Tree.{ItemsTree, Form, numbers, queue, queues, CellTree, LayerTree, no_layer}
use Rattle.layer_mean.specs.State as state
use Rattle.layer_mean.specs.State.{State, Contents, no_cell, queues_in}
use Rattle.layer_mean.specs.Value.{Scope, val}
use Rattle.layer_mean.specs.Queue.{Task, Line, Work, is_place, layer_at, state_at, run_for, layers, run, unstarted_work}
use Rattle.layer_mean.specs.Queue.{starting}
use Rattle.layer_mean.specs.Way.{Step, put, get, send}
use Rattle.packet_mean.specs.ChainedState.{IsFrom, IsRow, IsState, HoldsForm, IsQueue}
use Rattle.chain_laws.specs.Typed.{queue_at}
use Rattle.chain_laws.specs.Runs.{TypedStack, AreChainedStates, IsChainedTask}
use Rattle.chain_laws.proofs.Sorts.{IsScope}
use Rattle.chain_laws.proofs.Statements.{Stands, row_is}
use Rattle.chain_laws.proofs.Visits.{come_is, stands}
use Rattle.chain_laws.proofs.Runs.{comes, stands_typed, run_from_a_task}
use Rattle.member_laws.proofs.Bare.{content_bare, taken_bare}
use Rattle.trace_mean.specs.Fuse.{items_of}
use Rattle.trace_laws.specs.Along.{AlongVisit}
use Rattle.trace_laws.specs.Fit.{how_many, HasItems, FitStep, FitNext, TypedRunsFit}
use Rattle.trace_laws.proofs.Along.{TypedStep, visit_goes}

-- how many queues a cell of a chained state has
queues_are : (P : List Header → Type 0) (n : ℕ) (form : Form) (held : Contents) → HoldsForm P n form held →
    length (queues_in held) ≡ how_many (Some form) n
queues_are P n (numbers shape initial) (state.numbers ns) h = refl
queues_are P n (numbers shape initial) (state.queues qs) h = absurd h
queues_are P n (queue capacity items) (state.numbers ns) h = absurd h
queues_are P n (queue capacity items) (state.queues qs) h = h.0
queues_are P n (queues capacity items) (state.numbers ns) h = absurd h
queues_are P n (queues capacity items) (state.queues qs) h = h.0

cells_are : (P : List Header → Type 0) (n : ℕ) (cells : List CellTree) (held : List Contents) (c : ℕ) →
    AllZip (λ (cell : CellTree) h. HoldsForm P n cell.form h) cells held →
    length (queues_in (slice_index_or held c no_cell)) ≡
    how_many (option_map (λ (cell : CellTree). cell.form) (slice_get cells c)) n
cells_are P n [] [] c h = refl
cells_are P n [] (y ∷ ys) c h = absurd h
cells_are P n (x ∷ xs) [] c h = absurd h
cells_are P n (x ∷ xs) (y ∷ ys) zero h = queues_are P n x.form y h.0
cells_are P n (x ∷ xs) (y ∷ ys) (suc c) h = cells_are P n xs ys c h.1

-- the rows of a chained state have their queue's items
row_has : (P : List Header → Type 0) (items : ItemsTree) (rows : List Row) (k : ℕ) →
    AllByRecursion (IsRow P items) rows →
    HasItems (length items.numbers) (slice_get rows k)
row_has P items [] k h = tt
row_has P items (x ∷ xs) zero h = h.0.count
row_has P items (x ∷ xs) (suc k) h = row_has P items xs k h.1

queue_has : (P : List Header → Type 0) (capacity : ℕ) (items : ItemsTree) (qs : List (List Row)) (i k : ℕ) →
    AllByRecursion (IsQueue P capacity items) qs →
    HasItems (length items.numbers) (slice_get (slice_index_or qs i []) k)
queue_has P capacity items [] i k h = tt
queue_has P capacity items (q ∷ qs) zero k h = row_has P items q k h.0.rows_are
queue_has P capacity items (q ∷ qs) (suc i) k h = queue_has P capacity items qs i k h.1

form_has : (P : List Header → Type 0) (n : ℕ) (form : Form) (held : Contents) (i k : ℕ) → HoldsForm P n form held →
    HasItems (items_of (Some form)) (slice_get (slice_index_or (queues_in held) i []) k)
form_has P n (numbers shape initial) (state.numbers ns) i k h = tt
form_has P n (numbers shape initial) (state.queues qs) i k h = absurd h
form_has P n (queue capacity items) (state.numbers ns) i k h = absurd h
form_has P n (queue capacity items) (state.queues qs) i k h = queue_has P capacity items qs i k h.1
form_has P n (queues capacity items) (state.numbers ns) i k h = absurd h
form_has P n (queues capacity items) (state.queues qs) i k h = queue_has P capacity items qs i k h.1

rows_have : (P : List Header → Type 0) (n : ℕ) (cells : List CellTree) (held : List Contents) (c i k : ℕ) →
    AllZip (λ (cell : CellTree) h. HoldsForm P n cell.form h) cells held →
    HasItems (items_of (option_map (λ (cell : CellTree). cell.form) (slice_get cells c)))
    (slice_get (slice_index_or (queues_in (slice_index_or held c no_cell)) i []) k)
rows_have P n [] [] c i k h = tt
rows_have P n [] (y ∷ ys) c i k h = absurd h
rows_have P n (x ∷ xs) [] c i k h = absurd h
rows_have P n (x ∷ xs) (y ∷ ys) zero i k h = form_has P n x.form y i k h.0
rows_have P n (x ∷ xs) (y ∷ ys) (suc c) i k h = rows_have P n xs ys c i k h.1

module _ (stack : List LayerTree) (layer : LayerTree) (place : ℕ) (blank : List Header)
    (laws : Stands (IsFrom stack (suc place)) (IsFrom stack place) layer place blank)
    (same : layer ≡ slice_index_or stack place no_layer) where
  fits : (x : Step) (sorts : List Sort) (s : State) (l : Scope) (sent : List (Dir × Event)) →
      TypedStep layer blank sorts x →
      IsState (IsFrom stack (suc place)) layer s → IsScope (IsFrom stack (suc place)) sorts l →
      FitStep stack place layer x (record { state = s; scope = l; sent = sent })
  fits (put c i capacity row) sorts s l sent h state scope = (
    record {
      rows = h.rows;
      listed = ap (λ l. queue_at l c) (sym same) ∙ h.listed;
      room = h.room;
      row_is = row_is (IsFrom stack (suc place)) (IsFrom stack place) layer place blank laws sorts c capacity row s l h
          state scope;
    },
    cells_are (IsFrom stack (suc place)) s.count layer.cells s.cells c state.cells,
  )
  fits (get c i taken) sorts s l sent h state scope = (
    taken_bare (IsFrom stack (suc place)) (IsFrom stack place) layer place blank laws c (val i s l) taken.message sorts
        s h state,
    rows_have (IsFrom stack (suc place)) s.count layer.cells s.cells c (val i s l) 0 state.cells,
  )
  fits (send e) sorts s l sent h state scope =
      content_bare (IsFrom stack (suc place)) (IsFrom stack place) layer place blank laws sorts (carries e.kind)
      e.direction e.content s l h.1 state
  fits _ sorts s l sent h state scope = tt

task_fits : (case : Case) (stack : List LayerTree) (w : Work) (t : Task Event) → TypedStack stack →
    AreChainedStates stack w.states →
    IsChainedTask stack t → is_place (length stack) t.at ≡ true →
    AlongVisit (FitStep stack (t.at - 1) (layer_at stack t.at)) case (t.at - 1) (layer_at stack t.at) (state_at w t.at)
    t.dir t.event
task_fits case stack w t typed states task placed =
    let bounds = and_parts (nat_le 1 t.at) (nat_le t.at (length stack)) placed in
    let first : 1 ≤ t.at = leb-true 1 t.at bounds.0 in
    let last : t.at ≤ length stack = leb-true t.at (length stack) bounds.1 in
    let place : ℕ = t.at - 1 in
    let below : place < length stack = omega (arith, first, last) in
    let layer : LayerTree = layer_at stack t.at in
    let at = stands_typed stack place layer typed (slice_get-get_or stack place no_layer below) in
    let laws = stands stack place _ layer at.listed at.blank_is in
    visit_goes (IsFrom stack (suc place)) (IsFrom stack place) layer place _ laws (FitStep stack place layer)
    (fits stack layer place _ laws refl) case
    (state_at w t.at) t.dir t.event at.typed (states.states_are place below)
    (come_is stack place t.dir t.event (comes stack t.at t.dir t.event first task.event))

next_fits : (case : Case) (stack : List LayerTree) (w : Work) (tasks : List (Task Event)) → TypedStack stack →
    AreChainedStates stack w.states → AllByRecursion (IsChainedTask stack) tasks → FitNext case stack w tasks
next_fits case stack w [] typed states h = tt
next_fits case stack w (t ∷ rest) typed states h = (h.0, λ placed. task_fits case stack w t typed states h.0 placed)

pub typed_runs_fit : TypedRunsFit
unfolding run
typed_runs_fit case stack states task typed h is = λ k.
    let q : Line Work Event = run_for (length stack) (layers stack) k (starting (unstarted_work states) task) in
    let line = run_from_a_task stack k states task typed h is in
    next_fits case stack q.world q.tasks typed line.states line.tasks
