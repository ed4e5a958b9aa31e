-- A desk that was made for a layer is at rest.
use Rattle.std.proofs.Common.{◌≡◌, ℕ, zero, suc, ◌+◌, ◌-◌, ◌≤◌, List, [], ◌∷◌, ◌++◌, map, length, min, replicate}
use Rattle.std.proofs.Common.{flat_map, vec_capacity, Option, refl, sym, ap, subst, ◌∙◌, arith}
use Rattle.std.specs.List.{AllByRecursion}
use Rattle.std.proofs.Math.Nat.{min-eq_left}
use Rattle.circular_buffer.specs.Buffer.{Buffer}
use Rattle.slot_pool.specs.Held.{Held}
use Rattle.layer_words.specs.declared.sorts.Shape.{Shape}
use Rattle.layer_words.specs.declared.events.Dir.{Dir}
use Rattle.layer_mean.specs.Tree as tree
use Rattle.layer_mean.specs.Tree.{CellTree, LayerTree}
use Rattle.desk_needs.specs.Layouts as room
use Rattle.cell_store.specs.Kept.{KeptCell, numbers, queues, Kept, capacity_of, state_of}
use Rattle.cell_store.specs.Fresh.{kept_first, kept_fresh, kept_form, tree_form, IsFor}
use Rattle.cell_store.proofs.Seen.{fresh_seen, fresh_for}
use Rattle.pool_message.specs.Seen.{row_seen}
use Rattle.pool_message.specs.declared.event.PoolEvent.{PoolEvent}
use Rattle.pool_message.specs.declared.row.PoolRow.{PoolRow}
use Rattle.live_layer.specs.Stock.{cell_refs, kept_refs, queues_refs, QueuesLie, CellLies}
use Rattle.live_layer.specs.Fits.{QueueFits, CellFits}
use Rattle.live_layer.specs.Ready.{layout_of}
use Rattle.live_layer.specs.Rest.{IsMadeFor, KeepsFew, IsAtRest}
use Rattle.live_layer.specs.Fresh.{IsEmpty, IsFresh}
use Rattle.live_layer.specs.declared.desk.FileDesk.{FileDesk}

no_refs : (n : ℕ) → queues_refs (replicate n []) ≡ []
no_refs zero = refl
no_refs (suc n) = no_refs n

no_lies : (p : List Held) (n : ℕ) → QueuesLie p (replicate n [])
no_lies p zero = tt
no_lies p (suc n) = (tt, no_lies p n)

none_fit : (capacity n : ℕ) → AllByRecursion (QueueFits capacity) (replicate n [])
none_fit capacity zero = tt
none_fit capacity (suc n) = (record { few = omega arith; short = tt }, none_fit capacity n)

long : (n : ℕ) → length (replicate {A = List PoolRow} n []) ≡ n
long zero = refl
long (suc n) = ap suc (long n)

module _ (me n ltime : ℕ) where
  first_refs : (form : tree.Form) → cell_refs (kept_first me n ltime form) ≡ []
  first_refs (tree.numbers shape initial) = refl
  first_refs (tree.queue capacity items) = refl
  first_refs (tree.queues capacity items) = no_refs n

  first_lies : (p : List Held) (form : tree.Form) → CellLies p (kept_first me n ltime form)
  first_lies p (tree.numbers shape initial) = tt
  first_lies p (tree.queue capacity items) = (tt, tt)
  first_lies p (tree.queues capacity items) = no_lies p n

  first_fits : n ≤ 32 → (form : tree.Form) → CellFits (kept_first me n ltime form)
  first_fits few (tree.numbers shape initial) = (omega arith, tt)
  first_fits few (tree.queue capacity items) = (omega arith, (record { few = omega arith; short = tt }, tt))
  first_fits few (tree.queues capacity items) = let same = long n in (omega arith, none_fit capacity n)

  all_refs : (cells : List CellTree) → flat_map cell_refs (map (λ (c : CellTree). kept_first me n ltime c.form) cells) ≡
      []
  all_refs [] = refl
  all_refs (c ∷ cells) = ap (λ r. r ++ flat_map cell_refs (map (λ (c : CellTree). kept_first me n ltime c.form) cells))
      (first_refs c.form) ∙ all_refs cells

  all_lie : (p : List Held) (cells : List CellTree) →
      AllByRecursion (CellLies p) (map (λ (c : CellTree). kept_first me n ltime c.form) cells)
  all_lie p [] = tt
  all_lie p (c ∷ cells) = (first_lies p c.form, all_lie p cells)

  all_fit : n ≤ 32 → (cells : List CellTree) →
      AllByRecursion CellFits (map (λ (c : CellTree). kept_first me n ltime c.form) cells)
  all_fit few [] = tt
  all_fit few (c ∷ cells) = (first_fits few c.form, all_fit few cells)

  first_rows : (form : tree.Form) → capacity_of {R = PoolRow} (kept_first me n ltime form) ≡ room.rows_kept form
  first_rows (tree.numbers shape initial) = refl
  first_rows (tree.queue capacity items) = refl
  first_rows (tree.queues capacity items) = refl

  pub all_rows : (cells : List CellTree) →
      map (capacity_of {R = PoolRow}) (map (λ (c : CellTree). kept_first me n ltime c.form) cells) ≡
      map (λ (c : CellTree). room.rows_kept c.form) cells
  all_rows [] = refl
  all_rows (c ∷ cells) = λ j. first_rows c.form j ∷ all_rows cells j

  pub empty_at_rest : (layer : LayerTree) (d : FileDesk) → n ≤ 32 → KeepsFew (room.layout_of layer 0) →
      IsMadeFor layer (room.layout_of layer 0) →
      IsEmpty layer me n ltime d → IsFresh layer me n ltime d
  empty_at_rest layer d few keeps made is = record {
    rest = λ p. record {
      lie = subst (λ (k : Kept PoolRow). AllByRecursion (CellLies p) k.cells) (sym is.cells) (all_lie p layer.cells);
      cells = subst (λ (k : Kept PoolRow). AllByRecursion CellFits k.cells) (sym is.cells) (all_fit few layer.cells);
      forms = subst (IsFor layer) (sym is.cells) (fresh_for PoolRow layer me n ltime n);
      numbers = is.numbers;
      messages = is.messages;
      arrived = is.arrived;
      hand = is.hand;
      sent = ap (λ (b : Buffer (Dir × PoolEvent)). b.items) is.sent;
      numbers_room = is.numbers_room;
      messages_room = is.messages_room;
      few = subst KeepsFew (sym is.layout) keeps;
      made = subst (IsMadeFor layer) (sym is.layout) made;
    };
    refs = ap kept_refs is.cells ∙ all_refs layer.cells;
    state = λ p. ap (state_of (row_seen p)) is.cells ∙ fresh_seen (row_seen p) layer me n ltime n;
  }

-- The rows that the cells of a layer keep.
form_rows : (cell : KeptCell PoolRow) (form : tree.Form) → kept_form cell ≡ tree_form form →
    capacity_of cell ≡ room.rows_kept form
form_rows (numbers shape ns) (tree.numbers shape' initial) same = refl
form_rows (numbers shape ns) (tree.queue capacity items) same = absurd (cc (ap (λ (p : Shape × Option ℕ). p.1) same))
form_rows (numbers shape ns) (tree.queues capacity items) same = absurd (cc (ap (λ (p : Shape × Option ℕ). p.1) same))
form_rows (queues shape capacity qs) (tree.numbers shape' initial) same =
    absurd (cc (ap (λ (p : Shape × Option ℕ). p.1) same))
form_rows (queues shape capacity qs) (tree.queue capacity' items) same = cc (ap (λ (p : Shape × Option ℕ). p.1) same)
form_rows (queues shape capacity qs) (tree.queues capacity' items) same = cc (ap (λ (p : Shape × Option ℕ). p.1) same)

layer_rows : (cells : List (KeptCell PoolRow)) (trees : List CellTree) →
    map kept_form cells ≡ map (λ (c : CellTree). tree_form c.form) trees →
    map capacity_of cells ≡ map (λ (c : CellTree). room.rows_kept c.form) trees
layer_rows [] [] same = refl
layer_rows [] (t ∷ trees) same = absurd (cc same)
layer_rows (c ∷ cells) [] same = absurd (cc same)
layer_rows (c ∷ cells) (t ∷ trees) same =
    let here : kept_form c ≡ tree_form t.form = cc same in
    let rest : map kept_form cells ≡ map (λ (c : CellTree). tree_form c.form) trees = cc same in
    λ j. form_rows c t.form here j ∷ layer_rows cells trees rest j

-- A desk at rest whose cells begin again has begun.
pub begins_again : (layer : LayerTree) (p : List Held) (me n ltime : ℕ) (d e : FileDesk) → IsAtRest layer p d → n ≤ 32 →
    e ≡ record d { cells = kept_fresh layer me n ltime d.cells.most } → IsFresh layer me n ltime e
begins_again layer p me n ltime d e is few new = subst (IsFresh layer me n ltime) (sym new) record {
  rest = λ q. record {
    lie = all_lie me n ltime q layer.cells;
    cells = all_fit me n ltime few layer.cells;
    forms = fresh_for PoolRow layer me n ltime d.cells.most;
    numbers = is.numbers;
    messages = is.messages;
    arrived = is.arrived;
    hand = is.hand;
    sent = is.sent;
    numbers_room = is.numbers_room;
    messages_room = is.messages_room;
    few = subst KeepsFew layout is.few;
    made = subst (IsMadeFor layer) layout is.made;
  };
  refs = all_refs me n ltime layer.cells;
  state = λ q. fresh_seen (row_seen q) layer me n ltime d.cells.most;
}
  where
    layout : layout_of d ≡ layout_of (record d { cells = kept_fresh layer me n ltime d.cells.most })
    layout = ap (λ rows. record (layout_of d) { rows = rows })
        (layer_rows d.cells.cells layer.cells is.forms ∙ sym (all_rows me n ltime layer.cells))

-- The layout of a desk with this room.
pub layout_at_first : (layer : LayerTree) (me n ltime : ℕ) (d : FileDesk) → KeepsFew (room.layout_of layer 0) →
    d.cells ≡ kept_fresh layer me n ltime n →
    vec_capacity d.numbers ≡ (room.layout_of layer 0).numbers + 6 →
    d.tray.messages.capacity ≡ (room.layout_of layer 0).messages + 1 →
    d.hand.capacity ≡ min (room.layout_of layer 0).hand 4294967295 → d.places ≡ 0 → layout_of d ≡ room.layout_of layer 0
layout_at_first layer me n ltime d keeps cells for_numbers messages in_hand places =
    let own = keeps.own in
    let rows : map capacity_of d.cells.cells ≡ (room.layout_of layer 0).rows =
    ap (λ (k : Kept PoolRow). map capacity_of k.cells) cells ∙ all_rows me n ltime layer.cells in
    let one : vec_capacity d.numbers - 6 ≡ (room.layout_of layer 0).numbers = omega arith in
    let two : d.tray.messages.capacity - 1 ≡ (room.layout_of layer 0).messages = omega arith in
    let three : d.hand.capacity ≡ (room.layout_of layer 0).hand = in_hand ∙ min-eq_left (omega arith) in
    λ j. record { rows = rows j; numbers = one j; messages = two j; hand = three j; places = places j }
