-- Cells of a desk that has no more than it is made for.
use Rattle.std.proofs.Common.{◌≡◌, ℕ, zero, suc, ◌<◌, ◌≤◌, List, [], ◌∷◌, ◌++◌, map, length, get_or, set, flat_map}
use Rattle.std.proofs.Common.{Bool, true, false, ◌&&◌, nat_lt, Some, None, length-set, refl, sym, ap, subst, ◌∙◌, arith}
use Rattle.std.specs.List.{AllByRecursion}
use Rattle.std.proofs.Math.Seq.{map-set_same}
use Rattle.std.proofs.lemmas.List.{length-append, map-set}
use Rattle.std.proofs.lemmas.Bool.{ltb-true, lt-ltb}
use Rattle.slot_pool.specs.Held.{Held}
use Rattle.slot_pool.specs.Times.{times}
use Rattle.slot_pool.proofs.References.{moved-same}
use Rattle.layer_mean.specs.State.{has_room, with_element, with_number}
use Rattle.layer_mean.specs.declared.run.Row.{Row}
use Rattle.layer_desk.specs.Laid.{assigned, queued, queued_first}
use Rattle.layer_desk.specs.Need.{Layout}
use Rattle.layer_desk.specs.Spent.{Begun}
use Rattle.cell_store.specs.Kept.{KeptCell, numbers, queues, Kept, nothing_kept, queues_kept, capacity_of, kept_at}
use Rattle.cell_store.specs.Kept.{kept_rows, kept_capacity, keeps_room, number_set, rows_set, with_kept, with_kept_rows}
use Rattle.cell_store.specs.Kept.{with_last, with_kept_number, contents_seen, state_of}
use Rattle.cell_store.specs.Fresh.{kept_form}
use Rattle.pool_message.specs.Seen.{row_seen}
use Rattle.pool_message.specs.declared.message.PoolMessage.{PoolMessage}
use Rattle.pool_message.specs.declared.row.PoolRow.{PoolRow}
use Rattle.live_layer.specs.Stock.{Stock, cell_refs, kept_refs, laid, CellLies}
use Rattle.live_layer.specs.Steps.{InPool, TakesOut}
use Rattle.live_layer.specs.Fits.{IsShort, IsShortIf, QueueFits, CellFits, StockFits}
use Rattle.live_layer.proofs.Lists.{all-append, all-following, all-front, all-get, all-set}
use Rattle.live_layer.proofs.Parts.{none_out, kept_out}
use Rattle.live_layer.proofs.Queues.{cell_seen, room_seen, queued_alone, queued_top}
use Rattle.live_layer.proofs.Ready.{fits_hand}
use Rattle.live_layer.proofs.Steps.{stepped}

pub refs_same : (cells : List (KeptCell PoolRow)) (c : ℕ) (x : KeptCell PoolRow) →
    cell_refs x ≡ cell_refs (get_or cells c nothing_kept) →
    flat_map cell_refs (set cells c x) ≡ flat_map cell_refs cells
refs_same [] c x same = refl
refs_same (y ∷ cells) zero x same = ap (λ r. r ++ flat_map cell_refs cells) same
refs_same (y ∷ cells) (suc c) x same = ap (λ r. cell_refs y ++ r) (refs_same cells c x same)

-- A cell becomes another with as many rows.
pub cell_fits : (l : Layout) (s : Stock) (c : ℕ) (x : KeptCell PoolRow) → StockFits l s → CellFits x →
    capacity_of x ≡ capacity_of (kept_at s.kept c) → StockFits l (record s { kept = with_kept s.kept c x })
cell_fits l s c x fits one capacity = record {
  rows = map-set_same capacity_of s.kept.cells c x nothing_kept capacity ∙ fits.rows;
  cells = all-set CellFits s.kept.cells c x fits.cells one;
  numbers = fits.numbers;
  messages = fits.messages;
  short = fits.short;
  hand = fits.hand;
  hand_short = fits.hand_short;
  sent = fits.sent;
  few = fits.few;
}

pub cell_fit : (l : Layout) (s : Stock) (c : ℕ) → StockFits l s → CellFits (kept_at s.kept c)
cell_fit l s c fits = all-get CellFits s.kept.cells c nothing_kept fits.cells (omega arith, tt)

-- The layout, where its rows are as before.
pub layout_kept : (d l : Layout) (rows : List ℕ) → d ≡ l → rows ≡ l.rows → record d { rows = rows } ≡ l
layout_kept d l rows same r = λ j. record (same j) { rows = r j }

-- ---- forms

number_form : (i v : ℕ) (cell : KeptCell PoolRow) → kept_form (number_set i v cell) ≡ kept_form cell
number_form i v (numbers shape ns) = refl
number_form i v (queues shape capacity qs) = refl

rows_form : (i : ℕ) (rows : List PoolRow) (cell : KeptCell PoolRow) → kept_form (rows_set i rows cell) ≡ kept_form cell
rows_form i rows (numbers shape ns) = refl
rows_form i rows (queues shape capacity qs) = refl

-- Cells are what they were.
pub forms_number : (new old : Kept PoolRow) (c i v : ℕ) → new ≡ with_kept_number old c i v →
    map kept_form new.cells ≡ map kept_form old.cells
forms_number new old c i v is =
    ap (λ (k : Kept PoolRow). map kept_form k.cells) is ∙
    map-set_same kept_form old.cells c (number_set i v (kept_at old c)) nothing_kept (number_form i v (kept_at old c))

pub forms_rows : (new old : Kept PoolRow) (c i : ℕ) (rows : List PoolRow) → new ≡ with_kept_rows old c i rows →
    map kept_form new.cells ≡ map kept_form old.cells
forms_rows new old c i rows is =
    ap (λ (k : Kept PoolRow). map kept_form k.cells) is ∙
    map-set_same kept_form old.cells c (rows_set i rows (kept_at old c)) nothing_kept (rows_form i rows (kept_at old c))

-- ---- rows

pub rows_set_fits : (i : ℕ) (rows : List PoolRow) (cell : KeptCell PoolRow) → CellFits cell →
    QueueFits (capacity_of cell) rows → CellFits (rows_set i rows cell)
rows_set_fits i rows (numbers shape ns) fit one = fit
rows_set_fits i rows (queues shape capacity qs) fit one = let count = length-set qs i rows in let many = fit.0 in
    (omega arith, all-set (QueueFits capacity) qs i rows fit.1 one)

pub rows_set_capacity : (i : ℕ) (rows : List PoolRow) (cell : KeptCell PoolRow) → capacity_of (rows_set i rows cell) ≡
    capacity_of cell
rows_set_capacity i rows (numbers shape ns) = refl
rows_set_capacity i rows (queues shape capacity qs) = refl

-- A queue gets other rows, no more than its capacity.
pub rows_fits : (l : Layout) (s : Stock) (c i : ℕ) (rows : List PoolRow) → StockFits l s →
    QueueFits (kept_capacity s.kept c) rows →
    StockFits l (record s { kept = with_kept_rows s.kept c i rows })
rows_fits l s c i rows fits one =
    cell_fits l s c (rows_set i rows (kept_at s.kept c)) fits
    (rows_set_fits i rows (kept_at s.kept c) (cell_fit l s c fits) one)
    (rows_set_capacity i rows (kept_at s.kept c))

-- The rows of a queue fit.
pub queue_fits : (l : Layout) (s : Stock) (c i : ℕ) → StockFits l s →
    QueueFits (kept_capacity s.kept c) (kept_rows s.kept c i)
queue_fits l s c i fits =
    all-get (QueueFits (kept_capacity s.kept c)) (queues_kept (kept_at s.kept c)) i [] (cell_fit l s c fits).1
    (record { few = omega arith; short = tt })

pub last_fits : (l : Layout) (s : Stock) (c i : ℕ) (row : PoolRow) → StockFits l s →
    length (kept_rows s.kept c i) < kept_capacity s.kept c → IsShortIf row.message →
    StockFits l (record s { kept = with_last s.kept c i row })
last_fits l s c i row fits room short =
    let queue = queue_fits l s c i fits in
    rows_fits l s c i (kept_rows s.kept c i ++ row ∷ []) fits (record {
      few = omega (arith, length-append (kept_rows s.kept c i) (row ∷ []));
      short = all-append (λ (r : PoolRow). IsShortIf r.message) (kept_rows s.kept c i) (row ∷ []) queue.short
          (short, tt);
    })

-- Where there is room for a capacity, and the queue keeps as many, there is room for a row.
and_both : (a b : Bool) → (a && b) ≡ true → (a ≡ true) × (b ≡ true)
and_both true true is = (refl, refl)
and_both true false is = absurd (cc)
and_both false b is = absurd (cc)

pub there_with_room : (k : Kept PoolRow) (c i capacity : ℕ) → keeps_room k c i capacity ≡ true →
    (i < length (queues_kept (kept_at k c))) × (length (kept_rows k c i) < capacity)
there_with_room k c i capacity is =
    let both = and_both (nat_lt i (length (queues_kept (kept_at k c)))) (nat_lt (length (kept_rows k c i)) capacity) is
    in
    (ltb-true i (length (queues_kept (kept_at k c))) both.0, ltb-true (length (kept_rows k c i)) capacity both.1)

pub room_for_row : (see : PoolRow → Row) (k : Kept PoolRow) (c i capacity : ℕ) →
    has_room (state_of see k) c i capacity ≡ true → capacity ≤ kept_capacity k c →
    keeps_room k c i (kept_capacity k c) ≡ true
room_for_row see k c i capacity is enough =
    let room = there_with_room k c i capacity (room_seen see k c i capacity ∙ is) in
    let below : nat_lt i (length (queues_kept (kept_at k c))) ≡ true =
    lt-ltb i (length (queues_kept (kept_at k c))) room.0 in
    let few = room.1 in
    let fits : nat_lt (length (kept_rows k c i)) (kept_capacity k c) ≡ true =
    lt-ltb (length (kept_rows k c i)) (kept_capacity k c) (omega arith) in
    λ j. below j && fits j

-- A row of numbers alone, or one with the first message in hand, is put at the back of a queue.
module _ (b : Begun) (p : List Held) (s : Stock) (is : InPool b p s) (fits : StockFits b.layout s) (c i : ℕ)
    (room : keeps_room s.kept c i (kept_capacity s.kept c) ≡ true) (ns : List ℕ) (k : Kept PoolRow) where
  pub alone_fits : k ≡ with_last s.kept c i (record { numbers = ns; message = None }) →
      InPool b p (record s { kept = k }) × StockFits b.layout (record s { kept = k }) ×
      (laid p (record s { kept = k }) ≡ queued c i (record { numbers = ns; message = None }) (laid p s))
  alone_fits new =
      let there = there_with_room s.kept c i (kept_capacity s.kept c) room in
      let step = queued_alone b p s is c i there.0 ns in
      subst (λ k. InPool b p (record s { kept = k }) × StockFits b.layout (record s { kept = k }) ×
      (laid p (record s { kept = k }) ≡ queued c i (record { numbers = ns; message = None }) (laid p s)))
      (sym new) (step.0, last_fits b.layout s c i (record { numbers = ns; message = None }) fits there.1 tt, step.1)

  pub top_fits : (rest : List PoolMessage) (m : PoolMessage) → s.hand ≡ rest ++ m ∷ [] →
      k ≡ with_last s.kept c i (record { numbers = ns; message = Some m }) →
      InPool b p (record s { hand = rest; kept = k }) × StockFits b.layout (record s { hand = rest; kept = k }) ×
      (laid p (record s { hand = rest; kept = k }) ≡ queued_first c i ns (laid p s))
  top_fits rest m at new =
      let there = there_with_room s.kept c i (kept_capacity s.kept c) room in
      let step = queued_top b p s is c i there.0 ns rest m at in
      let short = subst (AllByRecursion IsShort) at fits.hand_short in
      let long = ap length at in let all = fits.hand in
      let left : StockFits b.layout (record s { hand = rest }) =
      fits_hand b.layout s rest fits (omega (arith, length-append rest (m ∷ [])))
      (all-front IsShort rest (m ∷ []) short) in
      subst (λ k. InPool b p (record s { hand = rest; kept = k }) ×
      StockFits b.layout (record s { hand = rest; kept = k }) ×
      (laid p (record s { hand = rest; kept = k }) ≡ queued_first c i ns (laid p s)))
      (sym new) (
        step.0,
        last_fits b.layout (record s { hand = rest }) c i (record { numbers = ns; message = Some m }) left
            there.1 (all-following IsShort rest (m ∷ []) short).0,
        step.1,
      )

-- ---- numbers

pub set_refs : (i v : ℕ) (cell : KeptCell PoolRow) → cell_refs (number_set i v cell) ≡ cell_refs cell
set_refs i v (numbers shape ns) = refl
set_refs i v (queues shape capacity qs) = refl

pub set_lies : (p : List Held) (i v : ℕ) (cell : KeptCell PoolRow) → CellLies p cell → CellLies p (number_set i v cell)
set_lies p i v (numbers shape ns) lie = tt
set_lies p i v (queues shape capacity qs) lie = lie

pub set_fits : (i v : ℕ) (cell : KeptCell PoolRow) → CellFits cell → CellFits (number_set i v cell)
set_fits i v (numbers shape ns) fit = fit
set_fits i v (queues shape capacity qs) fit = fit

pub set_capacity : (i v : ℕ) (cell : KeptCell PoolRow) → capacity_of (number_set i v cell) ≡ capacity_of cell
set_capacity i v (numbers shape ns) = refl
set_capacity i v (queues shape capacity qs) = refl

written_seen : (see : PoolRow → Row) (i v : ℕ) (cell : KeptCell PoolRow) → with_element i v (contents_seen see cell) ≡
    contents_seen see (number_set i v cell)
written_seen see i v (numbers shape ns) = refl
written_seen see i v (queues shape capacity qs) = refl

state_number : (see : PoolRow → Row) (k : Kept PoolRow) (c i v : ℕ) → state_of see (with_kept_number k c i v) ≡
    with_number (state_of see k) c i v
state_number see k c i v =
    ap (λ cells. record (state_of see k) { cells = cells })
    (map-set (contents_seen see) k.cells c (number_set i v (kept_at k c)) ∙
    ap (set (map (contents_seen see) k.cells) c)
    (sym (written_seen see i v (kept_at k c)) ∙ ap (with_element i v) (sym (cell_seen see k c))))

pub number_fits : (b : Begun) (p : List Held) (s : Stock) → InPool b p s → StockFits b.layout s →
    (c i v : ℕ) (k : Kept PoolRow) → k ≡ with_kept_number s.kept c i v →
    InPool b p (record s { kept = k }) × StockFits b.layout (record s { kept = k }) ×
    (laid p (record s { kept = k }) ≡ assigned c i v (laid p s))
number_fits b p s is fits c i v k new =
    let x = number_set i v (kept_at s.kept c) in
    let same : kept_refs (with_kept_number s.kept c i v) ≡ kept_refs s.kept =
    refs_same s.kept.cells c x (set_refs i v (kept_at s.kept c)) in
    let out : TakesOut (record s { kept = with_kept_number s.kept c i v }) s [] =
    kept_out s (with_kept_number s.kept c i v) s.kept [] (λ j. let one = ap (times j) same in omega arith) in
    subst (λ k. InPool b p (record s { kept = k }) × StockFits b.layout (record s { kept = k }) ×
    (laid p (record s { kept = k }) ≡ assigned c i v (laid p s))) (sym new) (
      stepped b p p s s (record s { kept = with_kept_number s.kept c i v }) [] [] is (none_out s) out (moved-same p [])
          (record {
            kept = all-set (CellLies p) s.kept.cells c x is.lies.kept
                (set_lies p i v (kept_at s.kept c) (all-get (CellLies p) s.kept.cells c nothing_kept is.lies.kept tt));
            messages = is.lies.messages;
            arrived = is.lies.arrived;
            hand = is.lies.hand;
            sent = is.lies.sent;
          }),
      cell_fits b.layout s c x fits (set_fits i v (kept_at s.kept c) (cell_fit b.layout s c fits))
          (set_capacity i v (kept_at s.kept c)),
      ap (λ state. record (laid p s) { state = state }) (state_number (row_seen p) s.kept c i v),
    )
