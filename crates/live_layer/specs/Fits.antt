-- How much a desk has at most.
use Rattle.std.specs.Prelude.{◌≡◌, ℕ, ◌+◌, ◌*◌, ◌≤◌, List, [], ◌∷◌, map, length, take, Option, Some, None}
use Rattle.std.specs.List.{AllByRecursion}
use Rattle.circular_buffer.specs.Buffer.{Buffer}
use Rattle.slot_pool.specs.Times.{times}
use Rattle.layer_words.specs.declared.events.Dir.{Dir}
use Rattle.cell_store.specs.Kept.{KeptCell, queues_kept, capacity_of}
use Rattle.layer_desk.specs.Need.{Layout, most_above}
use Rattle.pool_message.specs.declared.message.PoolMessage.{PoolMessage}
use Rattle.pool_message.specs.Sent.{sent_refs, most_sent}
use Rattle.pool_message.specs.declared.event.PoolEvent.{PoolEvent}
use Rattle.pool_message.specs.declared.row.PoolRow.{PoolRow}
use Rattle.live_layer.specs.Stock.{Stock}
use Rattle.msg_core.specs.View.{most_members}

-- The most references of a desk's rows, and of a whole desk beside what it sends.
abbrev pub most_desk_rows : ℕ
most_desk_rows = 32768

abbrev pub most_own : ℕ
most_own = 15728638

-- The most numbers that a scope has before its block declares any: those of the event, and the fields of a header. It
-- has at most one message.
abbrev pub most_bound : ℕ
most_bound = 6

-- A message has no more headers than there are places above a layer.
abbrev pub IsShort : PoolMessage → Type 0
IsShort m = length m.headers ≤ most_above

abbrev pub IsShortIf : Option PoolMessage → Type 0
IsShortIf None = Unit {0}
IsShortIf (Some m) = IsShort m

-- A queue's rows have only such messages, and are no more than a capacity.
pub record QueueFits (capacity : ℕ) (rows : List PoolRow) : Type 0 where
  pub few : length rows ≤ capacity
  pub short : AllByRecursion (λ r. IsShortIf r.message) rows

-- A cell has no more queues than there are members.
abbrev pub CellFits : KeptCell PoolRow → Type 0
CellFits cell = (length (queues_kept cell) ≤ most_members) ×
    AllByRecursion (QueueFits (capacity_of cell)) (queues_kept cell)

-- The most rows that cells keep, by the capacities of their queues.
abbrev pub rows_most : List ℕ → ℕ
rows_most [] = 0
rows_most (n ∷ capacities) = most_members * n + rows_most capacities

-- A desk has no more than it is made for.
pub record StockFits (l : Layout) (s : Stock) : Type 0 where
  pub rows : map capacity_of s.kept.cells ≡ l.rows
  pub cells : AllByRecursion CellFits s.kept.cells
  pub numbers : length s.numbers ≤ l.numbers + most_bound
  pub messages : length s.messages ≤ l.messages + 1
  pub short : AllByRecursion IsShort s.messages
  pub hand : length s.hand ≤ l.hand
  pub hand_short : AllByRecursion IsShort s.hand
  pub sent : length s.sent ≤ l.places
  pub few : rows_most l.rows + (l.messages + (2 + l.hand)) ≤ most_own

-- What is sent is added to a list with room for `list` events. `first` events were there before, and their references
-- are among those of the beginning; there may be `places` events, no more than any list of events has.
pub record SentGrows (from : List ℕ) (list first places : ℕ) (sent : Buffer (Dir × PoolEvent)) : Type 0 where
  pub kept : sent.capacity ≡ list
  pub before : first ≤ length sent.items
  pub within : places ≤ sent.capacity
  pub few : places ≤ most_sent
  pub old : (i : ℕ) → times i (sent_refs (take first sent.items)) ≤ times i from
