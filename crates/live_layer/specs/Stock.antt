-- What a desk in a pool has, and what is seen of it.
use Rattle.std.specs.Prelude.{ℕ, List, ◌++◌, map, reverse, Option}
use Rattle.std.specs.List.{flat_map, AllByRecursion}
use Rattle.slot_pool.specs.Held.{Held}
use Rattle.layer_words.specs.declared.events.Dir.{Dir}
use Rattle.cell_store.specs.Kept.{KeptCell, Kept, queues_kept, state_of}
use Rattle.pool_message.specs.Seen.{refs, content_seen, Lies, refs_if, seen_if, LiesIf, row_refs, row_seen, RowLies}
use Rattle.pool_message.specs.Sent.{sent_refs, sent_seen, SentLie}
use Rattle.pool_message.specs.declared.event.PoolEvent.{PoolEvent}
use Rattle.pool_message.specs.declared.message.PoolMessage.{PoolMessage}
use Rattle.pool_message.specs.declared.row.PoolRow.{PoolRow}
use Rattle.layer_desk.specs.Laid.{Laid}

-- The state's cells; the numbers and the messages of the scope; the message that arrived; the messages in hand, the
-- newest last; and what was sent.
pub record Stock : Type 0 where
  pub kept : Kept PoolRow
  pub numbers : List ℕ
  pub messages : List PoolMessage
  pub arrived : Option PoolMessage
  pub hand : List PoolMessage
  pub sent : List (Dir × PoolEvent)

-- The references of some queues, of a cell, of all cells, and of a desk.
abbrev pub queues_refs : List (List PoolRow) → List ℕ
queues_refs queues = flat_map (flat_map row_refs) queues

abbrev pub cell_refs : KeptCell PoolRow → List ℕ
cell_refs cell = queues_refs (queues_kept cell)

abbrev pub kept_refs : Kept PoolRow → List ℕ
kept_refs kept = flat_map cell_refs kept.cells

abbrev pub stock_refs : Stock → List ℕ
stock_refs s = kept_refs s.kept ++
    (flat_map refs s.messages ++ (refs_if s.arrived ++ (flat_map refs s.hand ++ sent_refs s.sent)))

-- What lies on the desk, with the bodies that the pool holds.
abbrev pub laid : List Held → Stock → Laid
laid p s = record {
  state = state_of (row_seen p) s.kept;
  scope = record { numbers = s.numbers; messages = map (content_seen p) s.messages };
  arrived = seen_if p s.arrived;
  hand = reverse (map (content_seen p) s.hand);
  sent = sent_seen p s.sent;
}

-- Its messages lie in the pool.
abbrev pub QueuesLie : List Held → List (List PoolRow) → Type 0
QueuesLie p queues = AllByRecursion (AllByRecursion (RowLies p)) queues

abbrev pub CellLies : List Held → KeptCell PoolRow → Type 0
CellLies p cell = QueuesLie p (queues_kept cell)

pub record StockLies (p : List Held) (s : Stock) : Type 0 where
  pub kept : AllByRecursion (CellLies p) s.kept.cells
  pub messages : AllByRecursion (Lies p) s.messages
  pub arrived : LiesIf p s.arrived
  pub hand : AllByRecursion (Lies p) s.hand
  pub sent : SentLie p s.sent
