-- The room that a desk has, and what expressions, statements and visits need of it at most.
use Rattle.std.specs.Prelude.{ℕ, ◌+◌, ◌*◌, Bool, not, ◌&&◌, nat_lt, nat_le, if◌then◌else◌, List, length, slice_index}
use Rattle.std.specs.Prelude.{max, Option, Some, None}
use Rattle.std.specs.List.{list_all}
use Rattle.msg_core.specs.declared.message.Header.{Header}
use Rattle.std.specs.Option.{option_map_or}
use Rattle.msg_core.specs.Chain.{Content}
use Rattle.layer_mean.specs.Tree.{Carried, part, whole, MessageTree, held, cut, tail, join, ContentTree, EmissionTree}
use Rattle.layer_mean.specs.Tree.{RowTree, TakenTree, StatementTree, push, take, branch, each, emit, StatementTrees}
use Rattle.layer_mean.specs.Tree.{none, more, HandlerTree}
use Rattle.layer_mean.specs.Visit.{Met}
use Rattle.stack_mean.specs.Emissions.{joins_in_message, joins_in_content, joins_in_row, joins, joins_of, handler_joins}
use Rattle.msg_core.specs.Headers.{most_places}

-- What a desk is made for: how many rows a queue of each cell keeps, how many numbers and messages a block may declare,
-- how many messages may be in hand, and how many events may be sent.
pub record Layout : Type 0 where
  pub rows : List ℕ
  pub numbers : ℕ
  pub messages : ℕ
  pub hand : ℕ
  pub places : ℕ

-- The slots of the pool that are unused, how many events can still be sent, and how many more messages the hand takes.
pub record Room : Type 0 where
  pub slots : ℕ
  pub places : ℕ
  pub hand : ℕ

-- What is needed of these three; how many headers a message brings; and how many parts of a tree are misfits for the
-- layout.
pub record Need : Type 0 where
  pub slots : ℕ
  pub places : ℕ
  pub hand : ℕ
  pub headers : ℕ
  pub misfits : ℕ

-- The most headers of a message that a layer keeps: those of the places above it.
abbrev pub most_above : ℕ
most_above = 23

-- The needs of the operations.
abbrev pub nothing_needed : Need
nothing_needed = record { slots = 0; places = 0; hand = 0; headers = 0; misfits = 0 }

abbrev pub one_slot : Need
one_slot = record nothing_needed { slots = 1 }

abbrev pub one_place : Need
one_place = record nothing_needed { places = 1 }

abbrev pub one_in_hand : Need
one_in_hand = record nothing_needed { hand = 1 }

abbrev pub one_if : Bool → ℕ
one_if b = if b then 1 else 0

-- Whether the headers of a message that stands in for another are of places above a layer.
abbrev pub are_above : List Header → Bool
are_above blank = nat_le (length blank) most_above && list_all (λ h. nat_lt h.layer most_places) blank

abbrev pub too_wide : Carried → ℕ
too_wide part = 0
too_wide (whole blank) = one_if (not (are_above blank))

-- 1 where a queue's rows are fewer than a capacity, else 0.
abbrev pub too_short : Layout → ℕ → ℕ → ℕ
too_short layout c capacity = one_if (nat_lt (slice_index layout.rows c) capacity)

abbrev pub held_need : Carried → Need
held_need carried = record one_in_hand { misfits = too_wide carried }

abbrev pub room_need : Layout → ℕ → ℕ → Need
room_need layout c capacity = record nothing_needed { misfits = too_short layout c capacity }

-- The places of the hand that a message takes while it is made.
abbrev pub lifts : MessageTree → ℕ
lifts (cut m from length) = lifts m
lifts (tail m from) = lifts m
lifts (join p m) = lifts p + lifts m
lifts _ = 1

-- A message that stands in for another may be a misfit where its headers are used: a cut has none, and a join has those
-- of its second message.
abbrev pub message_misfits : MessageTree → ℕ
message_misfits (held c i row carried) = too_wide carried
message_misfits (tail m from) = message_misfits m
message_misfits (join p m) = message_misfits m
message_misfits _ = 0

abbrev pub message_need : MessageTree → Need
message_need m =
    record { slots = joins_in_message m; places = 0; hand = lifts m; headers = 0; misfits = message_misfits m }

-- The needs of a row, of a row that is taken, and of an emission.
abbrev pub row_lifts : RowTree → ℕ
row_lifts r = option_map_or lifts r.message 0

abbrev pub row_misfits : RowTree → ℕ
row_misfits r = option_map_or message_misfits r.message 0

abbrev pub push_misfits : Layout → ℕ → ℕ → RowTree → ℕ
push_misfits layout c capacity row = too_short layout c capacity + row_misfits row

abbrev pub push_need : Layout → ℕ → ℕ → RowTree → Need
push_need layout c capacity row = record {
  slots = joins_in_row row;
  places = 0;
  hand = row_lifts row;
  headers = 0;
  misfits = push_misfits layout c capacity row;
}

abbrev pub taken_misfits : TakenTree → ℕ
taken_misfits t = option_map_or (λ (slot : ℕ × Carried). too_wide slot.1) t.message 0

abbrev pub taken_need : TakenTree → Need
taken_need t = record nothing_needed { misfits = taken_misfits t }

abbrev pub emission_lifts : EmissionTree → ℕ
emission_lifts e = option_map_or (λ (c : ContentTree). lifts c.message) e.content 0

abbrev pub emission_misfits : EmissionTree → ℕ
emission_misfits e = option_map_or (λ (c : ContentTree). message_misfits c.message) e.content 0

abbrev pub emission_need : EmissionTree → Need
emission_need e = record {
  slots = option_map_or joins_in_content e.content 0;
  places = 1;
  hand = emission_lifts e;
  headers = 0;
  misfits = emission_misfits e;
}

abbrev mutual
  -- How many events a statement sends at most: those of all its blocks, and of a loop's block as often as its maximum
  -- says.
  pub sends_at_most : StatementTree → ℕ
  sends_at_most (push c i capacity row otherwise) = block_sends otherwise
  sends_at_most (take c i taken block otherwise) = block_sends block + block_sends otherwise
  sends_at_most (branch likely e block otherwise) = block_sends block + block_sends otherwise
  sends_at_most (each k below most block) = most * block_sends block
  sends_at_most (emit e) = 1
  sends_at_most _ = 0

  pub block_sends : StatementTrees → ℕ
  block_sends none = 0
  block_sends (more x rest) = sends_at_most x + block_sends rest

abbrev mutual
  -- The places of the hand that a statement takes: the hand is as before after each message, so these are the most of
  -- any.
  pub in_hand : StatementTree → ℕ
  in_hand (push c i capacity row otherwise) = max (row_lifts row) (block_in_hand otherwise)
  in_hand (take c i taken block otherwise) = max (block_in_hand block) (block_in_hand otherwise)
  in_hand (branch likely e block otherwise) = max (block_in_hand block) (block_in_hand otherwise)
  in_hand (each k below most block) = block_in_hand block
  in_hand (emit e) = emission_lifts e
  in_hand _ = 0

  pub block_in_hand : StatementTrees → ℕ
  block_in_hand none = 0
  block_in_hand (more x rest) = max (in_hand x) (block_in_hand rest)

abbrev mutual
  -- How many parts of a statement are misfits for a layout.
  pub misfits : Layout → StatementTree → ℕ
  misfits layout (push c i capacity row otherwise) = push_misfits layout c capacity row + block_misfits layout otherwise
  misfits layout (take c i taken block otherwise) =
      taken_misfits taken + block_misfits layout block + block_misfits layout otherwise
  misfits layout (branch likely e block otherwise) = block_misfits layout block + block_misfits layout otherwise
  misfits layout (each k below most block) = block_misfits layout block
  misfits layout (emit e) = emission_misfits e
  misfits layout _ = 0

  pub block_misfits : Layout → StatementTrees → ℕ
  block_misfits layout none = 0
  block_misfits layout (more x rest) = misfits layout x + block_misfits layout rest

abbrev pub statement_need : Layout → StatementTree → Need
statement_need layout x =
    record { slots = joins x; places = sends_at_most x; hand = in_hand x; headers = 0; misfits = misfits layout x }

abbrev pub block_need : Layout → StatementTrees → Need
block_need layout b =
    record {
      slots = joins_of b;
      places = block_sends b;
      hand = block_in_hand b;
      headers = 0;
      misfits =
          block_misfits layout b;
    }

-- The headers of a message, if there is one.
abbrev pub headers_of : Option Content → ℕ
headers_of m = option_map_or (λ (c : Content). length c.headers) m 0

-- How many of the two counts that a block declares, of numbers and of messages, are more than a layout has places for.
abbrev pub scope_misfits : Layout → ℕ → ℕ → ℕ
scope_misfits layout numbers messages =
    one_if (nat_lt layout.numbers numbers) + one_if (nat_lt layout.messages messages)

abbrev pub entry_need : Layout → ℕ → ℕ → Option Content → Need
entry_need layout numbers messages m =
    record nothing_needed { headers = headers_of m; misfits = scope_misfits layout numbers messages }

abbrev pub passing_need : Option Content → Need
passing_need m = record one_place { headers = headers_of m }

-- The need of a handler, and that of a visit: its handler's, or else that of passing on what it met.
abbrev pub handler_need : Layout → HandlerTree → Option Content → Need
handler_need layout h m = record {
  slots = handler_joins h;
  places = block_sends h.block;
  hand = block_in_hand h.block;
  headers = headers_of m;
  misfits = scope_misfits layout h.numbers h.messages + block_misfits layout h.block;
}

abbrev pub visit_need : Layout → Option HandlerTree → Met → Need
visit_need layout None met = passing_need met.message
visit_need layout (Some h) met = handler_need layout h met.message
