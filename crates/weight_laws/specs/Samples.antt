-- The laws at small stacks: their premises hold, and these are the numbers.
use Rattle.std.specs.Prelude.{◌≡◌, ℕ, Bool, true, false, List, [], ◌∷◌, map, length, slice_index, Some, codes}
use Rattle.layer_words.specs.declared.events.Dir.TheVariants.{Up, Down}
use Rattle.layer_words.specs.declared.events.Kind.{Kind}
use Rattle.layer_words.specs.declared.events.Kind.TheVariants.{Cast, Send}
use Rattle.layer_mean.specs.declared.run.Event.{Event}
use Rattle.layer_mean.specs.Tree.{LayerTree}
use Rattle.layer_mean.specs.State.{State}
use Rattle.layer_mean.specs.Visit.{fresh}
use Rattle.layer_mean.specs.Queue.{Task, run}
use Rattle.stack_mean.specs.Graph.{arrows, nodes}
use Rattle.stack_mean.specs.Acceptance.{weight, weight_limit}
use Rattle.stack_mean.specs.SampleLayers.{counter, joiner, fan, mnak, total, local_copy, bottom, echo, memory, mirror}
use Rattle.stack_mean.specs.SampleLayers.{late}
use Rattle.stack_mean.specs.Samples.{ordering_stack}
use Rattle.weight_laws.specs.Nodes.{task_node}
use Rattle.weight_laws.specs.Orderly.{IsOrderly}
use Rattle.weight_laws.specs.Costs.{after_arrows}
use Rattle.weight_laws.specs.Visits.{sent_tasks, task_weight, task_joins, IsVisit}
use Rattle.weight_laws.specs.Made.{visit_joins}
use Rattle.weight_laws.specs.Runs.{turns_of, IsRun}
use Rattle.weight_laws.specs.Chains.{first_place, HasChain}
use Rattle.weight_laws.specs.Tables.{HasFewHeaders, node_number, table_of}
use Rattle.weight_laws.specs.Rounds.{rounds, one_task}
use Rattle.weight_laws.specs.Search.{is_seen, search_after, search_from}

-- The layers of the samples send what their graphs tell.
abbrev pub SamplesAreOrderly : Type 0
SamplesAreOrderly = IsOrderly (counter ∷ joiner 32 ∷ fan ∷ mnak ∷ total ∷ local_copy ∷ bottom ∷ echo ∷ memory ∷ mirror ∷
    late ∷ [])

-- The states of layers that have seen nothing, at the first of two members, and a cast of the letter x from above.
abbrev pub fresh_states : List LayerTree → List State
fresh_states stack = map (λ layer. fresh layer 0 2 0) stack

abbrev pub cast_at : ℕ → Task Event
cast_at at = record {
  at = at;
  dir = Down;
  event = record { kind = Cast; peer = 0; a = 0; b = 0; message = Some (record { headers = []; body = codes "x" }) };
}

-- A cast over a counter: its visit and an output.
abbrev pub CounterRun : Type 0
CounterRun =
    IsRun (counter ∷ []) (fresh_states (counter ∷ [])) (cast_at 1) ×
    (task_weight (counter ∷ []) (cast_at 1) ≡ 2) ×
    (turns_of (run weight_limit (counter ∷ []) (fresh_states (counter ∷ [])) (cast_at 1)).world ≡ 2)

-- A cast over a layer that orders, a copy for its sender and the lowest layer: six turns. It weighs nine, since a
-- member that isn't the first sends it on for three.
abbrev pub OrderedRun : Type 0
OrderedRun =
    IsRun ordering_stack (fresh_states ordering_stack) (cast_at 3) ×
    (task_weight ordering_stack (cast_at 3) ≡ 9) ×
    (after_arrows (weight ordering_stack) (arrows ordering_stack (task_node (cast_at 3))) ≡ 8) ×
    (turns_of (run weight_limit ordering_stack (fresh_states ordering_stack) (cast_at 3)).world ≡ 6)

-- A visit that joins a byte with itself: three times the bound of a loop of two turns, each with two joins. Its loop
-- might have had 32 turns.
abbrev pub JoinerVisit : Type 0
JoinerVisit =
    let stack = joiner 32 ∷ [] in
    let s = fresh (joiner 32) 0 2 0 in
    IsVisit stack s (cast_at 1) ×
    (length (sent_tasks stack s (cast_at 1)) ≡ 6) ×
    (task_weight stack (cast_at 1) ≡ 97) ×
    (visit_joins 0 (joiner 32) s Down (cast_at 1).event ≡ 15) ×
    (task_joins stack (cast_at 1) ≡ 195)

-- The packet that a peer makes of a cast is chained for the lowest place.
abbrev pub ChainedPacket : Type 0
ChainedPacket = HasChain ordering_stack (first_place Up 1) true (Some (record {
  headers =
      record { layer = 0; tag = 1; fields = 1 ∷ [] } ∷ record { layer = 1; tag = 0; fields = [] } ∷
      record { layer = 2; tag = 1; fields = 0 ∷ 0 ∷ [] } ∷ [];
  body = codes "x";
}))

-- A table of two layers that send each cast back to each other: a cast that comes down to the lower one is seen again,
-- and a send isn't.
abbrev pub seen_again : Kind → Bool
seen_again kind =
    let stack = echo ∷ echo ∷ [] in
    let number = node_number (record { at = 1; dir = Down; kind = kind; tag = 0 }) in
    is_seen (search_after (table_of stack) (length (nodes stack)) (search_from (table_of stack) number)) number

abbrev pub EchoesAreSeen : Type 0
EchoesAreSeen = (seen_again Cast ≡ true) × (seen_again Send ≡ false)

-- The weights of a cast over a counter, above it, at its place and below it, in two rounds over the table.
abbrev pub CounterRounds : Type 0
CounterRounds =
    let stack = counter ∷ [] in
    map (λ n. slice_index (rounds one_task (table_of stack) 2) (node_number n))
    (record { at = 2; dir = Up; kind = Cast; tag = 0 } ∷ record { at = 1; dir = Down; kind = Cast; tag = 0 } ∷
    record { at = 0; dir = Down; kind = Cast; tag = 1 } ∷ []) ≡ 1 ∷ 2 ∷ 1 ∷ []

-- The layers of the samples have few headers.
abbrev pub SamplesHaveFewHeaders : Type 0
SamplesHaveFewHeaders = HasFewHeaders (counter ∷ mnak ∷ total ∷ bottom ∷ [])
