-- What a visit asks is there while a run goes on.
use Rattle.std.proofs.Common.{◌≡◌, ℕ, ◌+◌, ◌*◌, ◌-◌, ◌≤◌, Bool, true, false, List, [], ◌∷◌, ◌++◌, Option, Some, None}
use Rattle.std.proofs.Common.{length, flat_map, refl, ap, arith}
use Rattle.std.specs.List.{AllByRecursion}
use Rattle.std.proofs.lemmas.List.{length-append, length-map}
use Rattle.std.proofs.lemmas.List.Sums.{sum_by-cons}
use Rattle.slot_pool.specs.Held.{Held, spare}
use Rattle.slot_pool.specs.Times.{times}
use Rattle.slot_pool.proofs.Times.{times-append}
use Rattle.slot_pool.proofs.References.{times-most}
use Rattle.msg_core.specs.Chain.{Content}
use Rattle.msg_core.specs.declared.message.Header.{Header}
use Rattle.layer_words.specs.declared.events.Dir.{Dir}
use Rattle.layer_words.specs.declared.events.Dir.TheVariants.{Up, Down}
use Rattle.layer_mean.specs.declared.run.Event.{Event}
use Rattle.layer_mean.specs.Event.{carries}
use Rattle.layer_mean.specs.Tree.{LayerTree}
use Rattle.layer_mean.specs.State.{State}
use Rattle.layer_mean.specs.Visit.{met}
use Rattle.layer_mean.specs.Queue.{Task, is_place, layer_at, state_at}
use Rattle.stack_mean.specs.Graph.{first_on_cycle}
use Rattle.weight_laws.specs.Nodes.{IsKnown, task_node}
use Rattle.weight_laws.specs.Orderly.{IsOrderly}
use Rattle.weight_laws.specs.Visits.{task_weight, task_joins}
use Rattle.weight_laws.specs.Runs.{pending_weight}
use Rattle.weight_laws.proofs.Costs.{follows}
use Rattle.packet_mean.specs.ChainedState.{IsFrom, Brings}
use Rattle.chain_laws.specs.Runs.{IsChainedTask, task_place}
use Rattle.chain_laws.proofs.Runs.{chains_are_short}
use Rattle.chain_laws.proofs.Orderly.{chained_is_known, typed_is_orderly}
use Rattle.layer_desk.specs.Need.{Layout, headers_of, most_above}
use Rattle.desk_needs.specs.Laws.{FitsNode, task_need}
use Rattle.desk_needs.proofs.Nodes.{nodes_cover_needs}
use Rattle.pool_message.specs.Seen.{body_refs, refs_if, event_refs, event_seen}
use Rattle.pool_message.specs.Sent.{sent_refs}
use Rattle.pool_message.specs.declared.event.PoolEvent.{PoolEvent}
use Rattle.pool_message.specs.declared.message.PoolMessage.{PoolMessage}
use Rattle.pool_message.specs.declared.part.Part.{Part}
use Rattle.layer_stage.specs.Room.{slots_needed, places_needed, headers_met, most_counted, most_kept, CountsWithin}
use Rattle.layer_stage.proofs.Needs.{slots_at_a_desk, places_at_a_desk}
use Rattle.stack_queue.specs.declared.tasks.PoolTask.{PoolTask}
use Rattle.stack_queue.specs.Pending.{task_seen, tasks_seen, tasks_refs}
use Rattle.stack_queue.specs.Going.{Begun, Now, BeginsWell, Going, weight_of}
use Rattle.stack_queue.proofs.Refs.{all_as, each_both}
use Rattle.stack_queue.proofs.Lines.{is_visit}
use Rattle.msg_core.specs.Headers.{most_places}

-- an event has one reference at most
body_few : (o : Option Part) → length (body_refs o) ≤ 1
body_few None = omega arith
body_few (Some part) = omega arith

message_few : (o : Option PoolMessage) → length (refs_if o) ≤ 1
message_few None = omega arith
message_few (Some m) = body_few m.body

each_one : {A : Type 0} (f : A → List ℕ) → ((x : A) → length (f x) ≤ 1) → (xs : List A) →
    length (flat_map f xs) ≤ length xs
each_one f one [] = omega arith
each_one f one (x ∷ xs) = omega (arith, one x, each_one f one xs, length-append (f x) (flat_map f xs))

tasks_few : (ts : List PoolTask) → length (tasks_refs ts) ≤ length ts
tasks_few ts = each_one (λ (t : PoolTask). event_refs t.event) (λ t. message_few t.event.message) ts

sent_few : (xs : List (Dir × PoolEvent)) → length (sent_refs xs) ≤ length xs
sent_few xs = each_one (λ (x : Dir × PoolEvent). event_refs x.1) (λ x. message_few x.1.message) xs

-- each task weighs something
tasks_weigh : (stack : List LayerTree) → IsOrderly stack → first_on_cycle stack ≡ None → (ts : List (Task Event)) →
    AllByRecursion (IsKnown stack) ts → length ts ≤ pending_weight stack ts
tasks_weigh stack orderly off [] known = omega arith
tasks_weigh stack orderly off (t ∷ ts) known = omega (
  arith,
  follows stack orderly off (λ node. 1) (task_node t) known.0,
  tasks_weigh stack orderly off ts known.1,
  sum_by-cons (task_weight stack) t ts,
)

-- a message that a layer meets comes from the places above
headers_fit : (stack : List LayerTree) (at : ℕ) (dir : Dir) (c : Bool) (m : Option Content) →
    length stack ≤ most_places → 1 ≤ at →
    Brings (IsFrom stack (task_place dir at)) c m → headers_of (met dir m).message ≤ most_above
headers_fit stack at Up c None few low is = omega arith
headers_fit stack at Down c None few low is = omega arith
headers_fit stack at Up false (Some m) few low is = absurd is
headers_fit stack at Down false (Some m) few low is = absurd is
headers_fit stack at Down true (Some m) few low is =
    omega (arith, few, low, chains_are_short stack at m.headers is.headers)
headers_fit stack at Up true (Some m) few low is = go m.headers refl where
  short : length m.headers ≤ length stack - (at - 1)
  short = chains_are_short stack (at - 1) m.headers is.headers

  go : (hs : List Header) → hs ≡ m.headers →
      headers_of (met Up (Some (record { headers = hs; body = m.body }))).message ≤ most_above
  go [] same = omega arith
  go (h ∷ hs) same = let long = ap length same in omega (arith, few, short, long)

-- what a desk is made for plays no part in the needs of the pool and of places
abbrev no_layout : Layout
no_layout = record { rows = []; numbers = 0; messages = 0; hand = 0; places = 0 }

-- there are no more tasks than they weigh
few_seen : (b : Begun) → BeginsWell b → (ts : List (Task Event)) → AllByRecursion (IsChainedTask b.stack) ts →
    length ts ≤ pending_weight b.stack ts
few_seen b well ts chained = tasks_weigh b.stack (typed_is_orderly b.stack well.typed) well.no_cycle ts
    (all_as (IsChainedTask b.stack) (IsKnown b.stack) (chained_is_known b.stack) ts chained)

pub few_tasks : (b : Begun) → BeginsWell b → (p : List Held) (n : Now) → Going b p n →
    length n.tasks ≤ weight_of b p n.tasks
few_tasks b well p n g =
    omega (arith, few_seen b well (tasks_seen p n.tasks) g.chained.tasks, length-map n.tasks (task_seen p))

module _ (b : Begun) (well : BeginsWell b) (p : List Held) (states : List State) (refs : List ℕ) (t : PoolTask)
    (rest : List PoolTask)
    (n : Now) (g : Going b p (record n { states = states; refs = refs; tasks = t ∷ rest })) where
  pub counts_within : length refs ≤ most_places * most_kept → CountsWithin most_counted p
  counts_within few = record {
    within = λ i.
        let moved = g.moved.counts i in
        let begun = well.counts.within i in
        let all = times-append i refs (tasks_refs (t ∷ rest) ++ sent_refs n.out) in
        let tasks_and_out = times-append i (tasks_refs (t ∷ rest)) (sent_refs n.out) in
        let first = times-append i b.refs (sent_refs b.out) in
        let out = ap (λ xs. times i (sent_refs xs)) g.following in
        let news = each_both (λ (x : Dir × PoolEvent). event_refs x.1) b.out g.news i in
        let some_refs = times-most i refs in
        let some_tasks = times-most i (tasks_refs (t ∷ rest)) in
        let some_news = times-most i (sent_refs g.news) in
        let tasks = tasks_few (t ∷ rest) in
        let outputs = sent_few g.news in
        let pending = few_tasks b well p (record n { states = states; refs = refs; tasks = t ∷ rest }) g in
        let within = g.weight in
        let light = well.weight in
        omega arith;
  }

  pub headers_within : 1 ≤ t.at → headers_met t.direction (event_seen p t.event) ≤ most_above
  headers_within low = headers_fit b.stack t.at t.direction (carries t.event.kind) (event_seen p t.event).message
      well.few low g.chained.tasks.0.event.message

  module _ (placed : is_place (length b.stack) t.at ≡ true) where
    pub fits : FitsNode b.stack (state_at g.world t.at) (task_seen p t) (task_need no_layout b.stack (task_seen p t))
    fits = nodes_cover_needs b.stack no_layout (state_at g.world t.at) (task_seen p t) well.no_cycle
        (is_visit b.stack well.typed well.no_cycle g.world (task_seen p t) (tasks_seen p rest) g.chained placed)

    pub slots_are : (task_need no_layout b.stack (task_seen p t)).slots ≡
        slots_needed (layer_at b.stack t.at) t.direction (event_seen p t.event)
    slots_are = slots_at_a_desk no_layout (layer_at b.stack t.at) t.direction (event_seen p t.event)

    pub slots_within : slots_needed (layer_at b.stack t.at) t.direction (event_seen p t.event) ≤ spare p
    slots_within = omega (
      arith,
      fits.slots,
      slots_are,
      g.slots,
      well.joins,
      sum_by-cons (task_joins b.stack) (task_seen p t) (tasks_seen p rest),
    )

    pub places_within : length rest + places_needed (layer_at b.stack t.at) t.direction (event_seen p t.event) ≤
        task_weight b.stack b.first
    places_within = omega (
      arith,
      few_seen b well (tasks_seen p rest) g.chained.tasks.1,
      length-map rest (task_seen p),
      fits.places,
      places_at_a_desk no_layout (layer_at b.stack t.at) t.direction (event_seen p t.event),
      g.weight,
      sum_by-cons (task_weight b.stack) (task_seen p t) (tasks_seen p rest),
    )
