-- The run of a step, from what entered to what came out.
use Rattle.std.proofs.Common.{◌≡◌, ◌∙◌, ℕ, zero, suc, ◌+◌, ◌<◌, ◌≤◌, Bool, true, false, List, [], ◌∷◌, ◌++◌, map}
use Rattle.std.proofs.Common.{length, flat_map, Option, Some, None, Ok, refl, sym, ap, subst, arith}
use Rattle.std.specs.Prelude.{is_some, ◌^◌}
use Rattle.std.specs.List.{AllByRecursion}
use Rattle.std.specs.declared.alloc.Global.{Global}
use Rattle.std.specs.declared.vec.Vec.{Vec}
use Rattle.std.proofs.lemmas.List.{length-map}
use Rattle.circular_buffer.specs.Buffer.{Buffer, buffer}
use Rattle.slot_pool.specs.Held.{Held, IsFull}
use Rattle.slot_pool.specs.References.{Exact}
use Rattle.msg_core.specs.Parts.{longest_body}
use Rattle.msg_core.specs.View.{member_count}
use Rattle.msg_core.specs.declared.packet.Dest.{Dest}
use Rattle.msg_core.specs.declared.packet.Dest.TheVariants as dest
use Rattle.msg_core.specs.declared.packet.View.{View}
use Rattle.layer_words.specs.declared.events.Dir.{Dir}
use Rattle.layer_words.specs.declared.events.Dir.TheVariants.{Up}
use Rattle.layer_mean.specs.Event.{carries, event_of}
use Rattle.layer_mean.specs.declared.run.Event.{Event}
use Rattle.layer_mean.specs.State.{State}
use Rattle.layer_mean.specs.Tree.{LayerTree}
use Rattle.layer_mean.specs.Queue.{Task, Work, run}
use Rattle.stack_mean.specs.Acceptance.{acceptance, cost_in, largest_weight, rows_of, weight}
use Rattle.stack_mean.specs.Graph.{Node, nodes}
use Rattle.weight_laws.specs.Nodes.{task_node}
use Rattle.msg_core.specs.declared.message.Header.{Header}
use Rattle.packet_mean.specs.ChainedState.{Brings, IsFrom}
use Rattle.packet_mean.specs.Plan.{kind_of}
use Rattle.packet_mean.specs.declared.here.Here.{Here}
use Rattle.weight_laws.specs.Runs.{Enters}
use Rattle.chain_laws.specs.Runs.{AreChainedStates, IsChainedTask, IsChainedOut, edge_place}
use Rattle.chain_laws.proofs.Lists.{each_so}
use Rattle.run_mean.specs.Member.{Entered, app_cast, app_send, app_leave, clock_tick, from_peer, Output, output_of}
use Rattle.run_mean.specs.Member.{first_task, most_turns, Step, step_from}
use Rattle.member_laws.specs.Members.{IsHere, IsEntered}
use Rattle.member_laws.proofs.Members.{first_tasks_are_chained, steps_keep_chains}
use Rattle.member_laws.specs.Steps.{IsStep}
use Rattle.member_laws.proofs.Ends.{steps_end}
use Rattle.trace_laws.specs.Members.{AreOf}
use Rattle.trace_laws.proofs.Members.{runs_keep_members}
use Rattle.layer_eval.specs.Did.{as_predicted}
use Rattle.layer_eval.specs.declared.predicted.Predicted.{Predicted}
use Rattle.pool_message.specs.Moves.{Returned}
use Rattle.pool_message.specs.Seen.{event_refs, event_seen, seen_if}
use Rattle.pool_message.specs.Sent.{sent_refs, sent_seen}
use Rattle.pool_message.specs.declared.event.PoolEvent.{PoolEvent}
use Rattle.pool_message.specs.declared.message.PoolMessage.{PoolMessage}
use Rattle.stack_queue.specs.Pending.{task_seen}
use Rattle.stack_queue.specs.Stages.{Stand}
use Rattle.stack_queue.specs.Taken.{taken_after}
use Rattle.stack_queue.specs.declared.tasks.PoolTask.{PoolTask}
use Rattle.stack_queue.proofs.Entries.{entries_fit}
use Rattle.pool_laws.specs.Room.{IsPoolFor}
use Rattle.pool_laws.proofs.Room.{not_full}
use Rattle.pool_laws.proofs.Stages.{own_pool_is_made}
use Rattle.live_layer.specs.Layer.{place_of, tree_of, refs_of, taken_by, IsInOrder, state_in}
use Rattle.live_layer.specs.Staged.{layer_keeps}
use Rattle.live_layer.specs.declared.layer.FileLayer.{FileLayer}
use Rattle.step_outputs.specs.Gathered.{Gathered, full_output}
use Rattle.group_member.specs.Entering.{Brings as BringsIn}
use Rattle.group_member.specs.Gathering.{BringsAsKind}
use Rattle.group_member.specs.Judged.{entry_meant, body_of}
use Rattle.group_member.specs.Stepping.{stack_of, in_full, IsGround, HasPlayed}
use Rattle.group_member.specs.Viewing.{input_at, HasMembers, IsIn}
use Rattle.group_member.specs.Working.{states_in, refs_in, taken_in, IsReady, CanRun, HasRun, work_of, outputs_in}
use Rattle.group_member.specs.declared.entry.Entry.{Entry}
use Rattle.group_member.specs.declared.entry.Entry.TheVariants.{Cast, Send, Leave, Tick, Packet}
use Rattle.group_member.specs.declared.ground.Ground.{Ground}
use Rattle.group_member.specs.declared.works.Works.{Works}
use Rattle.group_member.proofs.Members.{counts_are}
use Rattle.group_member.proofs.Pools.{exact_more, exact_less, covers_all, covers_turned, room_left}
use Rattle.group_member.proofs.Standing.{stand_stays}

-- what entered has a body that isn't too long
pub body_fits : (stack : List LayerTree) (here : Here) (entry : Entry) → IsEntered stack (entry_meant here entry) →
    length (body_of entry) ≤
    longest_body
body_fits stack here (Cast body) is = is.within
body_fits stack here (Send to body) is = is.1.within
body_fits stack here Leave is = omega arith
body_fits stack here (Tick moment) is = omega arith
body_fits stack here (Packet scan bytes known) is = is.chained.body

-- a run may begin with each first task
enters_stack : (stack : List LayerTree) (me : ℕ) (what : Entered) →
    Enters stack (first_task stack me what).at (first_task stack me what).dir (first_task stack me what).event.kind
enters_stack stack me (app_cast body) = refl
enters_stack stack me (app_send to body) = refl
enters_stack stack me app_leave = refl
enters_stack stack me (clock_tick moment) = refl
enters_stack stack me (from_peer packet) = go packet.dest where
  go : (d : Dest) → Enters stack 1 Up (event_of (kind_of d) (packet.sender ∷ []) (Some packet.message)).kind
  go dest.All = refl
  go (dest.Rank r) = refl

-- a node weighs at least 1
heavy_in : (steps : ℕ) (stack : List LayerTree) (node : Node) → 1 ≤ cost_in steps stack (λ n. 1) node
heavy_in zero stack node = omega arith
heavy_in (suc steps) stack node = omega arith

heavy : (stack : List LayerTree) (node : Node) → 1 ≤ weight stack node
heavy stack node = heavy_in (length (nodes stack)) stack node

module _ (stack : List LayerTree) (most id : ℕ) where
  -- the pool is a member's own
  pub own_pool : (view : View) (w : Works) → IsReady stack most w → IsIn stack most view id (states_in w) →
      IsPoolFor (rows_of stack most) w.pool (refs_in w)
  own_pool view w ready is_in = own_pool_is_made refs_of state_in
      IsInOrder w.pool (layer_keeps w.pool) stack most w.layers.items record {
        ready = ready.stand.ready;
        chained = is_in.inside_is.states_are;
        members = record {
          within =
              let few = is_in.members.few in
              each_so (λ (s : State). s.count ≡ member_count view) (λ (s : State). s.count ≤ most)
              (λ s at. omega (arith, at, few)) (states_in w)
              (counts_are (input_at view id) stack (states_in w) is_in.members.own);
        };
        exact = ready.exact;
        slots = ready.slots;
        within = ready.few;
      }

  -- there is a place for the first task
  pub has_place : (here : Here) (what : Entered) → IsHere here → IsEntered stack what → (w : Works) →
      IsReady stack most w → 0 < w.tasks.capacity
  has_place here what is_here is_entered w ready =
      let small : here.rank < 2 ^ 32 = omega (arith, is_here.rank) in
      let fits = entries_fit stack (first_task stack here.rank what)
      (first_tasks_are_chained stack here.rank what small is_entered)
      (enters_stack stack here.rank what) in
      omega (
        arith,
        fits.weight,
        heavy stack (task_node (first_task stack here.rank what)),
        ap (λ (b : Buffer PoolTask). b.capacity) ready.quiet.tasks,
      )

  pub has_slot : (view : View) (w : Works) → IsReady stack most w → IsIn stack most view id (states_in w) →
      IsFull w.pool → ⊥
  has_slot view w ready is_in = not_full (rows_of stack most) w.pool (refs_in w) (own_pool view w ready is_in)

  -- a run can begin once the event of what entered has its message in the pool
  module _ (here : Here) (what : Entered) (is_here : IsHere here) (is_entered : IsEntered stack what) (w : Works)
      (q : List Held) (first : PoolTask)
      (ready : IsReady stack most w) (is_in : IsIn stack most here.view id (states_in w))
      (brings : BringsIn stack here.rank w.pool q what first)
      (ts : Buffer PoolTask) (only : ts ≡ buffer (first ∷ []) w.tasks.capacity) where
    stays : Stand place_of tree_of IsInOrder stack q w.layers.items × (map (state_in q) w.layers.items ≡ states_in w)
    stays = stand_stays stack w.pool q [] (event_refs first.event) w.layers.items brings.moved
        (covers_all w.pool (refs_in w) ready.exact) ready.stand

    pub same_states : states_in (record w { pool = q; tasks = ts }) ≡ states_in w
    same_states = stays.1

    pub can_run : CanRun stack (record w { pool = q; tasks = ts }) first
    can_run =
        let exact = exact_more w.pool q (refs_in w) (event_refs first.event) ready.exact brings.moved in
        let room = room_left (rows_of stack most) w.pool q (refs_in w) first.event (own_pool here.view w ready is_in)
        exact brings.slots in
        let small : here.rank < 2 ^ 32 = omega (arith, is_here.rank) in record {
          stand = stays.0;
          exact = exact;
          tasks = only ∙ ap (λ (b : Buffer PoolTask). buffer (first ∷ []) b.capacity) ready.quiet.tasks;
          outs = ready.quiet.outs;
          lies = brings.lies;
          states = subst (λ (states : List State). AreChainedStates stack states) (sym stays.1)
              is_in.inside_is.states_are;
          chained = subst (λ (t : Task Event). IsChainedTask stack t) (sym brings.seen)
              (first_tasks_are_chained stack here.rank what small
              is_entered);
          enters = subst (λ (t : Task Event). Enters stack t.at t.dir t.event.kind) (sym brings.seen)
              (enters_stack stack here.rank what);
          joins = room.joins;
          counts = room.counts;
        }

-- an event that is chained brings a message as its kind says
brings_same : (Chain : List Header → Type 0) (p : List Held) (b : Bool) (m : Option PoolMessage) →
    Brings Chain b (seen_if p m) → is_some m ≡ b
brings_same Chain p true (Some m) h = refl
brings_same Chain p false None h = refl
brings_same Chain p true None h = absurd h
brings_same Chain p false (Some m) h = absurd h

chained_bring : (stack : List LayerTree) (p : List Held) (xs : List (Dir × PoolEvent)) →
    AllByRecursion (IsChainedOut stack) (sent_seen p xs) →
    AllByRecursion BringsAsKind xs
chained_bring stack p [] h = tt
chained_bring stack p (x ∷ xs) h = (
  brings_same (IsFrom stack (edge_place stack x.0)) p (carries x.1.kind) x.1.message h.0.message,
  chained_bring stack p xs h.1,
)

pub full_twice : (here : Here) (xs : List (Dir × Event)) →
    map (full_output here) xs ≡ map in_full (map (output_of here) xs)
full_twice here [] = refl
full_twice here (x ∷ xs) = ap (λ (os : List (Output × Option ℕ)). full_output here x ∷ os) (full_twice here xs)

-- what the run of a step gave
module _ (stack : List LayerTree) (here : Here) (id : ℕ) (states : List State) (what : Entered) where
  abbrev its : Step
  its = step_from stack here id states what

  pub record Ended (old : Works) (before : ℕ) (new : Works) (after : ℕ) (result : Predicted) : Type 0 where
    pub states_are : states_in new ≡ its.work.states
    pub outs : sent_seen new.pool new.outs.items ≡ its.work.outs
    pub predicted : result ≡ as_predicted its.work.decided
    pub visits : after ≡ before + its.work.visits
    pub taken : taken_in new ≡ taken_after stack states (first_task stack here.rank what) (taken_in old)

  pub ended : (w : Works) (first : PoolTask) (before : ℕ) (new : Works) (after : ℕ) (result : Predicted) →
      states_in w ≡ states →
      task_seen w.pool first ≡ first_task stack here.rank what → HasRun stack w first before new after result →
      Ended w before new after result
  ended w first before new after result same seen has =
      let work : work_of stack w first ≡ its.work = λ i. (run most_turns stack (same i) (seen i)).world in record {
        states_are = has.states ∙ ap (λ (k : Work). k.states) work;
        outs = has.outs ∙ ap (λ (k : Work). k.outs) work;
        predicted = has.predicted ∙ ap (λ (k : Work). as_predicted k.decided) work;
        visits = has.visits ∙ ap (λ (k : Work). before + k.visits) work;
        taken = has.taken ∙ (λ i. taken_after stack (same i) (seen i) (taken_in w));
      }

  module _ (step : IsStep stack here states what) where
    pub outs_bring : (p : List Held) (xs : List (Dir × PoolEvent)) → sent_seen p xs ≡ its.work.outs →
        AllByRecursion BringsAsKind xs
    outs_bring p xs seen =
        let kept = steps_keep_chains stack here id states what step.typed step.at step.states_are step.input in
        chained_bring stack p xs
        (subst (λ (outs : List (Dir × Event)). AllByRecursion (IsChainedOut stack) outs) (sym seen) kept.outs)

    pub outs_few : acceptance stack ≡ Ok stack → (p : List Held) (xs : List (Dir × PoolEvent)) →
        sent_seen p xs ≡ its.work.outs →
        length xs ≤ largest_weight stack
    outs_few accepts p xs seen =
        let small : here.rank < 2 ^ 32 = omega (arith, step.at.rank) in
        let ends = steps_end stack here id states what step accepts in
        let fits = entries_fit stack (first_task stack here.rank what)
        (first_tasks_are_chained stack here.rank what small step.input)
        (enters_stack stack here.rank what) in
        let all : length its.outputs ≡ length its.work.outs = length-map its.work.outs (output_of here) in
        let same : length its.work.outs ≡ length xs =
        ap (λ (outs : List (Dir × Event)). length outs) (sym seen) ∙
        length-map {B = Dir × Event} xs (λ (x : Dir × PoolEvent). (
          x.0,
          event_seen p
              x.1,
        )) in
        omega (arith, ends.turns, fits.weight, all, same)

-- the states stay the member's
pub members_stay : (g : Ground) (states : List State) (what : Entered) (news : List State) →
    IsIn (stack_of g) g.most g.here.now.view g.id states →
    news ≡ (step_from (stack_of g) g.here.now g.id states what).work.states →
    HasMembers (stack_of g) g.most g.here.now.view g.id news
members_stay g states what news is_in all = record {
  few = is_in.members.few;
  own = subst (λ (those : List State). AreOf (input_at g.here.now.view g.id) (stack_of g) those) (sym all)
      (runs_keep_members (input_at g.here.now.view g.id) (stack_of g) states most_turns
      (first_task (stack_of g) g.here.now.rank what) is_in.members.own);
}

-- the member is between two steps again
module _ (g : Ground) (w : Works) (what : Entered) where
  pub played : (q : List Held) (ts : Buffer PoolTask) (first : PoolTask) (before : ℕ) (mid : Works) (after : ℕ)
      (result : Predicted) (last : Works) (begun out : Gathered) →
      IsReady (stack_of g) g.most w → IsIn (stack_of g) g.most g.here.now.view g.id (states_in w) →
      BringsIn (stack_of g) g.here.now.rank w.pool q what first → ts ≡ buffer (first ∷ []) w.tasks.capacity →
      HasRun (stack_of g) (record w { pool = q; tasks = ts }) first before mid after result →
      Ended (stack_of g) g.here.now g.id (states_in w) what (record w { pool = q; tasks = ts }) before mid after
      result →
      Returned mid.pool last.pool (sent_refs mid.outs.items) → last.layers ≡ mid.layers → last.tasks ≡ mid.tasks →
      last.outs ≡ buffer [] mid.outs.capacity → begun.outputs ≡ [] → begun.here ≡ g.here.now →
      out ≡ record begun { outputs = begun.outputs ++ outputs_in begun.here mid.pool mid.outs.items } →
      HasPlayed g (states_in w) (taken_in w) what last out before after result
  played q ts first before mid after result last begun out ready is_in
      brings only has ended returned layers tasks outs none here gathered =
      let stays = stand_stays (stack_of g) mid.pool last.pool (sent_refs mid.outs.items) [] mid.layers.items
      returned.moved
      (covers_turned mid.pool (refs_in mid) (sent_refs mid.outs.items) has.exact) has.stand in
      let same : states_in last ≡ states_in mid =
      ap (λ (v : Vec FileLayer Global). map (state_in last.pool) v.items) layers ∙ stays.1 in
      let all : states_in last ≡ (step_from (stack_of g) g.here.now g.id (states_in w) what).work.states = same ∙
      ended.states_are in record {
        ready = record {
          stand = subst (λ (v : Vec FileLayer Global). Stand place_of tree_of IsInOrder (stack_of g) last.pool v.items)
              (sym layers) stays.0;
          exact = subst (λ (v : Vec FileLayer Global). Exact last.pool (flat_map refs_of v.items)) (sym layers)
              (exact_less mid.pool last.pool (refs_in mid) (sent_refs mid.outs.items) has.exact returned.moved);
          quiet = record {
            tasks = tasks ∙ has.tasks ∙
                ap (λ (n : ℕ). buffer [] n)
                (ap (λ (b : Buffer PoolTask). b.capacity) only ∙
                ap (λ (b : Buffer PoolTask). b.capacity) ready.quiet.tasks);
            outs = outs ∙ ap (λ (n : ℕ). buffer [] n)
                (has.room ∙ ap (λ (b : Buffer (Dir × PoolEvent)). b.capacity) ready.quiet.outs);
          };
          slots = returned.moved.slots ∙ has.slots ∙ brings.moved.slots ∙ ready.slots;
          few = ready.few;
        };
        states_are = all;
        members = members_stay g (states_in w) what (states_in last) is_in all;
        outputs =
            ap (λ (o : Gathered). o.outputs) gathered
            ∙ ap (λ (os : List (Output × Option ℕ)). os ++ outputs_in begun.here mid.pool mid.outs.items) none
            ∙ ap (λ (h : Here). outputs_in h mid.pool mid.outs.items) here
            ∙ ap (λ (xs : List (Dir × Event)). map (full_output g.here.now) xs) ended.outs
            ∙ full_twice g.here.now (step_from (stack_of g) g.here.now g.id (states_in w) what).work.outs;
        here = ap (λ (o : Gathered). o.here) gathered ∙ here;
        predicted = ended.predicted;
        visits = ended.visits;
        taken = ap (λ (v : Vec FileLayer Global). map taken_by v.items) layers ∙ ended.taken;
      }

-- what all steps share: the ground, what entered and the run
module _ (g : Ground) (w : Works) (what : Entered) (q : List Held) (first : PoolTask) (before : ℕ) (mid : Works)
    (after : ℕ) (result : Predicted)
    (ground : IsGround g) (ready : IsReady (stack_of g) g.most w)
    (is_in : IsIn (stack_of g) g.most g.here.now.view g.id (states_in w))
    (is_entered : IsEntered (stack_of g) what) (brings : BringsIn (stack_of g) g.here.now.rank w.pool q what first)
    (ts : Buffer PoolTask) (only : ts ≡ buffer (first ∷ []) w.tasks.capacity)
    (has : HasRun (stack_of g) (record w { pool = q; tasks = ts }) first before mid after result) where
  pub ended_so : Ended (stack_of g) g.here.now g.id (states_in w) what (record w { pool = q; tasks = ts }) before mid
      after result
  ended_so = ended (stack_of g) g.here.now g.id (states_in w) what (record w { pool = q; tasks = ts }) first before mid
      after result
      (same_states (stack_of g) g.most g.id g.here.now what ground.here is_entered w q first ready is_in brings ts only)
      brings.seen has

  a_step : IsStep (stack_of g) g.here.now (states_in w) what
  a_step = record {
    typed = ground.typed;
    at = ground.here;
    states_are = is_in.inside_is.states_are;
    input =
        is_entered;
  }

  pub all_bring : AllByRecursion BringsAsKind mid.outs.items
  all_bring = outs_bring (stack_of g) g.here.now g.id (states_in w) what a_step mid.pool mid.outs.items ended_so.outs

  pub all_few : acceptance (stack_of g) ≡ Ok (stack_of g) → length mid.outs.items ≤ largest_weight (stack_of g)
  all_few accepts = outs_few (stack_of g) g.here.now g.id (states_in w) what a_step accepts mid.pool mid.outs.items
      ended_so.outs
