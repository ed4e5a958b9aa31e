-- How a run begins, and what it has reached where no task is left.
use Rattle.std.proofs.Common.{◌≡◌, ℕ, zero, suc, ◌+◌, ◌≤◌, List, [], ◌∷◌, ◌++◌, Option, Some, None, Ok, length, refl}
use Rattle.std.proofs.Common.{sym, ap, ◌∙◌, subst, append-nil, arith}
use Rattle.slot_pool.specs.Held.{Held, spare}
use Rattle.slot_pool.specs.References.{Moved, Covers}
use Rattle.slot_pool.specs.Times.{times}
use Rattle.slot_pool.proofs.Times.{times-append}
use Rattle.slot_pool.proofs.References.{moved-same, moved-reordered}
use Rattle.layer_mean.specs.declared.run.Event.{Event}
use Rattle.layer_mean.specs.Tree.{LayerTree}
use Rattle.layer_mean.specs.State.{State}
use Rattle.layer_mean.specs.Queue.{Task, Line, Work, Player, layers, run_for, run, unstarted_work}
use Rattle.stack_mean.specs.Graph.{Node, first_on_cycle}
use Rattle.stack_mean.specs.Acceptance.{weight_limit, without_cycle, acceptance}
use Rattle.weight_laws.specs.Nodes.{IsKnown}
use Rattle.weight_laws.specs.Visits.{task_weight, task_joins}
use Rattle.weight_laws.specs.Runs.{Enters, IsRun}
use Rattle.weight_laws.proofs.Queue.{run_done}
use Rattle.weight_laws.proofs.Runs.{runs_end}
use Rattle.chain_laws.specs.Runs.{TypedStack, AreChainedStates, IsChainedTask, IsChainedLine}
use Rattle.chain_laws.proofs.Runs.{runs_keep_chains}
use Rattle.chain_laws.proofs.Orderly.{chained_is_known, typed_is_orderly}
use Rattle.msg_core.specs.Headers.{most_places}
use Rattle.layer_eval.specs.Did.{as_predicted}
use Rattle.pool_message.specs.Seen.{event_refs, EventLies}
use Rattle.pool_message.specs.Sent.{sent_refs, sent_seen, SentLie}
use Rattle.pool_message.specs.declared.event.PoolEvent.{PoolEvent}
use Rattle.layer_words.specs.declared.events.Dir.{Dir}
use Rattle.layer_stage.specs.Room.{CountsWithin}
use Rattle.stack_queue.specs.declared.tasks.PoolTask.{PoolTask}
use Rattle.stack_queue.specs.Pending.{task_seen, tasks_refs}
use Rattle.stack_queue.specs.Stages.{most_at_first}
use Rattle.stack_queue.specs.Taken.{counted_on, visited_for, taken_within, taken_after}
use Rattle.stack_queue.specs.Going.{Begun, Now, BeginsWell, Going}
use Rattle.stack_queue.proofs.Refs.{all_as}

-- an accepted stack has no cycle
off_cycles : (stack : List LayerTree) → acceptance stack ≡ Ok stack → first_on_cycle stack ≡ None
off_cycles stack h = go (first_on_cycle stack) refl h where
  go : (o : Option Node) → first_on_cycle stack ≡ o → without_cycle stack o ≡ Ok stack → first_on_cycle stack ≡ None
  go None is e = is
  go (Some node) is e = absurd (cc)

-- the definition's run is its turns from its beginning
turns_of_run : (k : ℕ) (stack : List LayerTree) (states : List State) (first : Task Event) →
    run_for (length stack) (layers stack) k (record { world = unstarted_work states; tasks = first ∷ [] }) ≡
    run k stack states first
unfolding run
turns_of_run k stack states first = refl

counts_of_run : (k : ℕ) (stack : List LayerTree) (states : List State) (first : Task Event) (counts : List ℕ) →
    counted_on (visited_for (length stack) (layers stack) k
    (record { world = unstarted_work states; tasks = first ∷ [] }))
    counts ≡ taken_within k stack states first counts
unfolding taken_within
counts_of_run k stack states first counts = refl

-- with no task there is no visit
none_visited : (places : ℕ) (play : Player Work Event) (k : ℕ) (w : Work) →
    visited_for places play k (record { world = w; tasks = [] }) ≡ []
none_visited places play zero w = refl
none_visited places play (suc k) w = refl

module _ (stack : List LayerTree) (typed : TypedStack stack) (accepts : acceptance stack ≡ Ok stack)
    (few : length stack ≤ most_places)
    (p : List Held) (states : List State) (chained : AreChainedStates stack states) (first : PoolTask)
    (first_chained : IsChainedTask stack (task_seen p first))
    (enters : Enters stack first.at first.direction first.event.kind)
    (refs : List ℕ) (out : List (Dir × PoolEvent)) (visits : ℕ) (taken : List ℕ) (counts : CountsWithin most_at_first p)
    (slots : task_joins stack (task_seen p first) ≤ spare p) where
  abbrev pub begun : Begun
  begun = record {
    stack = stack;
    pool = p;
    states = states;
    first = task_seen p first;
    refs = refs ++ event_refs first.event;
    out = out;
    visits = visits;
    taken = taken;
  }

  line_chained : IsChainedLine stack (record { world = unstarted_work states; tasks = task_seen p first ∷ [] })
  line_chained = record { states = chained; outs = tt; tasks = (first_chained, tt) }

  is_run : IsRun stack states (task_seen p first)
  is_run = record {
    orderly = typed_is_orderly stack typed;
    accepts = accepts;
    enters = enters;
    known = λ k.
        let r : Line Work Event =
        run_for (length stack) (layers stack) k
        (record { world = unstarted_work states; tasks = task_seen p first ∷ [] }) in
        all_as (IsChainedTask stack) (IsKnown stack) (chained_is_known stack) r.tasks
        (runs_keep_chains stack k (record { world = unstarted_work states; tasks = task_seen p first ∷ [] }) typed
        line_chained).tasks;
  }

  light : task_weight stack (task_seen p first) ≤ weight_limit
  light = (runs_end stack states (task_seen p first) is_run).weight

  pub begins_well : BeginsWell begun
  begins_well = record {
    typed = typed;
    no_cycle = off_cycles stack accepts;
    few = few;
    weight = light;
    joins = slots;
    counts = counts;
  }

  pub begins : EventLies p first.event → SentLie p out → Covers p (refs ++ (event_refs first.event ++ sent_refs out)) →
      Going begun p (record {
        states = states;
        refs = refs;
        tasks = first ∷ [];
        out = out;
        predicted =
            as_predicted [];
        visits = visits;
        taken = taken;
      })
  begins lies lie covers = record {
    world = unstarted_work states;
    left = weight_limit;
    comes = turns_of_run weight_limit stack states (task_seen p first);
    counts = counts_of_run weight_limit stack states (task_seen p first) taken;
    enough = omega (arith, light);
    chained = line_chained;
    states = refl;
    outs = sym (append-nil (sent_seen p out));
    news = [];
    following = sym (append-nil out);
    predicted = refl;
    visits = omega arith;
    weight = omega arith;
    slots = omega arith;
    moved = moved-reordered p p (refs ++ (event_refs first.event ++ sent_refs out))
        (refs ++ (event_refs first.event ++ sent_refs out))
        ((refs ++ event_refs first.event) ++ sent_refs out) (refs ++ (tasks_refs (first ∷ []) ++ sent_refs out)) before
        (λ i. sym (now i)) (moved-same p (refs ++ (event_refs first.event ++ sent_refs out)));
    covers = record { covers = λ i. omega (arith, covers.covers i, now i) };
    tasks_lie = (lies, tt);
    out_lies = lie;
  } where
    before : (i : ℕ) → times i (refs ++ (event_refs first.event ++ sent_refs out)) ≡
        times i ((refs ++ event_refs first.event) ++ sent_refs out)
    before i = omega (
      arith,
      times-append i refs (event_refs first.event ++ sent_refs out),
      times-append i (event_refs first.event) (sent_refs out),
      times-append i (refs ++ event_refs first.event) (sent_refs out),
      times-append i refs (event_refs first.event),
    )

    now : (i : ℕ) → times i (refs ++ (tasks_refs (first ∷ []) ++ sent_refs out)) ≡
        times i (refs ++ (event_refs first.event ++ sent_refs out))
    now i = omega (
      arith,
      times-append i refs (event_refs first.event ++ sent_refs out),
      times-append i (event_refs first.event) (sent_refs out),
      times-append i refs (tasks_refs (first ∷ []) ++ sent_refs out),
      times-append i (tasks_refs (first ∷ [])) (sent_refs out),
      times-append i (event_refs first.event) [],
    )

-- What a run has reached, where no task is left.
pub record Ended (b : Begun) (p : List Held) (n : Now) : Type 0 where
  pub line : Line Work Event
  pub is : run weight_limit b.stack b.states b.first ≡ line
  pub states : n.states ≡ line.world.states
  pub outs : sent_seen p n.out ≡ sent_seen b.pool b.out ++ line.world.outs
  pub predicted : n.predicted ≡ as_predicted line.world.decided
  pub visits : n.visits ≡ b.visits + line.world.visits
  pub taken : n.taken ≡ taken_after b.stack b.states b.first b.taken
  pub done : line.tasks ≡ []
  pub moved : Moved b.pool p (b.refs ++ sent_refs b.out) (n.refs ++ sent_refs n.out)
  pub spent : spare b.pool ≤ spare p + task_joins b.stack b.first

pub ended : (b : Begun) (p : List Held) (n : Now) → Going b p (record n { tasks = [] }) → Ended b p n
ended b p n g = record {
  line = record { world = g.world; tasks = [] };
  is = sym g.comes ∙ run_done (length b.stack) (layers b.stack) g.left g.world;
  states = sym g.states;
  outs = g.outs;
  predicted = g.predicted;
  visits = g.visits;
  taken = ap (λ places. counted_on places n.taken) (sym (none_visited (length b.stack) (layers b.stack) g.left g.world))
      ∙ g.counts;
  done = refl;
  moved = g.moved;
  spent = omega (arith, g.slots);
}

pub ended_at : (b : Begun) (p : List Held) (n : Now) → n.tasks ≡ [] → Going b p n → Ended b p n
ended_at b p n none g = ended b p n (subst (λ ts. Going b p (record n { tasks = ts })) none g)
