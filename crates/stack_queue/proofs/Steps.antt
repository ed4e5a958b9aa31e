-- A visit, and an output, while a run goes on.
use Rattle.std.proofs.Common.{◌≡◌, ℕ, ◌+◌, ◌-◌, ◌≤◌, Bool, true, false, if◌then◌else◌, List, [], ◌∷◌, ◌++◌, map, set}
use Rattle.std.proofs.Common.{get_or, length, refl, sym, ap, ◌∙◌, subst, append_assoc, arith}
use Rattle.std.proofs.lemmas.List.{map-append, length-append}
use Rattle.std.proofs.lemmas.List.Sums.{sum_by-cons, sum_by-append}
use Rattle.slot_pool.specs.Held.{Held, count_at, spare}
use Rattle.slot_pool.specs.References.{Moved}
use Rattle.slot_pool.specs.Times.{times}
use Rattle.slot_pool.proofs.Times.{times-append}
use Rattle.slot_pool.proofs.References.{moved-chain, moved-beside, moved-reordered}
use Rattle.layer_words.specs.declared.events.Dir.{Dir}
use Rattle.layer_mean.specs.declared.run.Event.{Event}
use Rattle.layer_mean.specs.State.{State}
use Rattle.layer_mean.specs.Visit.{Visited, step, no_state}
use Rattle.layer_mean.specs.Queue.{Line, Work, is_place, layer_at, state_at, tasks_of, visit_turn, layers, run_for, run}
use Rattle.stack_mean.specs.Acceptance.{weight_limit}
use Rattle.weight_laws.specs.Visits.{task_joins, sent_tasks}
use Rattle.weight_laws.specs.Runs.{pending_weight, pending_joins}
use Rattle.chain_laws.specs.Runs.{IsChainedLine}
use Rattle.layer_eval.specs.declared.predicted.Predicted.{Predicted}
use Rattle.layer_eval.specs.Did.{as_predicted, both}
use Rattle.layer_eval.proofs.Acts.{predicted_after}
use Rattle.pool_message.specs.Seen.{event_refs, event_seen, EventLies}
use Rattle.pool_message.specs.Sent.{sent_refs, sent_seen, SentLie}
use Rattle.pool_message.specs.declared.event.PoolEvent.{PoolEvent}
use Rattle.pool_message.proofs.Stays.{sent_stay}
use Rattle.layer_stage.specs.Room.{slots_needed}
use Rattle.stack_queue.specs.declared.tasks.PoolTask.{PoolTask}
use Rattle.stack_queue.specs.Pending.{task_seen, tasks_seen, tasks_refs, TasksLie}
use Rattle.stack_queue.specs.Taken.{counted_at, counted_on, visited_for, taken_after}
use Rattle.stack_queue.specs.Going.{Begun, Now, BeginsWell, Going, line_of, weight_of, joins_of}
use Rattle.stack_queue.proofs.Refs.{all_both, each_both}
use Rattle.stack_queue.proofs.Lines.{following, chained_after, lighter, joins_less, visited_after, put_out_after}
use Rattle.stack_queue.proofs.Lines.{comes_after, enough_after, counts_after}
use Rattle.stack_queue.proofs.Asked.{fits, slots_are}

-- one more is seen after others
one_more : {A B : Type 0} (f : A → B) (xs : List A) (x : A) (ys zs : List B) → map f xs ≡ ys ++ zs →
    map f (xs ++ x ∷ []) ≡ ys ++ (zs ++ f x ∷ [])
one_more f xs x ys zs is = map-append f xs (x ∷ []) ∙ ap (λ vs. vs ++ f x ∷ []) is ∙ append_assoc ys zs (f x ∷ [])

-- what a visit is in the states of a run
abbrev pub visit_of : Begun → List Held → List State → PoolTask → Visited
visit_of b p states t =
    step (t.at - 1) (layer_at b.stack t.at) (get_or states (t.at - 1) no_state) t.direction (event_seen p t.event)

module _ (b : Begun) (well : BeginsWell b) (p : List Held) (states : List State) (refs : List ℕ) (t : PoolTask)
    (rest : List PoolTask)
    (n : Now) (g : Going b p (record n { states = states; refs = refs; tasks = t ∷ rest })) where
  abbrev next : Line Work Event
  next = following b.stack well.typed well.no_cycle g.world (task_seen p t) (tasks_seen p rest) g.chained

  chained_next : IsChainedLine b.stack next
  chained_next = chained_after b.stack well.typed well.no_cycle g.world (task_seen p t) (tasks_seen p rest) g.chained

  lighter_next : 1 + pending_weight b.stack next.tasks ≤ weight_of b p (t ∷ rest)
  lighter_next = lighter b.stack well.typed well.no_cycle g.world (task_seen p t) (tasks_seen p rest) g.chained

  comes_next : run_for (length b.stack) (layers b.stack) (g.left - 1) next ≡ run weight_limit b.stack b.states b.first
  comes_next = comes_after b.stack well.typed well.no_cycle g.world (task_seen p t) (tasks_seen p rest) g.chained
      (run weight_limit b.stack b.states b.first) g.left g.comes g.enough

  enough_next : pending_weight b.stack next.tasks ≤ g.left - 1
  enough_next = enough_after b.stack well.typed well.no_cycle g.world (task_seen p t) (tasks_seen p rest) g.chained
      (run weight_limit b.stack b.states b.first) g.left g.comes g.enough

  counts_next : (c : Bool) → is_place (length b.stack) t.at ≡ c →
      counted_on (visited_for (length b.stack) (layers b.stack) (g.left - 1) next)
      (if c then counted_at n.taken t.at else n.taken)
      ≡ taken_after b.stack b.states b.first b.taken
  counts_next = counts_after b.stack well.typed well.no_cycle g.world (task_seen p t) (tasks_seen p rest) g.chained
      (taken_after b.stack b.states b.first b.taken) n.taken g.left g.counts g.enough

  cover : (i : ℕ) → times i refs + times i (event_refs t.event) + times i (tasks_refs rest) + times i (sent_refs n.out)
      ≤ count_at p i
  cover i = omega (
    arith,
    g.covers.covers i,
    times-append i refs (tasks_refs (t ∷ rest) ++ sent_refs n.out),
    times-append i (tasks_refs (t ∷ rest)) (sent_refs n.out),
    times-append i (event_refs t.event) (tasks_refs rest),
  )

  module _ (placed : is_place (length b.stack) t.at ≡ true) (q : List Held) (states' : List State) (refs' : List ℕ)
      (after : List PoolTask) (decided : Predicted)
      (moved : Moved p q (refs ++ (event_refs t.event ++ tasks_refs rest)) (refs' ++ tasks_refs after))
      (spent : spare p ≤ spare q + slots_needed (layer_at b.stack t.at) t.direction (event_seen p t.event))
      (lie : TasksLie q after)
      (state_is : states' ≡ set states (t.at - 1) (visit_of b p states t).state)
      (tasks_are : tasks_seen q after ≡ tasks_seen p rest ++ tasks_of t.at (visit_of b p states t).sent)
      (decided_is : decided ≡ as_predicted (visit_of b p states t).decided) where
    same_visit : visit_of b p states t ≡ visit_of b p g.world.states t
    same_visit = ap (λ ss. visit_of b p ss t) (sym g.states)

    out_stays : SentLie q n.out × (sent_seen q n.out ≡ sent_seen p n.out)
    out_stays = sent_stay p q (refs ++ (event_refs t.event ++ tasks_refs rest)) (refs' ++ tasks_refs after) moved n.out
        (record {
          covers = λ i. omega (
            arith,
            cover i,
            times-append i refs (event_refs t.event ++ tasks_refs rest),
            times-append i (event_refs t.event) (tasks_refs rest),
            times-append i (refs ++ (event_refs t.event ++ tasks_refs rest)) (sent_refs n.out),
          );
        })
        g.out_lies

    -- the line that is shown is the next one
    tasks_next : tasks_seen q after ≡ tasks_seen p rest ++ tasks_of t.at (visit_of b p g.world.states t).sent
    tasks_next = tasks_are ∙ ap (λ (x : Visited). tasks_seen p rest ++ tasks_of t.at x.sent) same_visit

    line_next : line_of (visit_turn t.at g.world (visit_of b p g.world.states t)).world q after ≡ next
    line_next = ap (λ ts.
        record { world = (visit_turn t.at g.world (visit_of b p g.world.states t)).world; tasks = ts })
        tasks_next
        ∙ sym (visited_after b.stack well.typed well.no_cycle g.world (task_seen p t) (tasks_seen p rest) g.chained
        placed)

    weight_next : weight_of b q after ≡ pending_weight b.stack next.tasks
    weight_next = ap (λ (r : Line Work Event). pending_weight b.stack r.tasks) line_next

    joins_next : joins_of b q after
        ≡ pending_joins b.stack (tasks_seen p rest) + pending_joins b.stack
        (sent_tasks b.stack (state_at g.world t.at) (task_seen p t))
    joins_next = ap (pending_joins b.stack) tasks_next
        ∙ sum_by-append (task_joins b.stack) (tasks_seen p rest)
        (sent_tasks b.stack (state_at g.world t.at) (task_seen p t))

    move : Moved p q (refs ++ (tasks_refs (t ∷ rest) ++ sent_refs n.out))
        (refs' ++ (tasks_refs after ++ sent_refs n.out))
    move = moved-reordered p q ((refs ++ (event_refs t.event ++ tasks_refs rest)) ++ sent_refs n.out)
        ((refs' ++ tasks_refs after) ++ sent_refs n.out)
        (refs ++ (tasks_refs (t ∷ rest) ++ sent_refs n.out)) (refs' ++ (tasks_refs after ++ sent_refs n.out))
        (λ i. ap (times i) (append_assoc refs (tasks_refs (t ∷ rest)) (sent_refs n.out)))
        (λ i. ap (times i) (append_assoc refs' (tasks_refs after) (sent_refs n.out)))
        (moved-beside p q (refs ++ (event_refs t.event ++ tasks_refs rest)) (refs' ++ tasks_refs after)
        (sent_refs n.out) moved)

    pub visit_falls : 1 + weight_of b q after ≤ weight_of b p (t ∷ rest)
    visit_falls = omega (arith, lighter_next, weight_next)

    -- a visit that came about lets the run go on
    pub visit_goes : (taken' : List ℕ) → taken' ≡ counted_at n.taken t.at → Going b q (record {
      states = states';
      refs = refs';
      tasks = after;
      out = n.out;
      predicted = both n.predicted decided;
      visits = n.visits + 1;
      taken = taken';
    })
    visit_goes taken' taken_is = record {
      world = (visit_turn t.at g.world (visit_of b p g.world.states t)).world;
      left = g.left - 1;
      comes = ap (run_for (length b.stack) (layers b.stack) (g.left - 1)) line_next ∙ comes_next;
      counts = (λ k. counted_on (visited_for (length b.stack) (layers b.stack) (g.left - 1) (line_next k)) (taken_is k))
          ∙ counts_next true placed;
      enough = omega (arith, weight_next, enough_next);
      chained = subst (IsChainedLine b.stack) (sym line_next) chained_next;
      states = (λ k. set (g.states k) (t.at - 1) (visit_of b p (g.states k) t).state) ∙ sym state_is;
      outs = out_stays.1 ∙ g.outs;
      news = g.news;
      following = g.following;
      predicted = (λ k. both (g.predicted k) (decided_is k)) ∙
          ap (λ (x : Visited). both (as_predicted g.world.decided) (as_predicted x.decided)) same_visit
          ∙ sym (predicted_after g.world.decided (visit_of b p g.world.states t).decided);
      visits = omega (arith, g.visits);
      weight = omega (arith, g.weight, lighter_next, weight_next);
      slots = omega (
        arith,
        g.slots,
        joins_next,
        spent,
        slots_are b well p states refs t rest n g placed,
        (fits b well p states refs t rest n g placed).slots,
        sum_by-cons (task_joins b.stack) (task_seen p t) (tasks_seen p rest),
      );
      moved = moved-chain b.pool p q (b.refs ++ sent_refs b.out) (refs ++ (tasks_refs (t ∷ rest) ++ sent_refs n.out))
          (refs' ++ (tasks_refs after ++ sent_refs n.out)) g.moved move;
      covers = record { covers = λ i. omega (arith, move.counts i, g.covers.covers i) };
      tasks_lie = lie;
      out_lies = out_stays.0;
    }

  pub output_falls : is_place (length b.stack) t.at ≡ false → 1 + weight_of b p rest ≤ weight_of b p (t ∷ rest)
  output_falls edge = omega (
    arith,
    lighter_next,
    ap (λ (r : Line Work Event). pending_weight b.stack r.tasks)
        (put_out_after b.stack well.typed well.no_cycle g.world (task_seen p t) (tasks_seen p rest) g.chained edge),
  )

  -- and so does an output
  pub output_goes : is_place (length b.stack) t.at ≡ false →
      Going b p (record n { states = states; refs = refs; tasks = rest; out = n.out ++ (t.direction, t.event) ∷ [] })
  output_goes edge =
      let x : Dir × PoolEvent = (t.direction, t.event) in
      let next_is = put_out_after b.stack well.typed well.no_cycle g.world (task_seen p t) (tasks_seen p rest)
      g.chained edge in
      let less = joins_less b.stack well.typed well.no_cycle g.world (task_seen p t) (tasks_seen p rest) g.chained in
      let light = ap (λ (r : Line Work Event). pending_weight b.stack r.tasks) next_is in
      let joins = ap (λ (r : Line Work Event). pending_joins b.stack r.tasks) next_is in
      let at : (i : ℕ) → times i (refs ++ (tasks_refs rest ++ sent_refs (n.out ++ x ∷ []))) ≡
      times i (refs ++ (tasks_refs (t ∷ rest) ++ sent_refs n.out)) =
      λ i. omega (
        arith,
        times-append i refs (tasks_refs rest ++ sent_refs (n.out ++ x ∷ [])),
        times-append i (tasks_refs rest) (sent_refs (n.out ++ x ∷ [])),
        each_both (λ (y : Dir × PoolEvent). event_refs y.1) n.out (x ∷ []) i,
        times-append i (event_refs t.event) [],
        times-append i refs (tasks_refs (t ∷ rest) ++ sent_refs n.out),
        times-append i (tasks_refs (t ∷ rest)) (sent_refs n.out),
        times-append i (event_refs t.event) (tasks_refs rest),
      ) in record {
        world = record g.world { outs = g.world.outs ++ (t.direction, event_seen p t.event) ∷ [] };
        left = g.left - 1;
        comes = ap (run_for (length b.stack) (layers b.stack) (g.left - 1)) (sym next_is) ∙ comes_next;
        counts = ap (λ (r : Line Work Event). counted_on (visited_for (length b.stack) (layers b.stack) (g.left - 1) r)
            n.taken) (sym next_is) ∙ counts_next false edge;
        enough = omega (arith, light, enough_next);
        chained = subst (IsChainedLine b.stack) next_is chained_next;
        states = g.states;
        outs = one_more (λ (y : Dir × PoolEvent). (y.0, event_seen p y.1)) n.out x (sent_seen b.pool b.out) g.world.outs
            g.outs;
        news = g.news ++ x ∷ [];
        following = ap (λ ys. ys ++ x ∷ []) g.following ∙ append_assoc b.out g.news (x ∷ []);
        predicted = g.predicted;
        visits = g.visits;
        weight = omega (arith, g.weight, lighter_next, light, length-append g.news (x ∷ []));
        slots = omega (arith, g.slots, less, joins);
        moved = moved-reordered b.pool p (b.refs ++ sent_refs b.out)
            (refs ++ (tasks_refs (t ∷ rest) ++ sent_refs n.out)) (b.refs ++ sent_refs b.out)
            (refs ++ (tasks_refs rest ++ sent_refs (n.out ++ x ∷ []))) (λ i. refl) (λ i. sym (at i)) g.moved;
        covers = record { covers = λ i. omega (arith, at i, g.covers.covers i) };
        tasks_lie = g.tasks_lie.1;
        out_lies = all_both (λ (y : Dir × PoolEvent). EventLies p y.1) n.out (x ∷ []) g.out_lies (g.tasks_lie.0, tt);
      }
