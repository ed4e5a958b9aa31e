-- Runs of a stack end, within their weights.
use Rattle.std.proofs.Common.{◌≡◌, ℕ, zero, suc, ◌+◌, ◌-◌, ◌≤◌, Bool, true, false, List, [], ◌∷◌, ◌++◌, map, length}
use Rattle.std.proofs.Common.{None, Some, Option, Ok, Err, refl, sym, ap, ◌∙◌, le_trans, nat_lt, ltb-false, arith}
use Rattle.std.specs.Prelude.{if◌then◌else◌}
use Rattle.std.specs.List.{sum_by, AllByRecursion}
use Rattle.std.proofs.lemmas.List.{length-append}
use Rattle.std.proofs.lemmas.List.Sums.{sum_by-cons, sum_by-append}
use Rattle.layer_words.specs.declared.events.Dir.{Dir}
use Rattle.layer_words.specs.declared.events.Dir.TheVariants.{Up, Down}
use Rattle.layer_words.specs.declared.events.Kind.{Kind}
use Rattle.layer_words.specs.declared.events.Kind.TheVariants.{Cast, Send, Timer, Leave}
use Rattle.layer_mean.specs.declared.run.Event.{Event}
use Rattle.layer_mean.specs.Tree.{LayerTree}
use Rattle.layer_mean.specs.State.{State}
use Rattle.layer_mean.specs.Queue.{Task, Line, Work, is_place, taken_turn, next_of, layer_at, state_at, run_for, layers}
use Rattle.layer_mean.specs.Queue.{run, unstarted_work, starting}
use Rattle.stack_mean.specs.Graph.{Node, tags_for, nodes_of, header_layer, first_on_cycle}
use Rattle.stack_mean.specs.Acceptance.{cost, weight, own_joins, most_joins, entries, largest_weight, largest_joins}
use Rattle.stack_mean.specs.Acceptance.{weight_limit, joins_limit, Refusal, without_cycle, acceptance}
use Rattle.weight_laws.specs.Nodes.{can_have, task_node, IsKnown}
use Rattle.weight_laws.specs.Orderly.{IsOrderly}
use Rattle.weight_laws.specs.Made.{visit_joins}
use Rattle.weight_laws.specs.Visits.{sent_tasks, task_weight, task_joins, IsVisit}
use Rattle.weight_laws.specs.Runs.{pending_weight, pending_joins, turn_joins, total_price, run_joins, IsTurn}
use Rattle.weight_laws.specs.Runs.{TurnsLighten}
use Rattle.weight_laws.specs.Runs.{TurnsJoinLess, turns_of, TurnsFit, IsLine, TurnsAndWeight, JoinsAndPending, LinesEnd}
use Rattle.weight_laws.specs.Runs.{Enters, IsRun, RunsEnd}
use Rattle.weight_laws.proofs.Members.{In, in_left, in_right, in_map}
use Rattle.weight_laws.proofs.Nodes.{had_in}
use Rattle.weight_laws.proofs.Costs.{follows}
use Rattle.weight_laws.proofs.Visits.{at_most_largest, sends_follow_arrows}
use Rattle.weight_laws.proofs.Sums.{weighs_what_it_sends, joins_own}
use Rattle.weight_laws.proofs.Queue.{run_spends, run_ends, run_stays}

all_right : {A : Type 0} (P : A → Type 0) (xs ys : List A) → AllByRecursion P (xs ++ ys) → AllByRecursion P ys
all_right P [] ys h = h
all_right P (x ∷ xs) ys h = all_right P xs ys h.1

module _ (stack : List LayerTree) (orderly : IsOrderly stack) (off : first_on_cycle stack ≡ None) (own : Node → ℕ)
    (price : Work → Task Event → ℕ) (fits : (w : Work) (t : Task Event) → price w t ≤ own (task_node t)) where
  -- what a turn costs is taken from what is pending
  pub turn_takes : (t : Task Event) (rest : List (Task Event)) (w : Work) → AllByRecursion (IsKnown stack) (t ∷ rest) →
      AllByRecursion (IsKnown stack) (next_of (length stack) (layers stack) (t ∷ rest) w).tasks →
      price w t + sum_by (λ x. cost stack own (task_node x)) (next_of (length stack) (layers stack) (t ∷ rest) w).tasks
      ≤ sum_by (λ x. cost stack own (task_node x)) (t ∷ rest)
  turn_takes t rest w before following = go (is_place (length stack) t.at) refl following where
    f : Node → ℕ
    f = cost stack own

    go : (b : Bool) → is_place (length stack) t.at ≡ b →
        AllByRecursion (IsKnown stack)
        (if◌then◌else◌ {A = Line Work Event} b (taken_turn t.at rest ((layers stack).visit t.at t.dir t.event w))
        (record { world = (layers stack).output t.dir t.event w; tasks = rest })).tasks →
        price w t + sum_by (λ x. cost stack own (task_node x))
        (if◌then◌else◌ {A = Line Work Event} b (taken_turn t.at rest ((layers stack).visit t.at t.dir t.event w))
        (record { world = (layers stack).output t.dir t.event w; tasks = rest })).tasks
        ≤ sum_by (λ x. cost stack own (task_node x)) (t ∷ rest)
    go true placed known =
        let s : State = state_at w t.at in
        let visit : IsVisit stack s t = record {
          orderly = orderly;
          place = placed;
          known = before.0;
          sent = all_right (IsKnown stack) rest (sent_tasks stack s t) known;
        } in
        omega (
          arith,
          follows stack orderly off own (task_node t) before.0,
          sends_follow_arrows stack s t (cost stack own) visit,
          fits w t,
          sum_by-cons (λ x. cost stack own (task_node x)) t rest,
          sum_by-append (λ x. cost stack own (task_node x)) rest (sent_tasks stack s t),
        )
    go false placed known =
        omega (
          arith,
          follows stack orderly off own (task_node t) before.0,
          fits w t,
          sum_by-cons (λ x. cost stack own (task_node x)) t rest,
        )

abbrev one : Work → Task Event → ℕ
one w t = 1

joins_fit : (stack : List LayerTree) (w : Work) (t : Task Event) → turn_joins stack w t ≤ own_joins stack (task_node t)
joins_fit stack w t = go (is_place (length stack) t.at) refl where
  go : (b : Bool) → is_place (length stack) t.at ≡ b →
      (if b then visit_joins (t.at - 1) (layer_at stack t.at) (state_at w t.at) t.dir t.event else 0) ≤ own_joins stack
      (task_node t)
  go true placed = joins_own stack (state_at w t.at) t placed
  go false placed = omega arith

pub turns_lighten : TurnsLighten
turns_lighten stack w t rest turn =
    turn_takes stack turn.orderly turn.no_cycle (λ node. 1) (λ v x. 1) (λ v x. omega arith) t rest w turn.before
    turn.following

pub turns_join_less : TurnsJoinLess
turns_join_less stack w t rest turn =
    turn_takes stack turn.orderly turn.no_cycle (own_joins stack) (turn_joins stack) (joins_fit stack) t rest w
    turn.before turn.following

-- each task weighs something
at_least_one : (stack : List LayerTree) → IsOrderly stack → first_on_cycle stack ≡ None → (t : Task Event) →
    IsKnown stack t →
    1 ≤ task_weight stack t
at_least_one stack orderly off t known = omega (arith, follows stack orderly off (λ node. 1) (task_node t) known)

tasks_weigh : (stack : List LayerTree) → IsOrderly stack → first_on_cycle stack ≡ None → (ts : List (Task Event)) →
    AllByRecursion (IsKnown stack) ts → length ts ≤ pending_weight stack ts
tasks_weigh stack orderly off [] known = omega arith
tasks_weigh stack orderly off (t ∷ ts) known =
    omega (
      arith,
      at_least_one stack orderly off t known.0,
      tasks_weigh stack orderly off ts known.1,
      sum_by-cons (task_weight stack) t ts,
    )

-- each turn is a visit or an output
one_turn : (stack : List LayerTree) (t : Task Event) (rest : List (Task Event)) (w : Work) →
    turns_of (next_of (length stack) (layers stack) (t ∷ rest) w).world ≡ turns_of w + 1
one_turn stack t rest w = go (is_place (length stack) t.at) where
  go : (b : Bool) → turns_of
      (if◌then◌else◌ {A = Line Work Event} b (taken_turn t.at rest ((layers stack).visit t.at t.dir t.event w))
      (record { world = (layers stack).output t.dir t.event w; tasks = rest })).world ≡ turns_of w + 1
  go true = omega arith
  go false = ap (λ n. w.visits + n) (length-append w.outs ((t.dir, t.event) ∷ [])) ∙ omega arith

-- the visit of a turn at a place
visit_of : (stack : List LayerTree) (w : Work) (t : Task Event) (rest : List (Task Event)) → IsTurn stack w t rest →
    is_place (length stack) t.at ≡ true → IsVisit stack (state_at w t.at) t
visit_of stack w t rest turn placed = record {
  orderly = turn.orderly;
  place = placed;
  known = turn.before.0;
  sent = all_right (IsKnown stack) rest (sent_tasks stack (state_at w t.at) t) (rw placed at turn.following);
}

pub turns_fit : TurnsFit
turns_fit stack w t rest left free turn enough room =
    let light = turns_lighten stack w t rest turn in
    let joined = turns_join_less stack w t rest turn in
    let pending = tasks_weigh stack turn.orderly turn.no_cycle _ turn.following in record {
      sent = λ placed.
          let visit = visit_of stack w t rest turn placed in
          omega (
            arith,
            weighs_what_it_sends stack (state_at w t.at) t turn.no_cycle visit,
            tasks_weigh stack turn.orderly turn.no_cycle (sent_tasks stack (state_at w t.at) t) visit.sent,
            sum_by-cons (task_weight stack) t rest,
          );
      tasks = omega (arith, light, pending);
      turn = one_turn stack t rest w;
      weight = omega (arith, light);
      slots = omega (arith, joined);
    }

-- turns are what is spent at 1 a turn
turns_spent : (stack : List LayerTree) (n : ℕ) (tasks : List (Task Event)) (w : Work) →
    turns_of (run_for (length stack) (layers stack) n (record { world = w; tasks = tasks })).world
    ≡ turns_of w + total_price (length stack) (layers stack) one n w tasks
turns_spent stack zero tasks w = omega arith
turns_spent stack (suc n) [] w = omega arith
turns_spent stack (suc n) (t ∷ rest) w =
    let r : Line Work Event = next_of (length stack) (layers stack) (t ∷ rest) w in
    turns_spent stack n r.tasks r.world ∙ omega (arith, one_turn stack t rest w)

module _ (stack : List LayerTree) (r : Line Work Event) (line : IsLine stack r) where
  weight_spends : (n : ℕ) → total_price (length stack) (layers stack) one n r.world r.tasks
      + pending_weight stack (run_for (length stack) (layers stack) n r).tasks ≤ pending_weight stack r.tasks
  weight_spends n = run_spends (length stack) (layers stack) (AllByRecursion (IsKnown stack)) (task_weight stack) one
      (turn_takes stack line.orderly line.no_cycle (λ node. 1) one (λ v x. omega arith)) n r.tasks r.world line.known

  joins_spend : (n : ℕ) → run_joins stack n r + pending_joins stack (run_for (length stack) (layers stack) n r).tasks ≤
      pending_joins stack r.tasks
  joins_spend n = run_spends (length stack) (layers stack) (AllByRecursion (IsKnown stack)) (task_joins stack)
      (turn_joins stack)
      (turn_takes stack line.orderly line.no_cycle (own_joins stack) (turn_joins stack) (joins_fit stack)) n r.tasks
      r.world line.known

  ends : (n : ℕ) → pending_weight stack r.tasks ≤ n → (run_for (length stack) (layers stack) n r).tasks ≡ []
  ends n enough = run_ends (length stack) (layers stack) (AllByRecursion (IsKnown stack)) (task_weight stack) one
      (turn_takes stack line.orderly line.no_cycle (λ node. 1) one (λ v x. omega arith)) (λ v x. omega arith) n r.tasks
      r.world line.known enough

  stays : (n : ℕ) → pending_weight stack r.tasks ≤ n →
      run_for (length stack) (layers stack) n r ≡ run_for (length stack) (layers stack) (pending_weight stack r.tasks) r
  stays n enough = run_stays (length stack) (layers stack) (pending_weight stack r.tasks) n r.tasks r.world enough
      (ends (pending_weight stack r.tasks) (omega arith))

pub turns_and_weight : TurnsAndWeight
turns_and_weight stack n r line = omega (arith, turns_spent stack n r.tasks r.world, weight_spends stack r line n)

pub joins_and_pending : JoinsAndPending
joins_and_pending stack n r line = joins_spend stack r line n

pub lines_end : LinesEnd
lines_end stack n r line enough =
    (ends stack r line (pending_weight stack r.tasks) (omega arith), stays stack r line n enough)

-- what an accepted stack is
accepts_parts : (stack : List LayerTree) → acceptance stack ≡ Ok stack →
    (first_on_cycle stack ≡ None) × (largest_weight stack ≤ weight_limit) × (largest_joins stack ≤ joins_limit)
accepts_parts stack h = go (first_on_cycle stack) refl h where
  judged : (b c : Bool) → (x y : Refusal) → (if b then Err x else if c then Err y else Ok stack) ≡ Ok stack →
      (b ≡ false) × (c ≡ false)
  judged true c x y e = absurd (cc e)
  judged false true x y e = absurd (cc e)
  judged false false x y e = (refl, refl)

  go : (o : Option Node) → first_on_cycle stack ≡ o → without_cycle stack o ≡ Ok stack →
      (first_on_cycle stack ≡ None) × (largest_weight stack ≤ weight_limit) × (largest_joins stack ≤ joins_limit)
  go (Some n) is e = absurd (cc e)
  go None is e =
      let within = judged (nat_lt weight_limit (largest_weight stack)) (nat_lt joins_limit (largest_joins stack)) _ _ e
      in
      (is, ltb-false weight_limit (largest_weight stack) within.0, ltb-false joins_limit (largest_joins stack) within.1)

-- the entries in order, as far as a kind
abbrev pub messages_below : List LayerTree → List Node
messages_below stack = nodes_of stack 1 Up Cast ++ nodes_of stack 1 Up Send

abbrev pub from_below : List LayerTree → List Node
from_below stack = messages_below stack ++ nodes_of stack 1 Up Timer

abbrev pub through_casts : List LayerTree → List Node
through_casts stack = from_below stack ++ nodes_of stack (length stack) Down Cast

abbrev pub through_sends : List LayerTree → List Node
through_sends stack = through_casts stack ++ nodes_of stack (length stack) Down Send

-- where a run begins is one of the entries
pub entering : (stack : List LayerTree) (at : ℕ) (dir : Dir) (kind : Kind) (tag : ℕ) → Enters stack at dir kind →
    can_have kind (header_layer stack dir at) tag ≡ true →
    In (record { at = at; dir = dir; kind = kind; tag = tag }) (entries stack)
entering stack at dir kind tag enters had = go dir kind enters had where
  node : ℕ → Dir → Kind → Node
  node a d k = record { at = a; dir = d; kind = k; tag = tag }

  listed : (a : ℕ) (d : Dir) (k : Kind) → can_have k (header_layer stack d a) tag ≡ true →
      In (node a d k) (nodes_of stack a d k)
  listed a d k h = in_map (λ t. record { at = a; dir = d; kind = k; tag = t }) tag (tags_for k (header_layer stack d a))
      (had_in k (header_layer stack d a) tag h)

  here : (a : ℕ) (d : Dir) (k : Kind) → at ≡ a → can_have k (header_layer stack d at) tag ≡ true →
      In (node at d k) (nodes_of stack a d k)
  here a d k e h = rw e (listed a d k (rw e at h))

  -- what stands before the leaves, the sends and the casts from above
  no_leave : (n : Node) → In n (through_sends stack) → In n (entries stack)
  no_leave n h = in_left n (through_sends stack) (nodes_of stack (length stack) Down Leave) h

  no_send : (n : Node) → In n (through_casts stack) → In n (entries stack)
  no_send n h = no_leave n (in_left n (through_casts stack) (nodes_of stack (length stack) Down Send) h)

  below : (n : Node) → In n (from_below stack) → In n (entries stack)
  below n h = no_send n (in_left n (from_below stack) (nodes_of stack (length stack) Down Cast) h)

  go : (d : Dir) (k : Kind) → Enters stack at d k → can_have k (header_layer stack d at) tag ≡ true →
      In (node at d k) (entries stack)
  go Up Cast e h = below (node at Up Cast) (in_left (node at Up Cast) (messages_below stack) (nodes_of stack 1 Up Timer)
      (in_left (node at Up Cast) (nodes_of stack 1 Up Cast) (nodes_of stack 1 Up Send) (here 1 Up Cast e h)))
  go Up Send e h = below (node at Up Send) (in_left (node at Up Send) (messages_below stack) (nodes_of stack 1 Up Timer)
      (in_right (node at Up Send) (nodes_of stack 1 Up Cast) (nodes_of stack 1 Up Send) (here 1 Up Send e h)))
  go Up Timer e h = below (node at Up Timer)
      (in_right (node at Up Timer) (messages_below stack) (nodes_of stack 1 Up Timer) (here 1 Up Timer e h))
  go Down Cast e h = no_send (node at Down Cast)
      (in_right (node at Down Cast) (from_below stack) (nodes_of stack (length stack) Down Cast)
      (here (length stack) Down Cast e h))
  go Down Send e h = no_leave (node at Down Send)
      (in_right (node at Down Send) (through_casts stack) (nodes_of stack (length stack) Down Send)
      (here (length stack) Down Send e h))
  go Down Leave e h =
      in_right (node at Down Leave) (through_sends stack) (nodes_of stack (length stack) Down Leave)
      (here (length stack) Down Leave e h)
  go _ _ e h = absurd e

-- one task's weight is what is pending
alone : (f : Task Event → ℕ) (t : Task Event) → sum_by f (t ∷ []) ≡ f t
alone f t = omega arith

module _ (stack : List LayerTree) (states : List State) (first : Task Event) (is : IsRun stack states first) where
  start : Line Work Event
  start = starting (unstarted_work states) first

  line : IsLine stack (starting (unstarted_work states) first)
  line = record { orderly = is.orderly; no_cycle = (accepts_parts stack is.accepts).0; known = is.known }

  is_entry : In (task_node first) (entries stack)
  is_entry = entering stack first.at first.dir first.event.kind (task_node first).tag is.enters (is.known zero).0.tag

  weight_fits : task_weight stack first ≤ weight_limit
  weight_fits = le_trans (at_most_largest (weight stack (task_node first)) (map (weight stack) (entries stack))
      (in_map (weight stack) (task_node first) (entries stack) is_entry)) (accepts_parts stack is.accepts).1

  joins_fit_too : task_joins stack first ≤ joins_limit
  joins_fit_too = le_trans
      (at_most_largest (most_joins stack (task_node first)) (map (most_joins stack) (entries stack))
      (in_map (most_joins stack) (task_node first) (entries stack) is_entry)) (accepts_parts stack is.accepts).2

  run_is_done : (n : ℕ) → task_weight stack first ≤ n → (run n stack states first).tasks ≡ []
  unfolding run
  run_is_done n enough = ends stack (starting (unstarted_work states) first) line n
      (omega (arith, alone (task_weight stack) first))

  run_is : (n : ℕ) → task_weight stack first ≤ n →
      run n stack states first ≡ run (task_weight stack first) stack states first
  unfolding run
  run_is n enough = run_stays (length stack) (layers stack) (task_weight stack first) n (first ∷ [])
      (unstarted_work states)
      enough
      (run_is_done (task_weight stack first) (omega arith))

  run_turns : (n : ℕ) → turns_of (run n stack states first).world ≤ task_weight stack first
  unfolding run
  run_turns n = omega (
    arith,
    turns_and_weight stack n (starting (unstarted_work states) first) line,
    alone (task_weight stack) first,
  )

  run_makes : (n : ℕ) → run_joins stack n (starting (unstarted_work states) first) ≤ task_joins stack first
  run_makes n = omega (
    arith,
    joins_spend stack (starting (unstarted_work states) first) line n,
    alone (task_joins stack) first,
  )

pub runs_end : RunsEnd
runs_end stack states first is = record {
  weight = weight_fits stack states first is;
  joins = joins_fit_too stack states first is;
  done = run_is_done stack states first is weight_limit (weight_fits stack states first is);
  enough = λ n le. run_is stack states first is n le ∙
      sym (run_is stack states first is weight_limit (weight_fits stack states first is));
  turns = run_turns stack states first is weight_limit;
  made = run_makes stack states first is;
}
