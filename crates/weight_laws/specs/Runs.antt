-- That runs end, and how much they take.
use Rattle.std.specs.Prelude.{◌≡◌, ℕ, zero, suc, ◌+◌, ◌-◌, ◌≤◌, true, if◌then◌else◌, List, [], ◌∷◌, length, None, Ok}
use Rattle.std.specs.List.{sum_by, AllByRecursion}
use Rattle.layer_words.specs.declared.events.Dir.{Dir}
use Rattle.layer_words.specs.declared.events.Dir.TheVariants.{Up, Down}
use Rattle.layer_words.specs.declared.events.Kind.{Kind}
use Rattle.layer_words.specs.declared.events.Kind.TheVariants.{Cast, Send, Timer, Leave}
use Rattle.layer_mean.specs.declared.run.Event.{Event}
use Rattle.layer_mean.specs.Tree.{LayerTree}
use Rattle.layer_mean.specs.State.{State}
use Rattle.layer_mean.specs.Queue.{Task, Player, Line, Work, is_place, layer_at, state_at, next_of, run_for, layers}
use Rattle.layer_mean.specs.Queue.{run, unstarted_work, starting}
use Rattle.stack_mean.specs.Graph.{first_on_cycle}
use Rattle.stack_mean.specs.Acceptance.{weight_limit, joins_limit, acceptance}
use Rattle.weight_laws.specs.Nodes.{IsKnown}
use Rattle.weight_laws.specs.Orderly.{IsOrderly}
use Rattle.weight_laws.specs.Made.{visit_joins}
use Rattle.weight_laws.specs.Visits.{sent_tasks, task_weight, task_joins}

-- The weights and the join counts of pending tasks together.
abbrev pub pending_weight : List LayerTree → List (Task Event) → ℕ
pending_weight stack tasks = sum_by (task_weight stack) tasks

abbrev pub pending_joins : List LayerTree → List (Task Event) → ℕ
pending_joins stack tasks = sum_by (task_joins stack) tasks

-- The joins that the turn of a task makes: those of its visit, and none at an edge.
abbrev pub turn_joins : List LayerTree → Work → Task Event → ℕ
turn_joins stack w t = if is_place (length stack) t.at
    then visit_joins (t.at - 1) (layer_at stack t.at) (state_at w t.at) t.dir t.event
    else 0

-- What the tasks that are taken in n turns cost together, each at its price in the world in which it is taken.
abbrev pub total_price : {W E : Type 0} → ℕ → Player W E → (W → Task E → ℕ) → ℕ → W → List (Task E) → ℕ
total_price places play price zero w tasks = 0
total_price places play price (suc n) w [] = 0
total_price places play price (suc n) w (t ∷ rest) =
    let r = next_of places play (t ∷ rest) w in price w t + total_price places play price n r.world r.tasks

-- How many joins are made in n turns of a stack.
abbrev pub run_joins : List LayerTree → ℕ → Line Work Event → ℕ
run_joins stack n r = total_price (length stack) (layers stack) (turn_joins stack) n r.world r.tasks

-- Tasks of a line of a stack without cycles, which are known before a turn and after it.
pub record IsTurn (stack : List LayerTree) (w : Work) (t : Task Event) (rest : List (Task Event)) : Type 0 where
  pub orderly : IsOrderly stack
  pub no_cycle : first_on_cycle stack ≡ None
  pub before : AllByRecursion (IsKnown stack) (t ∷ rest)
  pub following : AllByRecursion (IsKnown stack) (next_of (length stack) (layers stack) (t ∷ rest) w).tasks

-- A turn lowers the pending weight.
abbrev pub TurnsLighten : Type 0
TurnsLighten = (stack : List LayerTree) (w : Work) (t : Task Event) (rest : List (Task Event)) → IsTurn stack w t rest →
    1 + pending_weight stack (next_of (length stack) (layers stack) (t ∷ rest) w).tasks ≤ pending_weight stack
    (t ∷ rest)

-- The joins that a turn makes are taken from the pending ones.
abbrev pub TurnsJoinLess : Type 0
TurnsJoinLess = (stack : List LayerTree) (w : Work) (t : Task Event) (rest : List (Task Event)) →
    IsTurn stack w t rest →
    turn_joins stack w t + pending_joins stack (next_of (length stack) (layers stack) (t ∷ rest) w).tasks ≤
    pending_joins stack (t ∷ rest)

-- How many turns a line has taken: a visit or an output for each.
abbrev pub turns_of : Work → ℕ
turns_of w = w.visits + length w.outs

-- One turn of a loop with `left` weight left and `free` free slots: there is room for what the visit sends, for the
-- tasks that are then pending and for an output; each join that it makes finds a slot; and what is left is enough for
-- the rest.
pub record TurnFits (stack : List LayerTree) (w : Work) (t : Task Event) (rest : List (Task Event)) (left free : ℕ) :
    Type 0 where
  pub sent : is_place (length stack) t.at ≡ true → 1 + length (sent_tasks stack (state_at w t.at) t) ≤ left
  pub tasks : 1 + length (next_of (length stack) (layers stack) (t ∷ rest) w).tasks ≤ left
  pub turn : turns_of (next_of (length stack) (layers stack) (t ∷ rest) w).world ≡ turns_of w + 1
  pub weight : 1 + pending_weight stack (next_of (length stack) (layers stack) (t ∷ rest) w).tasks ≤ left
  pub slots : turn_joins stack w t + pending_joins stack (next_of (length stack) (layers stack) (t ∷ rest) w).tasks ≤
      free

abbrev pub TurnsFit : Type 0
TurnsFit = (stack : List LayerTree) (w : Work) (t : Task Event) (rest : List (Task Event)) (left free : ℕ) →
    IsTurn stack w t rest →
    pending_weight stack (t ∷ rest) ≤ left → pending_joins stack (t ∷ rest) ≤ free → TurnFits stack w t rest left free

-- All tasks of a line are known, whatever number of turns it takes. (So they are where they are chained.)
abbrev pub StaysKnown : List LayerTree → Line Work Event → Type 0
StaysKnown stack r = (k : ℕ) → AllByRecursion (IsKnown stack) (run_for (length stack) (layers stack) k r).tasks

-- A line of a stack of which all is known.
pub record IsLine (stack : List LayerTree) (r : Line Work Event) : Type 0 where
  pub orderly : IsOrderly stack
  pub no_cycle : first_on_cycle stack ≡ None
  pub known : StaysKnown stack r

-- However many turns are taken, the turns and the pending weight together are no more than before.
abbrev pub TurnsAndWeight : Type 0
TurnsAndWeight = (stack : List LayerTree) (n : ℕ) (r : Line Work Event) → IsLine stack r →
    let q = run_for (length stack) (layers stack) n r in
    turns_of q.world + pending_weight stack q.tasks ≤ turns_of r.world + pending_weight stack r.tasks

-- And the joins that are made, together with those then pending, are no more than those pending before.
abbrev pub JoinsAndPending : Type 0
JoinsAndPending = (stack : List LayerTree) (n : ℕ) (r : Line Work Event) → IsLine stack r →
    run_joins stack n r + pending_joins stack (run_for (length stack) (layers stack) n r).tasks ≤ pending_joins stack
    r.tasks

-- In as many turns as its weight a line reaches its end: no task is left, and more turns change nothing.
abbrev pub LinesEnd : Type 0
LinesEnd = (stack : List LayerTree) (n : ℕ) (r : Line Work Event) → IsLine stack r → pending_weight stack r.tasks ≤ n →
    let q = run_for (length stack) (layers stack) (pending_weight stack r.tasks) r in
    (q.tasks ≡ []) × (run_for (length stack) (layers stack) n r ≡ q)

-- Where a run begins: a packet or a tick at the lowest place, a cast, a send or a leave at the highest.
abbrev pub Enters : List LayerTree → ℕ → Dir → Kind → Type 0
Enters stack at Up Cast = at ≡ 1
Enters stack at Up Send = at ≡ 1
Enters stack at Up Timer = at ≡ 1
Enters stack at Down Cast = at ≡ length stack
Enters stack at Down Send = at ≡ length stack
Enters stack at Down Leave = at ≡ length stack
Enters stack at _ _ = ⊥

-- A run of an accepted stack from an entry, of which all is known.
pub record IsRun (stack : List LayerTree) (states : List State) (first : Task Event) : Type 0 where
  pub orderly : IsOrderly stack
  pub accepts : acceptance stack ≡ Ok stack
  pub enters : Enters stack first.at first.dir first.event.kind
  pub known : StaysKnown stack (starting (unstarted_work states) first)

-- What holds of such a run: it is within the limits; no task is left; any number of turns from its entry's weight on
-- gives the same run; its turns, and so its visits and outputs, are at most this weight; its joins are at most its
-- entry's.
pub record Ends (stack : List LayerTree) (states : List State) (first : Task Event) : Type 0 where
  pub weight : task_weight stack first ≤ weight_limit
  pub joins : task_joins stack first ≤ joins_limit
  pub done : (run weight_limit stack states first).tasks ≡ []
  pub enough : (n : ℕ) → task_weight stack first ≤ n → run n stack states first ≡ run weight_limit stack states first
  pub turns : turns_of (run weight_limit stack states first).world ≤ task_weight stack first
  pub made : (n : ℕ) → run_joins stack n (starting (unstarted_work states) first) ≤ task_joins stack first

abbrev pub RunsEnd : Type 0
RunsEnd = (stack : List LayerTree) (states : List State) (first : Task Event) → IsRun stack states first →
    Ends stack states first
