-- The queue of tasks that moves a run on: first in, first out (after Ensemble's event queues; that a run has one list
-- is this project's own). It is defined once, for any kind of event and world, and played by whatever knows a visit and
-- an output.
use Rattle.std.specs.Prelude.{ℕ, suc, zero, ◌+◌, ◌-◌, List, [], ◌∷◌, ◌++◌, map, length, Bool, true, false, nat_le, ◌&&◌}
use Rattle.std.specs.Prelude.{if◌then◌else◌, slice_index_or, slice_set}
use Rattle.layer_words.specs.declared.events.Dir.{Dir}
use Rattle.layer_words.specs.declared.events.Dir.TheVariants.{Up, Down}
use Rattle.layer_mean.specs.declared.run.Case.{Case}
use Rattle.layer_mean.specs.declared.run.Event.{Event}
use Rattle.layer_mean.specs.Tree.{LayerTree, no_layer}
use Rattle.layer_mean.specs.State.{State}
use Rattle.layer_mean.specs.Effect.{Decision, all_as}
use Rattle.layer_mean.specs.Visit.{Visited, step, no_state}

-- An event on its way. The lower edge of a stack is 0, its places are 1 and up, lowest first, and the upper edge is one
-- more than their number.
pub record Task (E : Type 0) : Type 0 where
  pub at : ℕ
  pub dir : Dir
  pub event : E

-- What a visit leaves: the world after it, and what it sent.
pub record Turn (W E : Type 0) : Type 0 where
  pub world : W
  pub sent : List (Dir × E)

-- What plays the queue: a visit at a place, and an output at an edge.
pub record Player (W E : Type 0) : Type 0 where
  pub visit : ℕ → Dir → E → W → Turn W E
  pub output : Dir → E → W → W

-- A world and the tasks that are pending in it.
pub record Line (W E : Type 0) : Type 0 where
  pub world : W
  pub tasks : List (Task E)

-- The neighbour in a direction.
abbrev pub beyond : Dir → ℕ → ℕ
beyond Up at = at + 1
beyond Down at = at - 1

-- The tasks of what a visit sent.
abbrev pub tasks_of : {E : Type 0} → ℕ → List (Dir × E) → List (Task E)
tasks_of at sent = map (λ x. record { at = beyond x.0 at; dir = x.0; event = x.1 }) sent

-- Places of a stack are numbered from 1.
abbrev pub is_place : ℕ → ℕ → Bool
is_place places at = nat_le 1 at && nat_le at places

-- The world after a turn, and its tasks: those that waited, and then those of what the turn sent.
abbrev pub taken_turn : {W E : Type 0} → ℕ → List (Task E) → Turn W E → Line W E
taken_turn at rest turn = record { world = turn.world; tasks = rest ++ tasks_of at turn.sent }

-- One task taken: an output at an edge; otherwise its layer is visited, and what that sends goes to the end of the
-- list.
abbrev pub advance : {W E : Type 0} → ℕ → Player W E → Task E → List (Task E) → W → Line W E
advance places play t rest w = if is_place places t.at
    then taken_turn t.at rest (play.visit t.at t.dir t.event w)
    else record { world = play.output t.dir t.event w; tasks = rest }

-- One turn with these tasks pending: the first of them is taken, if there is one.
abbrev pub next_of : {W E : Type 0} → ℕ → Player W E → List (Task E) → W → Line W E
next_of places play [] w = record { world = w; tasks = [] }
next_of places play (t ∷ rest) w = advance places play t rest w

-- One turn of the queue; without a task nothing changes.
abbrev pub next : {W E : Type 0} → ℕ → Player W E → Line W E → Line W E
next places play r = next_of places play r.tasks r.world

-- Whether there is no task.
abbrev pub is_done : {E : Type 0} → List (Task E) → Bool
is_done [] = true
is_done (t ∷ rest) = false

-- At most n turns of the queue.
abbrev pub run_for : {W E : Type 0} → ℕ → Player W E → ℕ → Line W E → Line W E
run_for places play zero r = r
run_for places play (suc n) r = if is_done r.tasks then r else run_for places play n (next places play r)

-- The layers of one member at work: their states, what came out at the edges, in order, the decisions of all visits,
-- and how many visits there were.
pub record Work : Type 0 where
  pub states : List State
  pub outs : List (Dir × Event)
  pub decided : List Decision
  pub visits : ℕ

-- The layer at a place of the queue; place 1 is that of the lowest layer.
abbrev pub layer_at : List LayerTree → ℕ → LayerTree
layer_at stack at = slice_index_or stack (at - 1) no_layer

-- The state of the layer at a place of the queue; place 1 is that of the lowest layer.
abbrev pub state_at : Work → ℕ → State
state_at w at = slice_index_or w.states (at - 1) no_state

-- What a visit leaves of the work of the layers: the new state at its place, its decisions after the earlier ones, one
-- more visit, and what it sent.
abbrev pub visit_turn : ℕ → Work → Visited → Turn Work Event
visit_turn at w v = record {
  world = record {
    states = slice_set w.states (at - 1) v.state;
    outs = w.outs;
    decided = w.decided ++ v.decided;
    visits = w.visits + 1;
  };
  sent = v.sent;
}

-- The player of a stack of layers, lowest first.
abbrev pub layers : List LayerTree → Player Work Event
layers stack = record {
  visit = λ at dir event w. visit_turn at w (step (at - 1) (layer_at stack at) (state_at w at) dir event);
  output = λ dir event w. record w { outs = w.outs ++ (dir, event) ∷ [] };
}

-- The work before a run of layers in these states: nothing came out, nothing was decided, no visit was made.
abbrev pub unstarted_work : List State → Work
unstarted_work states = record { states = states; outs = []; decided = []; visits = 0 }

-- A world with one pending task.
abbrev pub starting : {W E : Type 0} → W → Task E → Line W E
starting w first = record { world = w; tasks = first ∷ [] }

-- A run: from one task until none is left, in at most n turns. (The weight of its entry is enough, by
-- acceptance.)
unfoldable pub run : ℕ → List LayerTree → List State → Task Event → Line Work Event
run most stack states first = run_for (length stack) (layers stack) most (starting (unstarted_work states) first)

-- Whether every decision of a run went as predicted in a case.
abbrev pub is_predicted : Case → Work → Bool
is_predicted case w = all_as case w.decided
