-- How many events each layer of a stack took: a run counts one more at each place that it visits.
use Rattle.std.specs.Prelude.{ℕ, zero, suc, ◌-◌, List, [], ◌∷◌, ◌++◌, length, fold, if◌then◌else◌, slice_index_or}
use Rattle.std.specs.Prelude.{slice_set}
use Rattle.layer_mean.specs.declared.run.Event.{Event}
use Rattle.layer_mean.specs.State.{State}
use Rattle.layer_mean.specs.Tree.{LayerTree}
use Rattle.layer_mean.specs.Queue.{Task, Line, Player, is_place, is_done, next, layers, starting, unstarted_work}
use Rattle.stack_mean.specs.Acceptance.{weight_limit}
use Rattle.layer_stage.specs.Taken.{one_more}

-- The place that a turn visits: where the first task stands, if that isn't an edge.
abbrev pub place_visited : {E : Type 0} → ℕ → List (Task E) → List ℕ
place_visited places [] = []
place_visited places (t ∷ rest) = if is_place places t.at then t.at ∷ [] else []

-- The places that at most n turns of the queue visit, in order.
abbrev pub visited_for : {W E : Type 0} → ℕ → Player W E → ℕ → Line W E → List ℕ
visited_for places play zero r = []
visited_for places play (suc n) r = if is_done r.tasks then [] else place_visited places r.tasks ++
    visited_for places play n (next places play r)

-- The layer at a place took one more event.
abbrev pub counted_at : List ℕ → ℕ → List ℕ
counted_at counts at = slice_set counts (at - 1) (one_more (slice_index_or counts (at - 1) 0))

-- What was taken, after visits at these places.
abbrev pub counted_on : List ℕ → List ℕ → List ℕ
counted_on visited counts = fold counted_at counts visited

-- What was taken, after at most n turns from one task.
unfoldable pub taken_within : ℕ → List LayerTree → List State → Task Event → List ℕ → List ℕ
taken_within most stack states first counts =
    counted_on (visited_for (length stack) (layers stack) most (starting (unstarted_work states) first)) counts

-- What was taken, after the run of a stack from one task.
abbrev pub taken_after : List LayerTree → List State → Task Event → List ℕ → List ℕ
taken_after stack states first counts = taken_within weight_limit stack states first counts
