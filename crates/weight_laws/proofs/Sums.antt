-- The two sums at a visit.
use Rattle.std.proofs.Common.{◌≡◌, ◌-◌, ◌≤◌, length, List, true, subst, arith}
use Rattle.std.specs.Option.{option_map_or}
use Rattle.layer_mean.specs.declared.run.Event.{Event}
use Rattle.layer_mean.specs.Visit.{met, handler_for}
use Rattle.layer_mean.specs.Queue.{Task, is_place, layer_at}
use Rattle.layer_mean.specs.State.{State}
use Rattle.layer_mean.specs.Tree.{LayerTree}
use Rattle.stack_mean.specs.Emissions.{handler_joins}
use Rattle.stack_mean.specs.Acceptance.{weight, own_joins, most_joins}
use Rattle.weight_laws.specs.Nodes.{task_node}
use Rattle.weight_laws.specs.Made.{visit_joins}
use Rattle.weight_laws.specs.Visits.{WeighsWhatItSends, CountsWhatItJoins}
use Rattle.weight_laws.proofs.Costs.{follows}
use Rattle.weight_laws.proofs.Made.{handler_makes}
use Rattle.weight_laws.proofs.Visits.{popped_is, sends_follow_arrows}

pub weighs_what_it_sends : WeighsWhatItSends
weighs_what_it_sends stack s t off visit =
    omega (
      arith,
      follows stack visit.orderly off (λ node. 1) (task_node t) visit.known,
      sends_follow_arrows stack s t (weight stack) visit,
    )

pub joins_own : (stack : List LayerTree) (s : State) (t : Task Event) → is_place (length stack) t.at ≡ true →
    visit_joins (t.at - 1) (layer_at stack t.at) s t.dir t.event ≤ own_joins stack (task_node t)
joins_own stack s t place =
    rw place
    (subst (λ tag. visit_joins (t.at - 1) (layer_at stack t.at) s t.dir t.event ≤ option_map_or handler_joins
    (handler_for (layer_at stack t.at) t.dir t.event.kind tag) 0)
    (popped_is t.at t.dir t.event)
    (handler_makes (t.at - 1) (handler_for (layer_at stack t.at) t.dir t.event.kind (met t.dir t.event.message).tag) s
    t.event (met t.dir t.event.message)))

pub counts_what_it_joins : CountsWhatItJoins
counts_what_it_joins stack s t off visit =
    omega (
      arith,
      follows stack visit.orderly off (own_joins stack) (task_node t) visit.known,
      sends_follow_arrows stack s t (most_joins stack) visit,
      joins_own stack s t visit.place,
    )
