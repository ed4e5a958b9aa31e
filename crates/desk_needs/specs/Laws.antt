-- A typed layer fits a desk that is made for it, and a run has what its visits need.
use Rattle.std.specs.Prelude.{◌≡◌, ℕ, ◌+◌, ◌≤◌, true, None, List}
use Rattle.msg_core.specs.declared.message.Header.{Header}
use Rattle.layer_words.specs.declared.events.Dir.{Dir}
use Rattle.layer_words.specs.declared.events.Kind.{Kind}
use Rattle.layer_mean.specs.Tree.{LayerTree}
use Rattle.std.specs.List.{sum_by}
use Rattle.layer_mean.specs.declared.run.Event.{Event}
use Rattle.layer_mean.specs.Queue.{Task, layer_at}
use Rattle.layer_mean.specs.State.{State}
use Rattle.layer_mean.specs.Visit.{Met, met, handler_for}
use Rattle.stack_mean.specs.Graph.{first_on_cycle}
use Rattle.weight_laws.specs.Visits.{IsVisit, sent_tasks, task_weight, task_joins}
use Rattle.chain_laws.specs.Typed.{TypedLayer}
use Rattle.layer_desk.specs.Need.{Layout, Need, visit_need, are_above}
use Rattle.desk_needs.specs.Layouts.{layout_of}

-- No part of the tree is a misfit, and a visit needs no more of the hand than there is.
pub record FitsLayout (layout : Layout) (n : Need) : Type 0 where
  pub misfits : n.misfits ≡ 0
  pub hand : n.hand ≤ layout.hand

-- A layer that stands typed below these blank headers fits the desk that is made for it, on every event.
abbrev pub TypedLayersFit : Type 0
TypedLayersFit = (blank : List Header) (layer : LayerTree) (places : ℕ) (dir : Dir) (kind : Kind) (m : Met) →
    are_above blank ≡ true →
    TypedLayer blank layer →
    FitsLayout (layout_of layer places) (visit_need (layout_of layer places) (handler_for layer dir kind m.tag) m)

-- What the visit of a task needs.
abbrev pub task_need : Layout → List LayerTree → Task Event → Need
task_need layout stack t = let m = met t.dir t.event.message in
    visit_need layout (handler_for (layer_at stack t.at) t.dir t.event.kind m.tag) m

-- The node of a task has what its visit needs: the slots, together with the join counts of what it sends, are within
-- its join count, and the places are within its weight.
pub record FitsNode (stack : List LayerTree) (s : State) (t : Task Event) (n : Need) : Type 0 where
  pub slots : n.slots + sum_by (task_joins stack) (sent_tasks stack s t) ≤ task_joins stack t
  pub places : n.places ≤ task_weight stack t

-- So it is with each known task of a stack in which no node lies on a cycle.
abbrev pub NodesCoverNeeds : Type 0
NodesCoverNeeds = (stack : List LayerTree) (layout : Layout) (s : State) (t : Task Event) →
    first_on_cycle stack ≡ None →
    IsVisit stack s t → FitsNode stack s t (task_need layout stack t)
