-- What holds at each step of a predicted way, as far as all goes as predicted.
use Rattle.std.specs.Prelude.{ℕ, List, [], ◌∷◌, Option, Some, None}
use Rattle.layer_words.specs.declared.events.Dir.{Dir}
use Rattle.layer_mean.specs.declared.run.Case.{Case}
use Rattle.layer_mean.specs.declared.run.Event.{Event}
use Rattle.layer_mean.specs.Tree.{HandlerTree, LayerTree}
use Rattle.layer_mean.specs.State.{State}
use Rattle.layer_mean.specs.Value.{Scope}
use Rattle.layer_mean.specs.Visit.{Met, met, handler_for, entered_scope}
use Rattle.layer_mean.specs.Way.{Step, handler_way}
use Rattle.shape_laws.specs.Walk.{Here, walk_step}
use Rattle.shape_laws.specs.Bare.{BareBeyond}

abbrev pub Along : (Step → Here → Type 0) → ℕ → List Step → Here → Type 0
Along At place [] h = Unit {0}
Along At place (x ∷ xs) h = At x h × BareBeyond (Along At place xs) (walk_step place x h)

abbrev pub AlongWay : (Step → Here → Type 0) → ℕ → Option (List Step) → State → Scope → Type 0
AlongWay At place None s l = Unit {0}
AlongWay At place (Some steps) s l = Along At place steps (record { state = s; scope = l; sent = [] })

abbrev pub AlongHandled : (Step → Here → Type 0) → Case → ℕ → Option HandlerTree → State → Event → Met → Type 0
AlongHandled At case place None s event m = Unit {0}
AlongHandled At case place (Some h) s event m = AlongWay At place (handler_way case h) s (entered_scope h event m)

abbrev pub AlongVisit : (Step → Here → Type 0) → Case → ℕ → LayerTree → State → Dir → Event → Type 0
AlongVisit At case place layer s dir event =
    let m = met dir event.message in AlongHandled At case place (handler_for layer dir event.kind m.tag) s event m
