-- A group rests again after an event that was fed.
use Rattle.std.proofs.Common.{ℕ, List}
use Rattle.std.specs.Prelude.{OnOk, Result, Ok, Err}
use Rattle.outside.specs.declared.sink.SinkError.{SinkError}
use Rattle.layer_mean.specs.Tree.{LayerTree}
use Rattle.script_mean.specs.declared.event.ScriptEvent.{ScriptEvent}
use Rattle.stack_mean.specs.Plan.{Plan}
use Rattle.run_mean.specs.Mode.{Mode}
use Rattle.run_mean.specs.World.{World, happens}
use Rattle.group_feed.specs.Standing.{Peopled}
use Rattle.node_loop.specs.Around.{Around}
use Rattle.node_loop.specs.Feeding.{Feeds, Rests, RestsAgain}
use Rattle.node_loop.specs.declared.desk.NodeDesk.{NodeDesk}

pub rests_on : (stack : List LayerTree) (plans : List Plan) (event : ScriptEvent) (c c' : Peopled) (d d' : NodeDesk)
    (a a' : Around)
    (r : Result (Unit {0}) SinkError) →
    ((mode : Mode) (n : ℕ) (w : World) → Rests mode stack plans n c d w →
    Feeds mode stack plans n w event c' d d' a a' r) →
    OnOk r (RestsAgain stack plans c d c' d')
rests_on stack plans event c c' d d' a a' (Ok done) fed = λ mode n w r.
    ((happens stack plans w event).world, (fed mode n w r).rests)
rests_on stack plans event c c' d d' a a' (Err e) fed = tt
