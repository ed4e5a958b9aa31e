-- That drawing draws the first case also where it watches for conditions with two predicted ways.
use Rattle.std.specs.Prelude.{◌≡◌, ℕ, List, length}
use Rattle.layer_mean.specs.declared.run.Case.TheVariants.{First}
use Rattle.layer_mean.specs.Tree.{LayerTree}
use Rattle.layer_mean.specs.Queue.{Task, run_for}
use Rattle.stack_mean.specs.Drawn.{DrawnEvent}
use Rattle.stack_mean.specs.Shape.{Watched, shaper, watcher}

-- After any number of turns, what is drawn and which tasks are pending are the same with and without watching.
abbrev pub WatchesTheFirstCase : Type 0
WatchesTheFirstCase = (stack : List LayerTree) (most : ℕ) (w : Watched) (tasks : List (Task DrawnEvent)) →
    let watched = run_for (length stack) (watcher stack) most (record { world = w; tasks = tasks }) in
    run_for (length stack) (shaper First stack) most (record { world = w.drawn; tasks = tasks }) ≡
    record { world = watched.world.drawn; tasks = watched.tasks }
