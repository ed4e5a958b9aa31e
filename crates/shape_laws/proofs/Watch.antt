-- Watching changes nothing of what is drawn.
use Rattle.std.proofs.Common.{◌≡◌, zero, suc, Bool, true, false, List, [], ◌∷◌, refl, sym, ap, ◌∙◌}
use Rattle.std.specs.Prelude.{if◌then◌else◌, length, Result}
use Rattle.layer_mean.specs.declared.run.Case.TheVariants.{First}
use Rattle.layer_mean.specs.Tree.{LayerTree}
use Rattle.layer_mean.specs.Queue.{Task, Line, taken_turn, is_place, next_of, run_for}
use Rattle.stack_mean.specs.Drawn.{DrawnEvent}
use Rattle.stack_mean.specs.NoShape.{NoShape}
use Rattle.stack_mean.specs.Shape.{Progress, Watched, shaper, watcher}
use Rattle.shape_laws.specs.Watch.{WatchesTheFirstCase}
use Rattle.shape_laws.proofs.Runs.{first_turn}

-- a line that isn't watched any more
abbrev unwatched : Line Watched DrawnEvent → Line (Result Progress NoShape) DrawnEvent
unwatched r = record { world = r.world.drawn; tasks = r.tasks }

next_unwatched : (stack : List LayerTree) (w : Watched) (tasks : List (Task DrawnEvent)) →
    next_of (length stack) (shaper First stack) tasks w.drawn ≡
    unwatched (next_of (length stack) (watcher stack) tasks w)
next_unwatched stack w [] = refl
next_unwatched stack w (t ∷ rest) = go (is_place (length stack) t.at) where
  go : (b : Bool) →
      (if b then taken_turn t.at rest ((shaper First stack).visit t.at t.dir t.event w.drawn)
      else record { world = (shaper First stack).output t.dir t.event w.drawn; tasks = rest }) ≡
      unwatched (if b then taken_turn t.at rest ((watcher stack).visit t.at t.dir t.event w)
      else record { world = (watcher stack).output t.dir t.event w; tasks = rest })
  go true = refl
  go false = refl

pub watches_the_first_case : WatchesTheFirstCase
watches_the_first_case stack zero w tasks = refl
watches_the_first_case stack (suc k) w tasks =
    let next : Line Watched DrawnEvent = next_of (length stack) (watcher stack) tasks w in
    first_turn (length stack) (shaper First stack) k tasks w.drawn
    ∙ ap (run_for (length stack) (shaper First stack) k) (next_unwatched stack w tasks)
    ∙ watches_the_first_case stack k next.world next.tasks
    ∙ ap unwatched (sym (first_turn (length stack) (watcher stack) k tasks w))
