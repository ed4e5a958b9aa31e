-- A shape has no more outputs than its run may have turns.
use Rattle.std.proofs.Common.{◌≡◌, ℕ, zero, suc, ◌+◌, ◌≤◌, Bool, true, false, List, [], ◌∷◌, length, refl, subst, sym}
use Rattle.std.proofs.Common.{arith, length-append}
use Rattle.std.specs.Prelude.{if◌then◌else◌, Result, Ok, Err}
use Rattle.std.proofs.lemmas.List.{length-map}
use Rattle.layer_mean.specs.Marked.{Log, Marked, marking_player, marked_start}
use Rattle.layer_mean.specs.Queue.{Line, Player, Task, is_done, is_place, next, next_of, run_for, taken_turn}
use Rattle.layer_mean.specs.Tree.{LayerTree}
use Rattle.layer_mean.specs.declared.run.Case.{Case}
use Rattle.layer_mean.specs.declared.run.Case.TheVariants.{First, Second}
use Rattle.stack_mean.specs.Acceptance.{weight_limit}
use Rattle.stack_mean.specs.NoShape as no_shape
use Rattle.stack_mean.specs.NoShape.{NoShape}
use Rattle.stack_mean.specs.Drawn.{DrawnEvent}
use Rattle.stack_mean.specs.Plans.{outs_of}
use Rattle.stack_mean.specs.Shape.{Known, Progress, Shape, drawn_shape, entry_task, has_second_case, shape, shape_of}
use Rattle.stack_mean.specs.Shape.{shape_out, shaper, undrawn}
use Rattle.shape_core.specs.Answer.{held_answer}
use Rattle.shape_core.specs.Cases.{CaseShapes, shapes_of}
use Rattle.stack_shapes.specs.Starts.{HaveFewOuts}
use Rattle.stack_shapes.proofs.Held.{held_outs}

module _ {W E : Type 0} (places : ℕ) (play : Player W E) where
  -- a turn logs an output at most
  turn_few : (tasks : List (Task (Marked E))) (w : Log W E) →
      length (next_of places (marking_player play) tasks w).world.outs ≤ length w.outs + 1
  turn_few [] w = omega arith
  turn_few (t ∷ rest) w = go (is_place places t.at) where
    go : (b : Bool) → length (if b then taken_turn t.at rest ((marking_player play).visit t.at t.dir t.event w)
        else record { world = (marking_player play).output t.dir t.event w; tasks = rest }).world.outs ≤ length w.outs +
        1
    go true = omega arith
    go false = let more = length-append w.outs (record { at = 0; dir = t.dir; marked = t.event } ∷ []) in
        omega (arith, more)

  -- a run logs no more than it has turns
  one_of : (b : Bool) (most : ℕ) (r rest : Line (Log W E) (Marked E)) → length r.world.outs ≤ most →
      length rest.world.outs ≤ most →
      length (if b then r else rest).world.outs ≤ most
  one_of true most r rest own others = own
  one_of false most r rest own others = others

  run_few : (n : ℕ) (r : Line (Log W E) (Marked E)) →
      length (run_for places (marking_player play) n r).world.outs ≤ length r.world.outs + n
  run_few zero r = omega arith
  run_few (suc n) r =
      let once = turn_few r.tasks r.world in
      let rest = run_few n (next places (marking_player play) r) in
      one_of (is_done r.tasks) (length r.world.outs + suc n) r
      (run_for places (marking_player play) n (next places (marking_player play) r)) (omega arith)
      (omega (arith, once, rest))

-- what was logged, as a shape
shape_few : (log : Log (Result Progress NoShape) DrawnEvent) (world : Result Progress NoShape) (n : ℕ) →
    log.world ≡ world → length log.outs ≤ n →
    length (outs_of (shape_of log)) ≤ n
shape_few log (Ok p) n is few =
    subst (λ w. length (outs_of (shape_of (record log { world = w }))) ≤ n) (sym is)
    (let same = length-map log.outs shape_out in omega (arith, same, few))
shape_few log (Err reason) n is few =
    subst (λ w. length (outs_of (shape_of (record log { world = w }))) ≤ n) (sym is) (omega arith)

few_drawn : (stack : List LayerTree) (k : Known) (case : Case) (n : ℕ) →
    length (outs_of (shape_of
    (run_for (length stack) (marking_player (shaper case stack)) n (marked_start undrawn (entry_task stack k))).world))
    ≤ n
few_drawn stack k case n =
    let log = (run_for (length stack) (marking_player (shaper case stack)) n
    (marked_start undrawn (entry_task stack k))).world
    in
    let few = run_few (length stack) (shaper case stack) n (marked_start undrawn (entry_task stack k)) in
    shape_few log log.world n refl (omega (arith, few))

in_case : (stack : List LayerTree) (k : Known) (case : Case) →
    length (outs_of (drawn_shape stack k case)) ≤ weight_limit
unfolding drawn_shape
in_case stack k case = few_drawn stack k case weight_limit

shape_is_few : (stack : List LayerTree) (k : Known) (case : Case) → length (outs_of (shape stack k case)) ≤ weight_limit
shape_is_few stack k First = in_case stack k First
shape_is_few stack k Second = go (has_second_case stack k) where
  go : (b : Bool) → length (outs_of (if b then drawn_shape stack k Second else Err no_shape.same)) ≤ weight_limit
  go true = in_case stack k Second
  go false = omega arith

held_few : (drawn : Result Shape NoShape) → length (outs_of drawn) ≤ weight_limit →
    length (outs_of (held_answer drawn)) ≤ weight_limit
held_few drawn few = subst (λ outs. length outs ≤ weight_limit) (sym (held_outs drawn)) few

pub drawn_few : (stack : List LayerTree) (k : Known) (shapes : CaseShapes) → shapes ≡ shapes_of stack k →
    HaveFewOuts shapes
drawn_few stack k shapes is =
    subst HaveFewOuts (sym is) (
      held_few (shape stack k First) (shape_is_few stack k First),
      held_few (shape stack k Second) (shape_is_few stack k Second),
    )
