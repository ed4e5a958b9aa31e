use Rattle.std.proofs.Common.{◌≡◌, ◌++◌, map, flat_map}
use Rattle.weight_laws.specs.Runs.{pending_weight}
use Rattle.stack_judge.specs.Answer.{stack_tree}
use Rattle.pool_message.specs.Seen.{event_refs}
use Rattle.stack_queue.specs.Pending.{first_task, task_seen, tasks_seen}
use Rattle.stack_queue.specs.Stages.{Stand}
use Rattle.stack_queue.specs.Going.{Begun, BeginsWell, Going}
use Rattle.stack_queue.proofs.turns.run.Given as goal

abbrev pub invariant-loop-at : goal.invariant-loop-at
invariant-loop-at g l =
    let stack = stack_tree l.stack in
    let b : Begun = record {
      stack = stack;
      pool = l.fn.pool;
      states = map (g.S.Stage.state l.fn.pool) l.fn.stages;
      first = task_seen l.fn.pool (first_task l.fn.tasks.items);
      refs = flat_map g.S.Stage.refs l.fn.stages ++ event_refs (first_task l.fn.tasks.items).event;
      out = l.fn.out.items;
      visits = l.fn.visits;
      taken = map g.S.Stage.taken l.fn.stages;
    } in
    BeginsWell b
    × Going b l.pool (record {
      states = map (g.S.Stage.state l.pool) l.stages;
      refs = flat_map g.S.Stage.refs l.stages;
      tasks = l.tasks.items;
      out = l.out.items;
      predicted = l.predicted;
      visits = l.visits;
      taken = map g.S.Stage.taken l.stages;
    })
    × Stand g.S.Stage.place g.S.Stage.layer g.S.Stage.ready stack l.pool l.stages
    × (l.tasks.capacity ≡ l.fn.tasks.capacity)
    × (l.out.capacity ≡ l.fn.out.capacity)

abbrev pub decreases-loop-at : goal.decreases-loop-at
decreases-loop-at g l = pending_weight (stack_tree l.stack) (tasks_seen l.pool l.tasks.items)
