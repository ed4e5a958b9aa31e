use Rattle.std.proofs.Common.{◌≡◌, length, sym, ap, arith}
use Rattle.std_alloc.specs.Vec.{with_items}
use Rattle.std_alloc.proofs.VecSteps.Gaps.{with_items_is}
use Rattle.circular_buffer.specs.Buffer.{Buffer}
use Rattle.stack_judge.specs.Answer.{stack_tree}
use Rattle.layer_words.specs.declared.events.Dir.{Dir}
use Rattle.pool_message.specs.declared.event.PoolEvent.{PoolEvent}
use Rattle.stack_queue.specs.Pending.{first_task}
use Rattle.stack_queue.specs.declared.tasks.PoolTask.{PoolTask}
use Rattle.group_member.proofs.Running.{has_run}
use Rattle.group_member.proofs.runs.run_layers.Goals as goal

pub run-requires-clause-slots : goal.run-requires-clause-slots
run-requires-clause-slots c =
    let fits = c.law_entries_fit.ensures (stack_tree c.args.stack.now) _ c.requires.can.chained c.requires.can.enters in
    let light = c.law_accepted_is_light.ensures (stack_tree c.args.stack.now) c.law_accepted.ensures in
    omega (arith, fits.joins, light.1, c.requires.can.joins)

pub run-requires-clause-tasks : goal.run-requires-clause-tasks
run-requires-clause-tasks c =
    let can = c.requires.can in
    let fits = c.law_entries_fit.ensures (stack_tree c.args.stack.now) _ can.chained can.enters in (
      ap (λ (b : Buffer PoolTask). b.items) c.requires.can.tasks,
      omega (arith, fits.weight, ap (λ (b : Buffer PoolTask). b.capacity) c.requires.can.tasks),
    )

pub run-requires-clause-out : goal.run-requires-clause-out
run-requires-clause-out c =
    let fits = c.law_entries_fit.ensures (stack_tree c.args.stack.now) _ c.requires.can.chained c.requires.can.enters in
    let none : length c.args.works.now.outs.items ≡ 0 = ap (λ (b : Buffer (Dir × PoolEvent)). length b.items)
    c.requires.can.outs in
    let room = ap (λ (b : Buffer (Dir × PoolEvent)). b.capacity) c.requires.can.outs in
    omega (arith, fits.weight, none, room)

pub returns : goal.returns
returns c = has_run (stack_tree c.args.stack.now) c.args.works.now (first_task c.args.works.now.tasks.items)
    c.as_mut_slice-layers.result.now c.args.visits.now
    record {
      layers = with_items c.args.works.now.layers c.run.new.stages;
      pool = c.run.new.pool;
      tasks = c.run.new.tasks;
      outs = c.run.new.out;
    }
    c.run.new.stages c.run.new.visits c.run.result
    c.as_mut_slice-layers.ensures.value (sym (with_items_is c.args.works.now.layers c.run.new.stages (omega (
      arith,
      c.run.auto.stages,
      c.as_mut_slice-layers.ensures.len,
    )))) (ap (λ (b : Buffer (Dir × PoolEvent)). b.items) c.requires.can.outs) c.requires.can.exact
    record {
      states = c.run.ensures.states;
      outs = c.run.ensures.outs;
      predicted = c.run.ensures.predicted;
      visits = c.run.ensures.visits;
      taken = c.run.ensures.taken;
      moved = c.run.ensures.moved;
      stand = c.run.ensures.stand;
      lie = c.run.ensures.lie;
      tasks = c.run.ensures.tasks;
      room = c.run.ensures.capacity;
    }
