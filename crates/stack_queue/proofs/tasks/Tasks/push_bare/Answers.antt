use Rattle.std.proofs.Common.{◌-◌, ◌∷◌, ◌++◌, [], length, None, ap, ◌∙◌, arith}
use Rattle.circular_buffer.specs.Buffer.{buffer}
use Rattle.pool_message.specs.Sent.{pool_event}
use Rattle.stack_queue.specs.Pending.{tasks_at}
use Rattle.stack_queue.specs.Put.{task_with}
use Rattle.stack_queue.proofs.Lists.{as_many, pushed}
use Rattle.stack_queue.proofs.tasks.Tasks.push_bare.Goals as goal

pub push_bare-requires : goal.push_bare-requires
push_bare-requires c = omega (
  arith,
  c.requires,
  ap (λ b. length b.items) c.self.view_is,
  ap (λ b. b.capacity) c.self.view_is,
  as_many c.self.inside.places.items c.self.inside.events.items c.self.invariant.0,
  c.self.invariant.1,
  c.self.invariant.2,
)

pub put_place-requires : goal.put_place-requires
put_place-requires c = omega (
  arith,
  c.requires,
  ap (λ b. length b.items) c.self.view_is,
  ap (λ b. b.capacity) c.self.view_is,
  as_many c.self.inside.places.items c.self.inside.events.items c.self.invariant.0,
  c.self.invariant.0,
  c.self.invariant.2,
)

pub returns : goal.returns
returns c =
    (λ k. buffer (tasks_at (c.put_place.ensures k).items (c.push_bare.ensures k).items)
    ((c.put_place.ensures k).capacity - 1))
    ∙ ap (λ ts. buffer ts (c.self.inside.places.capacity - 1))
    (pushed c.self.inside.places.items c.self.inside.events.items c.args.task.at c.args.task.direction
    (pool_event c.args.task.envelope None)
    c.self.invariant.0)
    ∙ ap (λ b. buffer (b.items ++ task_with c.args.task None ∷ []) b.capacity) c.self.view_is
