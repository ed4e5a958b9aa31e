use Rattle.std.proofs.Common.{length, ap, arith}
use Rattle.stack_queue.proofs.Lists.{as_many}
use Rattle.stack_queue.proofs.Put.{task_put}
use Rattle.stack_queue.proofs.tasks.Tasks.push_put.Goals as goal

pub push_put-requires-clause-room : goal.push_put-requires-clause-room
push_put-requires-clause-room c = omega (
  arith,
  c.requires.room,
  ap (λ b. length b.items) c.self.view_is,
  ap (λ b. b.capacity) c.self.view_is,
  as_many c.self.inside.places.items c.self.inside.events.items c.self.invariant.0,
  c.self.invariant.1,
  c.self.invariant.2,
)

pub put_place-requires : goal.put_place-requires
put_place-requires c = omega (
  arith,
  c.requires.room,
  ap (λ b. length b.items) c.self.view_is,
  ap (λ b. b.capacity) c.self.view_is,
  as_many c.self.inside.places.items c.self.inside.events.items c.self.invariant.0,
  c.self.invariant.0,
  c.self.invariant.2,
)

pub returns : goal.returns
returns c = task_put _ _ _ _ _ _ c.self.inside.places _ _ c.self.invariant.0 c.self.view_is c.if-not-push_put.ensures
    c.put_place.ensures
