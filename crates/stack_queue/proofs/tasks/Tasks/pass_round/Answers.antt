use Rattle.std.proofs.Common.{sym, ap, subst, ◌∙◌}
use Rattle.pool_message.specs.Sent.{CanPass}
use Rattle.stack_queue.proofs.Lists.{first_event}
use Rattle.stack_queue.proofs.Round.{goes_round}
use Rattle.stack_queue.proofs.tasks.Tasks.pass_round.Goals as goal

pub pass_one-requires : goal.pass_one-requires
pass_one-requires g c = subst (λ x. CanPass x.0 x.1.message)
    (first_event c.self.inside.places.items c.self.inside.events.items c.args.self.now.items c.self.invariant.0
    (ap (λ b. b.items) c.self.view_is)
    ∙ sym c.first_mut.ensures.value)
    c.requires.room

pub returns : goal.returns
returns g c = goes_round g.S.Stage.place g.S.Stage.layer g.S.Stage.refs g.S.Stage.ready g.S.Stage.state g.S.Stage.taken
    c.args.stage.now c.pass_one.new.stage
    c.self.inside.places c.self.inside.events.items c.args.self.now c.self.invariant.0 c.self.view_is
    c.first_mut.result.now c.pass_one.new.sent
    c.first_mut.ensures.value c.if-not-pass_one.ensures c.args.at c.beyond.result c.first_way-direction.result
    c.requires.at
    c.first_way-direction.ensures c.beyond.ensures c.go_round-2.new.self c.go_round.new.self c.go_round-2.ensures
    (ap (λ b. b.items) c.go_round.ensures)
