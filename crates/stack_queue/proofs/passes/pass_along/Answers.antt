use Rattle.std.proofs.Common.{◌-◌, refl, sym, ap, ◌∙◌, subst, true}
use Rattle.pool_message.specs.Sent.{CanPass}
use Rattle.stack_queue.proofs.Passing.{room, passes_one}
use Rattle.stack_queue.proofs.passes.pass_along.Goals as goal

pub pass-requires : goal.pass-requires
pass-requires g c = record {
  room = subst (λ dir. CanPass dir c.loop-direction.sent.1.message) c.loop-direction.invariant.1
      (room g.S.Stage.place g.S.Stage.layer g.S.Stage.refs g.S.Stage.ready g.S.Stage.state g.S.Stage.taken
      g.met.S.Stage.frame g.met.S.Stage.few
      c.requires.0 c.loop-direction.stages c.loop-direction.here c.loop-direction.sent c.loop-direction.visits
      (c.loop-direction.invariant.0.goes c.requires.0 c.requires.1)
      (sym c.is_place.ensures ∙ c.loop-direction-test.true)
      (c.from.result - 1) (ap (λ n. n - 1) c.from.ensures) c.index-stages-from.result);
}

pub loop-direction-preserved : goal.loop-direction-preserved
loop-direction-preserved g c = (
  passes_one g.S.Stage.place g.S.Stage.layer g.S.Stage.refs g.S.Stage.ready g.S.Stage.state g.S.Stage.taken
      g.met.S.Stage.frame g.met.S.Stage.few
      _ _ _ c.loop-direction.stages c.loop-direction.here c.loop-direction.sent c.loop-direction.visits
      c.loop-direction.invariant.0
      (sym c.is_place.ensures ∙ c.loop-direction-test.true) (c.from.result - 1) (ap (λ n. n - 1) c.from.ensures)
      c.index-stages-from.result
      c.pass.new.self c.args.sent.now.0 c.loop-direction.invariant.1 true c.pass.new.event c.if-not-pass.ensures.passes
      c.if-not-pass.ensures.event
      refl c.pass.ensures.refs c.pass.ensures.ready c.pass.ensures.state c.pass.ensures.place c.pass.ensures.layer
      c.if-not-pass.ensures.taken c.beyond-here.result c.beyond-here.ensures,
  c.loop-direction.invariant.1,
)
