use Rattle.std.proofs.Common.{[], ◌∷◌, length, drop, sym, ap, subst, ◌∙◌, arith}
use Rattle.stack_queue.specs.Pending.{tasks_at}
use Rattle.stack_queue.specs.Passing.{GoesWith, Continues, standing_at}
use Rattle.stack_queue.proofs.Lists.{as_many}
use Rattle.stack_queue.proofs.Passing.{only_task}
use Rattle.stack_queue.proofs.tasks.Tasks.pass.Goals as goal

pub returns-then-len-ne1-clause-stays : goal.returns-then-len-ne1-clause-stays
returns-then-len-ne1-clause-stays g c = λ one p placed. absurd (omega (
  arith,
  one,
  ap (λ b. length b.items) c.self.view_is,
  as_many c.self.inside.places.items c.self.inside.events.items c.self.invariant.0,
  c.len.ensures.count,
  c.if-len-ne1.true,
))

pub pass_along-to-requires : goal.pass_along-to-requires
pass_along-to-requires g c = (
  c.requires.goes.0,
  subst
      (λ ts. GoesWith g.S.Stage.place g.S.Stage.layer g.S.Stage.refs g.S.Stage.ready g.S.Stage.state g.S.Stage.taken
      c.requires.goes.0 c.args.stages.now ts c.args.visits.now)
      (only_task c.self.inside.places.items c.self.inside.events.items c.args.self.now.items c.args.at
      c.self.invariant.0 (ap (λ b. b.items) c.self.view_is)
      (sym c.len.ensures.count ∙ c.if-len-ne1.false) c.requires.first.1
      ∙ (λ j. standing_at c.args.at (sym c.first_mut.ensures.value j) ∷ []))
      c.requires.goes.1,
)

pub returns-clause-goes : goal.returns-clause-goes
returns-clause-goes g c =
    subst
    (λ ts. Continues g.S.Stage.place g.S.Stage.layer g.S.Stage.refs g.S.Stage.ready g.S.Stage.state g.S.Stage.taken
    c.args.stages.now ts c.args.visits.now
    c.pass_along-to.new.stages
    (tasks_at c.stand_alone.new.places.items (c.pass_along-to.new.sent ∷ drop 1 c.self.inside.events.items))
    c.pass_along-to.new.visits)
    (sym (only_task c.self.inside.places.items c.self.inside.events.items c.args.self.now.items c.args.at
    c.self.invariant.0 (ap (λ b. b.items) c.self.view_is)
    (sym c.len.ensures.count ∙ c.if-len-ne1.false) c.requires.first.1
    ∙ (λ j. standing_at c.args.at (sym c.first_mut.ensures.value j) ∷ [])))
    (subst
    (λ ps. Continues g.S.Stage.place g.S.Stage.layer g.S.Stage.refs g.S.Stage.ready g.S.Stage.state g.S.Stage.taken
    c.args.stages.now
    (standing_at c.args.at c.first_mut.result.now ∷ []) c.args.visits.now
    c.pass_along-to.new.stages (tasks_at ps (c.pass_along-to.new.sent ∷ drop 1 c.self.inside.events.items))
    c.pass_along-to.new.visits)
    (sym (ap (λ b. b.items) c.stand_alone.ensures)) c.pass_along-to.ensures.goes)
