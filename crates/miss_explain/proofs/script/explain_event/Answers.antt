use Rattle.std.proofs.Common.{rules, subst}
use Rattle.std.proofs.lemmas.Result.{err_from_is_err_and}
use Rattle.std.specs.Prelude.{Err}
use Rattle.stack_judge.specs.Answer.{stack_tree}
use Rattle.layer_ast.specs.View.{file_tree}
use Rattle.outside.proofs.Turns.{wrote_as}
use Rattle.outside.specs.Lines.{Gains}
use Rattle.outside.specs.Tells.{tells_of}
use Rattle.stack_shapes.specs.Trees.{plans_tree}
use Rattle.miss_explain.proofs.Events.{begins_all, lines_are, may_be_told, stands_after}
use Rattle.miss_explain.proofs.script.explain_event.Goals as goal

pub write_probed-requires-clause-told : goal.write_probed-requires-clause-told
write_probed-requires-clause-told g c =
    let texts = c.args.texts in
    may_be_told (file_tree texts.file.now) (stack_tree texts.stack.now) (plans_tree texts.plans.now)
    (g.P.Feed.group c.args.probe.now)
    (g.P.Feed.group c.probe.new.self) c.requires.ready.stack_is c.requires.ready.plans_are c.requires.world.world
    c.args.numbered.event.now c.in_ok-probed.probed
    (c.in_ok-probed.ensures.probed c.requires.world.world c.requires.world.stands)

pub returns-in_err-write_probed-clause-told : goal.returns-in_err-write_probed-clause-told
returns-in_err-write_probed-clause-told g c = λ w stands.
    let texts = c.args.texts in
    let p = err_from_is_err_and c.from_residual-in_err-write_probed.result
    c.from_residual-in_err-write_probed.ensures.1 in
    rw (p.1, p.2) (wrote_as (tells_of g.O.Sink c.args.out.now) (tells_of g.O.Sink c.write_probed.new.out) _ _
    (Err c.in_err-write_probed.field-0.0)
    (lines_are (file_tree texts.file.now) (stack_tree texts.stack.now) (plans_tree texts.plans.now)
    (g.P.Feed.group c.args.probe.now)
    (g.P.Feed.group c.probe.new.self) c.requires.ready.stack_is c.requires.ready.plans_are w c.args.numbered.event.now
    c.in_ok-probed.probed
    (c.in_ok-probed.ensures.probed w stands) c.args.numbered.number c.member_of.result c.member_of.ensures)
    c.in_err-write_probed.ensures)

pub returns-in_err-probed-clause-told : goal.returns-in_err-probed-clause-told
returns-in_err-probed-clause-told g c = λ w stands.
    let p = err_from_is_err_and c.from_residual.result c.from_residual.ensures.1 in
    rw (p.1, p.2) (search rules)

pub returns-clause-told : goal.returns-clause-told
returns-clause-told g c = λ w stands.
    let texts = c.args.texts in
    let old = g.P.Feed.group c.args.probe.now in
    let probed = c.in_ok-probed.ensures.probed w stands in record {
      world = stands_after (file_tree texts.file.now) (stack_tree texts.stack.now) (plans_tree texts.plans.now) old
          (g.P.Feed.group c.probe.new.self) c.requires.ready.stack_is c.requires.ready.plans_are w
          c.args.numbered.event.now
          c.in_ok-probed.probed probed
          (g.P.Feed.group c.feed_uncommon.new.probe) stands c.in_ok-feed_uncommon.ensures.follows;
      gained = subst (Gains (tells_of g.O.Sink c.args.out.now) (tells_of g.O.Sink c.write_probed.new.out))
          (lines_are (file_tree texts.file.now) (stack_tree texts.stack.now) (plans_tree texts.plans.now) old
          (g.P.Feed.group c.probe.new.self) c.requires.ready.stack_is c.requires.ready.plans_are w
          c.args.numbered.event.now
          c.in_ok-probed.probed
          probed c.args.numbered.number c.member_of.result c.member_of.ensures)
          c.in_ok-write_probed.ensures;
    }

pub returns-in_err-feed_uncommon-clause-told : goal.returns-in_err-feed_uncommon-clause-told
returns-in_err-feed_uncommon-clause-told g c = λ w stands.
    let texts = c.args.texts in
    let p = err_from_is_err_and c.from_residual-in_err-feed_uncommon.result
    c.from_residual-in_err-feed_uncommon.ensures.1 in
    rw (p.1, p.2) (begins_all _ _ _
    (subst (Gains (tells_of g.O.Sink c.args.out.now) (tells_of g.O.Sink c.write_probed.new.out))
    (lines_are (file_tree texts.file.now) (stack_tree texts.stack.now) (plans_tree texts.plans.now)
    (g.P.Feed.group c.args.probe.now)
    (g.P.Feed.group c.probe.new.self) c.requires.ready.stack_is c.requires.ready.plans_are w c.args.numbered.event.now
    c.in_ok-probed.probed
    (c.in_ok-probed.ensures.probed w stands) c.args.numbered.number c.member_of.result c.member_of.ensures)
    c.in_ok-write_probed.ensures))
