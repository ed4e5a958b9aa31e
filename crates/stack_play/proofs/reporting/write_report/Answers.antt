use Rattle.std.proofs.Common.{ℕ, ◌∷◌, length, ap, sym, subst}
use Rattle.std.proofs.lemmas.Result.{err_from_is_err_and}
use Rattle.stack_judge.specs.Answer.{stack_tree}
use Rattle.stack_shapes.specs.Trees.{plans_tree}
use Rattle.run_mean.specs.Report.{end_line}
use Rattle.outside.specs.Lines.{Wrote}
use Rattle.outside.specs.Tells.{tells_of}
use Rattle.outside.proofs.Turns.{part_of, wrote_as, wrote_both}
use Rattle.stack_play.specs.Turns.{visits_if}
use Rattle.stack_play.proofs.Outputs.{output_is}
use Rattle.stack_play.proofs.reporting.write_report.Goals as goal

pub returns-in_err-write_events : goal.returns-in_err-write_events
returns-in_err-write_events g c =
    let mode = (g.G.Feed.group c.args.group.now).mode in
    let p = err_from_is_err_and c.from_residual.result c.from_residual.ensures.1 in
    rw (p.1, p.2) (part_of _ _ _ _ _ _
    (output_is mode (stack_tree c.args.report.manner.stack.now) (plans_tree c.args.report.manner.plans.now)
    c.args.report.script.now
    c.args.report.manner.events c.args.report.manner.wire c.args.report.count)
    c.in_err-write_events.ensures.lines)

pub returns : goal.returns
returns g c =
    let mode = (g.G.Feed.group c.args.group.now).mode in
    let before = tells_of g.O.Sink c.write_events.new.out in
    let after = tells_of g.O.Sink c.write_last.new.out in
    let events = ap length c.slice.ensures in
    let visits = c.in_ok-write_events.ensures.visits in
    wrote_as _ _ _ _ c.write_last.result
    (sym (output_is mode (stack_tree c.args.report.manner.stack.now) (plans_tree c.args.report.manner.plans.now)
    c.args.report.script.now
    c.args.report.manner.events c.args.report.manner.wire c.args.report.count))
    (wrote_both _ _ _ _ _ c.write_last.result c.in_ok-write_events.ensures.lines
    (subst {A = ℕ × ℕ} (λ x. Wrote (end_line x.0 ∷ visits_if c.args.report.count x.1) before after c.write_last.result)
    (λ k. (events k, visits k))
    c.write_last.ensures))
