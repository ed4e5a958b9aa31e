use Rattle.std.proofs.Common.{ℕ, false, [], ◌∷◌, length, ap, sym, subst}
use Rattle.std.proofs.lemmas.Result.{err_from_is_err_and}
use Rattle.stack_judge.specs.Answer.{stack_tree}
use Rattle.stack_shapes.specs.Trees.{plans_tree}
use Rattle.run_mean.specs.Report.{end_line}
use Rattle.outside.specs.Lines.{Wrote}
use Rattle.outside.specs.Tells.{tells_of}
use Rattle.outside.proofs.Turns.{part_of, wrote_as, wrote_both}
use Rattle.stack_play.proofs.Outputs.{output_is}
use Rattle.family_group.proofs.telling.write_script.Goals as goal

pub returns-in_err-write_events-clause-wrote : goal.returns-in_err-write_events-clause-wrote
returns-in_err-write_events-clause-wrote g c =
    let mode = (g.G.Feed.group c.args.group.now).mode in
    let p = err_from_is_err_and c.from_residual.result c.from_residual.ensures.1 in
    rw (p.1, p.2) (part_of _ _ _ _ _ _
    (output_is mode (stack_tree c.args.manner.stack.now) (plans_tree c.args.manner.plans.now) c.args.script.now
    c.args.manner.events c.args.manner.wire false)
    c.in_err-write_events.ensures.lines)

pub returns-clause-wrote : goal.returns-clause-wrote
returns-clause-wrote g c =
    let mode = (g.G.Feed.group c.args.group.now).mode in
    let before = tells_of g.O.Sink c.write_events.new.out in
    let after = tells_of g.O.Sink c.write_end.new.out in
    let events = ap length c.slice.ensures in
    wrote_as _ _ _ _ c.write_end.result
    (sym (output_is mode (stack_tree c.args.manner.stack.now) (plans_tree c.args.manner.plans.now) c.args.script.now
    c.args.manner.events c.args.manner.wire false))
    (wrote_both _ _ _ _ _ c.write_end.result c.in_ok-write_events.ensures.lines
    (subst (λ n. Wrote (end_line n ∷ []) before after c.write_end.result) events c.write_end.ensures))
