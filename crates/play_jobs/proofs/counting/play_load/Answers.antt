use Rattle.std.proofs.Common.{Ok, rules, subst}
use Rattle.std.proofs.lemmas.Result.{err_from_is_err_and}
use Rattle.stack_judge.specs.Answer.{stack_tree}
use Rattle.group_mean.specs.Shown.{shown_mode}
use Rattle.outside.specs.Tells.{tells_of}
use Rattle.run_mean.specs.Tally.{tally}
use Rattle.stack_mean.specs.Plans.{plans_of}
use Rattle.script_text.specs.Course.{script_for}
use Rattle.play_jobs.specs.Play.{Plays}
use Rattle.play_jobs.proofs.Opened.{cut_short, first_as_it_is, plays}
use Rattle.play_jobs.proofs.counting.play_load.Goals as goal

pub write_counts-wrote-requires-clause-first : goal.write_counts-wrote-requires-clause-first
write_counts-wrote-requires-clause-first g c = first_as_it_is (shown_mode c.args.mode) _ _ _ _ _ _ _ (search rules)

pub returns-in_err-wrote : goal.returns-in_err-wrote
returns-in_err-wrote g c =
    let p = err_from_is_err_and c.from_residual-in_err-wrote.result c.from_residual-in_err-wrote.ensures.1 in
    rw (p.1, p.2) (subst (λ r. Plays (stack_tree c.args.stack) c.args.workload.members
    (tally (stack_tree c.args.stack) (plans_of (stack_tree c.args.stack)) (shown_mode c.args.mode)
    (script_for c.args.workload))
    (tells_of g.O.Sink c.args.out.now) (tells_of g.O.Sink c.write_counts-wrote.new.out) (cut_short r))
    c.in_err-wrote.was
    (plays (λ mode stack plans. tally stack plans mode (script_for c.args.workload)) (shown_mode c.args.mode) _
    (stack_tree c.args.stack) _ (plans_of (stack_tree c.args.stack)) _ c.args.workload.members _ _
    c.write_counts-wrote.result
    c.in_ok-opened.ensures.first.ready.mode_is c.in_ok-opened.ensures.stack_is c.in_ok-opened.ensures.plans_are
    c.in_ok-opened.ensures.room (rw (c.deref.ensures, c.stack-2.ensures, c.deref-2.ensures) at
    c.write_counts-wrote.ensures)))

pub returns : goal.returns
returns g c =
    plays (λ mode stack plans. tally stack plans mode (script_for c.args.workload)) (shown_mode c.args.mode) _
    (stack_tree c.args.stack) _ (plans_of (stack_tree c.args.stack)) _ c.args.workload.members _ _ (Ok tt)
    c.in_ok-opened.ensures.first.ready.mode_is c.in_ok-opened.ensures.stack_is c.in_ok-opened.ensures.plans_are
    c.in_ok-opened.ensures.room (rw (c.deref.ensures, c.stack-2.ensures, c.deref-2.ensures) at
    c.in_ok-wrote.ensures)
