use Rattle.std.proofs.Common.{Ok, subst}
use Rattle.std.proofs.lemmas.Result.{err_from_is_err_and}
use Rattle.stack_judge.specs.Answer.{stack_tree}
use Rattle.layer_ast.specs.View.{file_tree}
use Rattle.miss_mean.specs.Text.{explained_lines}
use Rattle.outside.specs.Tells.{tells_of}
use Rattle.stack_mean.specs.Plans.{plans_of}
use Rattle.play_jobs.specs.Play.{Plays}
use Rattle.play_jobs.proofs.Explained.{explained, first}
use Rattle.play_jobs.proofs.Opened.{cut_short}
use Rattle.play_jobs.proofs.explaining.explain_steps.Goals as goal

pub explain-wrote-requires-clause-first : goal.explain-wrote-requires-clause-first
explain-wrote-requires-clause-first g c =
    rw c.deref.ensures (first (stack_tree c.args.stack) c.in_ok-examination.examination c.args.script.now
    c.in_ok-examination.ensures)

pub returns-in_err-wrote : goal.returns-in_err-wrote
returns-in_err-wrote g c =
    let p = err_from_is_err_and c.from_residual-in_err-wrote.result c.from_residual-in_err-wrote.ensures.1 in
    let old = tells_of g.O.Sink c.args.out.now in
    let new = tells_of g.O.Sink c.explain-wrote.new.out in
    rw (p.1, p.2) (subst (λ r. Plays (stack_tree c.args.stack) c.args.script.now.members
    (explained_lines (file_tree c.args.file.now) (stack_tree c.args.stack) (plans_of (stack_tree c.args.stack))
    c.args.script.now) old new (cut_short r))
    c.in_err-wrote.was
    (explained (stack_tree c.args.stack) c.in_ok-examination.examination c.args.script.now c.in_ok-examination.ensures
    (file_tree c.args.file.now) old new c.explain-wrote.result (rw c.deref.ensures at c.explain-wrote.ensures)))

pub returns : goal.returns
returns g c =
    explained (stack_tree c.args.stack) c.in_ok-examination.examination c.args.script.now c.in_ok-examination.ensures
    (file_tree c.args.file.now) (tells_of g.O.Sink c.args.out.now) (tells_of g.O.Sink c.explain-wrote.new.out)
    (Ok tt) (rw c.deref.ensures at c.in_ok-wrote.ensures)
