use Rattle.stack_judge.specs.Answer.{stack_tree}
use Rattle.synth_print.specs.Source.{nodes_in}
use Rattle.synth_print.proofs.Notes.{taken}
use Rattle.synth_print.proofs.done.add_row.Goals as goal
use Rattle.trace_core.specs.View.{terms}

pub returns-clause-taken : goal.returns-clause-taken
returns-clause-taken c =
    taken (stack_tree c.args._stack.now) (terms (nodes_in c.args._source.now.nodes)) c.args.written.now.binds
    c.args.written.now.rows.items _
    c.args.written.now.notes.items c.args.row c.in_ok-push.ensures.items c.args.written.now.within
