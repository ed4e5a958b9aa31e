use Rattle.stack_judge.specs.Answer.{stack_tree}
use Rattle.synth_print.specs.Source.{nodes_in}
use Rattle.synth_print.proofs.Notes.{called_more}
use Rattle.synth_print.proofs.done.add_called.Goals as goal
use Rattle.trace_core.specs.View.{terms}

pub returns-clause-noted : goal.returns-clause-noted
returns-clause-noted c =
    called_more (stack_tree c.args._stack.now) (terms (nodes_in c.args._source.now.nodes)) c.args.written.now.binds
    c.args.written.now.rows.items
    c.args.written.now.notes.items _ c.in_ok-push.ensures.items
