use Rattle.script_mean.specs.Words.{words_of}
use Rattle.script_mean.specs.Event.{event_line}
use Rattle.script_text.proofs.Faults.{fault_at}
use Rattle.script_text.proofs.event.event_on.Goals as goal

pub returns-in-Err-clause-said : goal.returns-in-Err-clause-said
returns-in-Err-clause-said c =
    rw c.at.ensures (fault_at c.args.members c.args.line.number (event_line (words_of c.args.line.text.now))
    c.in-Err.error c.in-Err.ensures)
