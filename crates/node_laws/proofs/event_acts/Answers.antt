use Rattle.node_laws.proofs.Acts.{event_lines_are, event_sends_are}
use Rattle.node_laws.proofs.event_acts.Goals as goal

pub returns : goal.returns
returns c = λ mode stack plans w event failed.
    (event_lines_are mode stack plans w event failed, event_sends_are mode stack plans w event failed)
