use Rattle.node_laws.proofs.Acts.{acts_lines_are, acts_sends_are}
use Rattle.node_laws.proofs.acts_are_of_doings.Goals as goal

pub returns : goal.returns
returns c = λ mode stack plans w doings failed.
    (acts_lines_are mode stack plans w doings failed, acts_sends_are mode stack plans w doings failed)
