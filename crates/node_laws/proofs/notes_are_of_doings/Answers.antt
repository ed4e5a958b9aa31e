use Rattle.node_laws.proofs.Doings.{notes_are_of_doings}
use Rattle.node_laws.proofs.notes_are_of_doings.Goals as goal

pub returns : goal.returns
returns c = notes_are_of_doings
