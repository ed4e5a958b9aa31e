use Rattle.pool_message.proofs.Moves.{returned_one}
use Rattle.pool_message.proofs.part.Part.give_back.Goals as goal

pub returns : goal.returns
returns c = returned_one _ _ _ c.requires c.give_back.ensures
