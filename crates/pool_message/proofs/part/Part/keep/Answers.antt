use Rattle.pool_message.proofs.Moves.{kept_one}
use Rattle.pool_message.proofs.part.Part.keep.Goals as goal

pub returns-clause-kept : goal.returns-clause-kept
returns-clause-kept c = kept_one _ _ _ c.requires.there c.keep.ensures.pool
