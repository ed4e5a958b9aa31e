use Rattle.chain_laws.proofs.Orderly.{typed_is_orderly}
use Rattle.chain_laws.proofs.typed_is_orderly.Goals as goal

pub returns : goal.returns
returns c = typed_is_orderly
