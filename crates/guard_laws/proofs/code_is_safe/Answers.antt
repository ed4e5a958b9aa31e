use Rattle.guard_laws.proofs.Safe.{code_is_safe}
use Rattle.guard_laws.proofs.code_is_safe.Goals as goal

pub returns : goal.returns
returns c = code_is_safe
