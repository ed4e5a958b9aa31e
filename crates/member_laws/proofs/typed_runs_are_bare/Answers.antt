use Rattle.member_laws.proofs.Bare.{typed_runs_are_bare}
use Rattle.member_laws.proofs.typed_runs_are_bare.Goals as goal

pub returns : goal.returns
returns c = typed_runs_are_bare
