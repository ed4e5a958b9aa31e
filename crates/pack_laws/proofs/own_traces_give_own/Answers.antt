use Rattle.pack_laws.proofs.Accepted.{own_traces_give_own}
use Rattle.pack_laws.proofs.own_traces_give_own.Goals as goal

pub returns : goal.returns
returns c = own_traces_give_own
