use Rattle.replay_laws.proofs.Datagrams.{datagrams_are_numbered}
use Rattle.replay_laws.proofs.datagrams_are_numbered.Goals as goal

pub returns : goal.returns
returns c = datagrams_are_numbered
