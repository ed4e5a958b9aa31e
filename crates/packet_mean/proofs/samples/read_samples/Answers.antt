-- By computation.
use Rattle.std.proofs.Common.{refl}
use Rattle.packet_mean.specs.Received.{received}
use Rattle.packet_mean.proofs.samples.read_samples.Goals as goal

pub returns-clause-ordered_full : goal.returns-clause-ordered_full
unfolding received
returns-clause-ordered_full c = refl

pub returns-clause-ordered_short : goal.returns-clause-ordered_short
unfolding received
returns-clause-ordered_short c = refl

pub returns-clause-request : goal.returns-clause-request
unfolding received
returns-clause-request c = refl

pub returns-clause-counter_full : goal.returns-clause-counter_full
unfolding received
returns-clause-counter_full c = refl

pub returns-clause-counter_short : goal.returns-clause-counter_short
unfolding received
returns-clause-counter_short c = refl
