-- By computation.
use Rattle.std.proofs.Common.{refl}
use Rattle.packet_mean.specs.Received.{received}
use Rattle.packet_mean.proofs.samples.find_causes.Goals as goal

pub returns-clause-short : goal.returns-clause-short
unfolding received
returns-clause-short c = refl

pub returns-clause-form : goal.returns-clause-form
unfolding received
returns-clause-form c = refl

pub returns-clause-group : goal.returns-clause-group
unfolding received
returns-clause-group c = refl

pub returns-clause-stamp : goal.returns-clause-stamp
unfolding received
returns-clause-stamp c = refl

pub returns-clause-ltime : goal.returns-clause-ltime
unfolding received
returns-clause-ltime c = refl

pub returns-clause-mask : goal.returns-clause-mask
unfolding received
returns-clause-mask c = refl

pub returns-clause-no_rank : goal.returns-clause-no_rank
unfolding received
returns-clause-no_rank c = refl

pub returns-clause-own_rank : goal.returns-clause-own_rank
unfolding received
returns-clause-own_rank c = refl

pub returns-clause-dest : goal.returns-clause-dest
unfolding received
returns-clause-dest c = refl

pub returns-clause-no_plan : goal.returns-clause-no_plan
unfolding received
returns-clause-no_plan c = refl

pub returns-clause-unknown_plan : goal.returns-clause-unknown_plan
unfolding received
returns-clause-unknown_plan c = refl

pub returns-clause-other_kind : goal.returns-clause-other_kind
unfolding received
returns-clause-other_kind c = refl

pub returns-clause-no_tag : goal.returns-clause-no_tag
unfolding received
returns-clause-no_tag c = refl

pub returns-clause-unknown_tag : goal.returns-clause-unknown_tag
unfolding received
returns-clause-unknown_tag c = refl

pub returns-clause-cut_off : goal.returns-clause-cut_off
unfolding received
returns-clause-cut_off c = refl

pub returns-clause-long_body : goal.returns-clause-long_body
unfolding received
returns-clause-long_body c = refl

pub returns-clause-longest_body : goal.returns-clause-longest_body
unfolding received
returns-clause-longest_body c = refl
