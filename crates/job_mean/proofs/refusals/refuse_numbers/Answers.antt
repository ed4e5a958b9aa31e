-- By computation.
use Rattle.std.proofs.Common.{refl}
use Rattle.clap.proofs.OnLiterals.{clap_on_literals}
use Rattle.job_mean.proofs.refusals.refuse_numbers.Goals as goal

pub returns-clause-sign : goal.returns-clause-sign
unfolding clap_on_literals
returns-clause-sign c = refl

pub returns-clause-nothing : goal.returns-clause-nothing
unfolding clap_on_literals
returns-clause-nothing c = refl

pub returns-clause-leading_zero : goal.returns-clause-leading_zero
unfolding clap_on_literals
returns-clause-leading_zero c = refl

pub returns-clause-large_seed : goal.returns-clause-large_seed
unfolding clap_on_literals
returns-clause-large_seed c = refl

pub returns-clause-many_events : goal.returns-clause-many_events
unfolding clap_on_literals
returns-clause-many_events c = refl

pub returns-clause-no_members : goal.returns-clause-no_members
unfolding clap_on_literals
returns-clause-no_members c = refl

pub returns-clause-many_members : goal.returns-clause-many_members
unfolding clap_on_literals
returns-clause-many_members c = refl

pub returns-clause-many_turns : goal.returns-clause-many_turns
unfolding clap_on_literals
returns-clause-many_turns c = refl

pub returns-clause-large_member : goal.returns-clause-large_member
unfolding clap_on_literals
returns-clause-large_member c = refl

pub returns-clause-no_member : goal.returns-clause-no_member
unfolding clap_on_literals
returns-clause-no_member c = refl

pub returns-clause-member_twice : goal.returns-clause-member_twice
unfolding clap_on_literals
returns-clause-member_twice c = refl

pub returns-clause-members_fall : goal.returns-clause-members_fall
unfolding clap_on_literals
returns-clause-members_fall c = refl

pub returns-clause-space : goal.returns-clause-space
unfolding clap_on_literals
returns-clause-space c = refl

pub returns-clause-comma_at_the_end : goal.returns-clause-comma_at_the_end
unfolding clap_on_literals
returns-clause-comma_at_the_end c = refl

pub returns-clause-much_patience : goal.returns-clause-much_patience
unfolding clap_on_literals
returns-clause-much_patience c = refl

pub returns-clause-no_patience : goal.returns-clause-no_patience
unfolding clap_on_literals
returns-clause-no_patience c = refl
