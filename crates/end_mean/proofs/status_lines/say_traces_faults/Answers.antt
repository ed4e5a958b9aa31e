-- By computation.
use Rattle.std.proofs.Common.{refl}
use Rattle.std.specs.Fmt.{digits}
use Rattle.end_mean.proofs.status_lines.say_traces_faults.Goals as goal

pub returns-clause-length : goal.returns-clause-length
unfolding digits
returns-clause-length c = refl

pub returns-clause-form : goal.returns-clause-form
unfolding digits
returns-clause-form c = refl

pub returns-clause-cast : goal.returns-clause-cast
unfolding digits
returns-clause-cast c = refl

pub returns-clause-send : goal.returns-clause-send
unfolding digits
returns-clause-send c = refl

pub returns-clause-plan : goal.returns-clause-plan
unfolding digits
returns-clause-plan c = refl
