-- By computation.
use Rattle.std.proofs.Common.{refl}
use Rattle.std.specs.Fmt.{digits}
use Rattle.hex.proofs.OnLiterals.{hex_on_literals}
use Rattle.script_mean.proofs.event_lines.say_events.Goals as goal

pub returns-clause-cast : goal.returns-clause-cast
unfolding digits hex_on_literals
returns-clause-cast c = refl

pub returns-clause-cast_nothing : goal.returns-clause-cast_nothing
unfolding digits hex_on_literals
returns-clause-cast_nothing c = refl

pub returns-clause-send : goal.returns-clause-send
unfolding digits hex_on_literals
returns-clause-send c = refl

pub returns-clause-leave : goal.returns-clause-leave
unfolding digits hex_on_literals
returns-clause-leave c = refl

pub returns-clause-tick : goal.returns-clause-tick
unfolding digits hex_on_literals
returns-clause-tick c = refl

pub returns-clause-give : goal.returns-clause-give
unfolding digits hex_on_literals
returns-clause-give c = refl

pub returns-clause-raw : goal.returns-clause-raw
unfolding digits hex_on_literals
returns-clause-raw c = refl

pub returns-clause-state : goal.returns-clause-state
unfolding digits hex_on_literals
returns-clause-state c = refl
