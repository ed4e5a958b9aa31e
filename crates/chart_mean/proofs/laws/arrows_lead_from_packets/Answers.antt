use Rattle.chart_mean.proofs.Arrows.{last_found, only_found}
use Rattle.chart_mean.proofs.laws.arrows_lead_from_packets.Goals as goal

pub returns-clause-each : goal.returns-clause-each
returns-clause-each c = λ told before between sent word is none. last_found told word before between sent is none

pub returns-clause-no_other : goal.returns-clause-no_other
returns-clause-no_other c = λ told before word. only_found told word before
