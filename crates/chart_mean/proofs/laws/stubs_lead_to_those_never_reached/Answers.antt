use Rattle.chart_mean.proofs.Stubbed.{given_no_stub, stub_stands}
use Rattle.chart_mean.proofs.laws.stubs_lead_to_those_never_reached.Goals as goal

pub returns-clause-each : goal.returns-clause-each
returns-clause-each c = λ lines post member. stub_stands post member lines

pub returns-clause-no_other : goal.returns-clause-no_other
returns-clause-no_other c = λ before after line post member. given_no_stub post member before after line
