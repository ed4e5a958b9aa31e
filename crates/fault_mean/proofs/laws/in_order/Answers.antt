use Rattle.fault_mean.specs.Faults.{name_key, type_key}
use Rattle.fault_mean.proofs.Earliest.{in_order}
use Rattle.fault_mean.proofs.laws.in_order.Goals as goal

pub returns-clause-names : goal.returns-clause-names
returns-clause-names c = in_order name_key

pub returns-clause-types : goal.returns-clause-types
returns-clause-types c = in_order type_key
