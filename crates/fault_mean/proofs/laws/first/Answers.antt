use Rattle.fault_mean.specs.Faults.{name_key, type_key}
use Rattle.fault_mean.proofs.Earliest.{first, there}
use Rattle.fault_mean.proofs.laws.first.Goals as goal

pub returns-clause-first_name : goal.returns-clause-first_name
returns-clause-first_name c = first name_key

pub returns-clause-first_type : goal.returns-clause-first_type
returns-clause-first_type c = first type_key

pub returns-clause-some_name : goal.returns-clause-some_name
returns-clause-some_name c = there name_key

pub returns-clause-some_type : goal.returns-clause-some_type
returns-clause-some_type c = there type_key
