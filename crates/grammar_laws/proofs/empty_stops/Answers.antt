use Rattle.std.proofs.Common.{refl}
use Rattle.grammar_laws.proofs.Beginnings.{nothing_begins, nothing_spells}
use Rattle.grammar_laws.proofs.empty_stops.Goals as goal

pub returns : goal.returns
returns c = record { good = refl; before = nothing_begins; none = nothing_spells; place = refl }
