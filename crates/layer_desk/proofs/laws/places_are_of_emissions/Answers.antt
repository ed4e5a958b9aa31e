use Rattle.layer_desk.proofs.Emissions.{statement_places, block_places}
use Rattle.layer_desk.proofs.laws.places_are_of_emissions.Goals as goal

pub returns-clause-statement : goal.returns-clause-statement
returns-clause-statement c = statement_places

pub returns-clause-block : goal.returns-clause-block
returns-clause-block c = block_places
