use Rattle.layer_stage.proofs.Needs.{slots_at_a_desk, places_at_a_desk, headers_at_a_desk}
use Rattle.layer_stage.proofs.laws.needs_are_those_at_a_desk.Goals as goal

pub returns-clause-slots : goal.returns-clause-slots
returns-clause-slots c = slots_at_a_desk

pub returns-clause-places : goal.returns-clause-places
returns-clause-places c = places_at_a_desk

pub returns-clause-headers : goal.returns-clause-headers
returns-clause-headers c = headers_at_a_desk
