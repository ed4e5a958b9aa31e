use Rattle.group_world.proofs.Visits.{run_visits}
use Rattle.group_world.proofs.laws.visits_are_few.Goals as goal

pub returns : goal.returns
returns c = run_visits
