use Rattle.file_parse.proofs.LayerAfterLayer.{stack_stands}
use Rattle.file_parse.proofs.apart.last_places.Goals as goal

pub returns-in-Ok : goal.returns-in-Ok
returns-in-Ok c = stack_stands _ _ c.in-Ok.ensures
