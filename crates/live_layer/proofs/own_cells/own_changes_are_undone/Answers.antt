use Rattle.live_layer.proofs.OwnUndone.{own_undone}
use Rattle.live_layer.proofs.own_cells.own_changes_are_undone.Goals as goal

pub returns : goal.returns
returns c = own_undone
