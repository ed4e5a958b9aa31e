use Rattle.std.proofs.Common.{ap}
use Rattle.cell_store.specs.Kept.{Kept, KeptCell, capacity_of}
use Rattle.cell_store.proofs.Laid.{looked, nothing_read}
use Rattle.cell_store.proofs.cells.Cells.capacity.Goals as goal

pub returns-in-None : goal.returns-in-None
returns-in-None g c = ap (λ (cell : KeptCell g.row.R.Denot). capacity_of cell)
    (nothing_read _ _ _ _ (ap (λ (k : Kept g.row.R.Denot). k.cells) c.self.view_is)
    (looked _ _ _ _ c.deref.ensures.value c.in-None.ensures))
