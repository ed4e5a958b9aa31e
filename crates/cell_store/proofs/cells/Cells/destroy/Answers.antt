use Rattle.std.proofs.Common.{◌∙◌, sym}
use Rattle.cell_store.proofs.Rows.{rows_kept}
use Rattle.cell_store.proofs.cells.Cells.destroy.Goals as goal

pub destroy_all-requires : goal.destroy_all-requires
destroy_all-requires g c = sym (rows_kept _ _ _ _ _ _ _ _ _ c.self.view_is c.self.invariant.laid) ∙ c.requires
