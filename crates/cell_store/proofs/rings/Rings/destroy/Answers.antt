use Rattle.cell_store.proofs.Written.{rings_empty}
use Rattle.cell_store.proofs.rings.Rings.destroy.Goals as goal

pub destroy_rings-requires : goal.destroy_rings-requires
destroy_rings-requires g c = rings_empty _ _ _ _ c.self.view_is c.self.invariant c.requires
