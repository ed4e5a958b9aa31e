use Rattle.cell_store.proofs.Written.{rings_again, shown_again}
use Rattle.cell_store.proofs.rings.Rings.show.Goals as goal

pub invariant_of-self : goal.invariant_of-self
invariant_of-self g c = rings_again _ _ _ _ _ c.self.view_is c.self.invariant c.requires.empty c.requires.room

pub returns : goal.returns
returns g c = shown_again _ _ _ _ _ c.self.view_is c.self.invariant c.requires.empty c.requires.room
