use Rattle.std.proofs.Common.{arith}
use Rattle.cell_store.proofs.Written.{ring_few}
use Rattle.cell_store.proofs.rings.Rings.len.Goals as goal

pub overflow_cast-result : goal.overflow_cast-result
overflow_cast-result g c =
    let few = ring_few _ _ _ _ _ c.self.invariant c.if-index-self.true c.index.ensures in
    omega (arith, few, c.len.ensures)
