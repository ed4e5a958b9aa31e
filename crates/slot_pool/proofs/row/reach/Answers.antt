use Rattle.std.proofs.Common.{arith}
use Rattle.slot_pool.proofs.Spots.{reaches}
use Rattle.slot_pool.proofs.row.reach.Goals as goal

pub returns : goal.returns
returns c = reaches _ _ _ _ c.loop.invariant (omega (arith, c.loop-test.false))
