use Rattle.slot_pool.specs.Spots.{Grows}
use Rattle.slot_pool.proofs.row.reach.Given as goal

abbrev pub invariant-loop : goal.invariant-loop
invariant-loop l = Grows l.fn.long l.long l.index l.counter
