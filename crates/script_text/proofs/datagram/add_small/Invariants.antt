use Rattle.script_text.proofs.Draws.{DrawnSoFar}
use Rattle.script_text.proofs.datagram.add_small.Given as goal

abbrev pub invariant-loop : goal.invariant-loop
invariant-loop l = DrawnSoFar l.count l.counter l.fn.bytes.items l.bytes.items l.fn.seed.value l.seed.value
