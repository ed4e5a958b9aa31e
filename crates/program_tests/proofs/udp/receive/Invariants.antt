use Rattle.std.proofs.Common.{◌≡◌, ℕ}
use Rattle.program_tests.proofs.udp.receive.Given as goal

abbrev pub invariant-turns : goal.invariant-turns
invariant-turns g l = (m : ℕ) → g.N.Links.listening l.links m ≡ g.N.Links.listening l.initial.links m
