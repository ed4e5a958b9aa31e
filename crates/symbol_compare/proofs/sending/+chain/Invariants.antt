use Rattle.symbol_compare.proofs.sending.+chain.Given as goal

abbrev pub decreases-chain : goal.decreases-chain
decreases-chain l = l.number
