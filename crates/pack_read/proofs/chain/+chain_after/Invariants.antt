use Rattle.pack_read.proofs.chain.+chain_after.Given as goal

abbrev pub decreases-chain_after : goal.decreases-chain_after
decreases-chain_after l = l.most
