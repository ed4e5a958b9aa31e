use Rattle.synth_print.proofs.headers.+push_rest.Given as goal

abbrev pub decreases-push_rest : goal.decreases-push_rest
decreases-push_rest l = l.chain
