use Rattle.symbol_compare.proofs.sending.+atom_values.Given as goal

abbrev pub decreases-atom_values : goal.decreases-atom_values
decreases-atom_values l = l.many
