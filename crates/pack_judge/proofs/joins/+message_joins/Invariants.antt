use Rattle.pack_judge.proofs.joins.+message_joins.Given as goal

abbrev pub decreases-message_joins : goal.decreases-message_joins
decreases-message_joins l = l.message
