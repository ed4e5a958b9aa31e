use Rattle.pack_read.proofs.header.+more_fields.Given as goal

abbrev pub decreases-more_fields : goal.decreases-more_fields
decreases-more_fields l = l.most
