use Rattle.std.proofs.Common.{length}
use Rattle.pack_read.proofs.row.+more_numbers.Given as goal

abbrev pub decreases-more_numbers : goal.decreases-more_numbers
decreases-more_numbers l = length l.names.now
