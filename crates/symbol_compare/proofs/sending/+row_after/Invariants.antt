use Rattle.std.proofs.Common.{◌-◌}
use Rattle.symbol_compare.proofs.sending.+row_after.Given as goal

abbrev pub decreases-row_after : goal.decreases-row_after
decreases-row_after l = 5 - l.first
