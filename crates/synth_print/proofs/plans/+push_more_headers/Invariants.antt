use Rattle.std.proofs.Common.{length}
use Rattle.synth_print.proofs.plans.+push_more_headers.Given as goal

abbrev pub decreases-push_more_headers : goal.decreases-push_more_headers
decreases-push_more_headers l = length l.tags.now
