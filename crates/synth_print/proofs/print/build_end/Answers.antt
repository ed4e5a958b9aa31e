use Rattle.synth_print.proofs.Printed.{counted_is}
use Rattle.synth_print.proofs.print.build_end.Goals as goal

pub returns : goal.returns
returns c = counted_is c.args.bypasses.now c.in_ok-counts.counts _ _ _ c.in_ok-counts.ensures c.build_counted.ensures
