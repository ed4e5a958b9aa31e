use Rattle.std.proofs.Common.{None, subst}
use Rattle.outside.specs.StdSink.{gathered_bytes}
use Rattle.outside.specs.Said.{errors}
use Rattle.outside.specs.Tells.{tells}
use Rattle.format_run.specs.Ends.{Said}
use Rattle.format_run.proofs.Through.{delivers}
use Rattle.format_run.proofs.over_streams.run_through.Goals as goal

pub returns-clause-through : goal.returns-clause-through
returns-clause-through g c =
    let out = c.perform-ending.new.out in
    let first = c.args.err.now in
    let last = c.say-status.new.err in
    let before = tells (gathered_bytes (g.E.Write.contents first.stream) first.done first.held.items) None first.faults
    in
    let closing = tells (gathered_bytes (g.E.Write.contents last.stream) last.done last.held.items) None last.faults in
    record {
      put = tells (gathered_bytes (g.O.Write.contents out.stream) out.done out.held.items) None out.faults;
      end = c.perform-ending.result;
      came = c.perform-ending.ensures;
      whole = c.hand_on-whole.result;
      handed_on = c.hand_on-whole.ensures;
      closing = closing;
      said = subst (λ end. Said end (errors before closing c.say-status.result)) c.end_after_delivery.ensures
          c.say-status.ensures;
      heard = c.hand_on.result;
      told_on = c.hand_on.ensures;
    }

pub returns-clause-delivered : goal.returns-clause-delivered
returns-clause-delivered g c = delivers _ _ _ _ _ _ _ (returns-clause-through g c)
