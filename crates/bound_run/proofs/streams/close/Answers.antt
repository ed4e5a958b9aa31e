use Rattle.std.proofs.Common.{None, subst}
use Rattle.outside.specs.StdSink.{gathered_bytes}
use Rattle.outside.specs.Said.{errors}
use Rattle.outside.specs.Tells.{tells}
use Rattle.bound_mean.specs.Ends.{SaidSo}
use Rattle.bound_run.proofs.streams.close.Goals as goal

pub returns : goal.returns
returns g c =
    let first = c.args.err.now in
    let last = c.say_finish-status.new.err in
    let before = tells (gathered_bytes (g.E.Write.contents first.stream) first.done first.held.items) None first.faults
    in
    let closing = tells (gathered_bytes (g.E.Write.contents last.stream) last.done last.held.items) None last.faults in
    record {
      whole = c.hand_on-whole.result;
      handed_on = c.hand_on-whole.ensures;
      closing = closing;
      said = subst (λ end. SaidSo end (errors before closing c.say_finish-status.result)) c.after_delivery.ensures
          c.say_finish-status.ensures;
      heard = c.hand_on.result;
      told_on = c.hand_on.ensures;
    }
