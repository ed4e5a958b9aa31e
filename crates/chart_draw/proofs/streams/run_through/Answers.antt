use Rattle.std.proofs.Common.{None, subst, map}
use Rattle.std.specs.String.{string_bytes}
use Rattle.outside.specs.StdSink.{gathered_bytes}
use Rattle.outside.specs.Said.{errors}
use Rattle.outside.specs.Tells.{tells}
use Rattle.chart_mean.specs.Ends.{Said}
use Rattle.chart_mean.specs.Words.{request_of}
use Rattle.chart_mean.specs.Runs.{surrounding}
use Rattle.chart_mean.proofs.Exact.{exact}
use Rattle.chart_draw.proofs.Through.{delivers}
use Rattle.chart_draw.proofs.streams.run_through.Goals as goal

pub returns-clause-through : goal.returns-clause-through
returns-clause-through g c =
    let out = c.perform-ending.new.out in
    let first = c.args.err.now in
    let last = c.say-status.new.err in
    let before = tells (gathered_bytes (g.E.Write.contents first.stream) first.done first.held.items) None first.faults
    in
    let closing = tells (gathered_bytes (g.E.Write.contents last.stream) last.done last.held.items) None last.faults in
    let e = errors before closing c.say-status.result in
    let said = subst (λ end. Said end e) c.end_after_delivery.ensures c.say-status.ensures in
    let put = tells (gathered_bytes (g.O.Write.contents out.stream) out.done out.held.items) None out.faults in
    let start = c.args.out.now in
    let a = surrounding (g.S.Shelf.told c.args.shelf.now) (g.S.Shelf.faults c.args.shelf.now)
    (g.S.Shelf.faults c.perform-ending.new.shelf)
    (tells (gathered_bytes (g.O.Write.contents start.stream) start.done start.held.items) None start.faults) put in
    let request = request_of (map string_bytes c.args.words.now) in
    record {
      put = put;
      end = c.perform-ending.result;
      came = c.perform-ending.ensures;
      whole = c.hand_on-whole.result;
      handed_on = c.hand_on-whole.ensures;
      closing = closing;
      said = said;
      runs = λ is. record {
        end = c.perform-ending.result;
        came = c.perform-ending.ensures;
        said = subst (λ end. Said end e) is said;
        exact = exact request a e c.perform-ending.result c.perform-ending.ensures (subst (λ end. Said end e) is said);
      };
      heard = c.hand_on.result;
      told_on = c.hand_on.ensures;
    }

pub returns-clause-delivered : goal.returns-clause-delivered
returns-clause-delivered g c = delivers _ _ _ _ _ _ _ (returns-clause-through g c)
