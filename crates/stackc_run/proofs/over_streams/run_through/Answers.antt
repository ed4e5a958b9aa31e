use Rattle.std.proofs.Common.{None, subst, refl, map}
use Rattle.std.specs.String.{string_bytes}
use Rattle.outside.specs.StdSink.{gathered_bytes}
use Rattle.job_mean.specs.Job.{job_of_words}
use Rattle.outside.specs.Said.{errors}
use Rattle.outside.specs.Tells.{tells}
use Rattle.job_ends.specs.Comes.{surrounding}
use Rattle.job_ends.specs.Shown.{shown_end, Said}
use Rattle.node_jobs.specs.Comes.{beyond}
use Rattle.stackc_run.proofs.Performed.{does}
use Rattle.stackc_run.proofs.Through.{delivers}
use Rattle.stackc_run.proofs.over_streams.run_through.Goals as goal

pub returns-clause-through : goal.returns-clause-through
returns-clause-through g c =
    let out = c.perform-ending.new.out in
    let first = c.args.err.now in
    let before = tells (gathered_bytes (g.E.Write.contents first.stream) first.done first.held.items) None first.faults
    in
    let closes = c.close.ensures in
    let e = errors before closes.closing c.close.result in
    let put = tells (gathered_bytes (g.O.Write.contents out.stream) out.done out.held.items) None out.faults in
    let start = c.args.out.now in
    let a = surrounding (g.S.Shelf.told c.args.shelf.now) (g.S.Shelf.faults c.args.shelf.now)
    (g.S.Shelf.faults c.perform-ending.new.shelf)
    (tells (gathered_bytes (g.O.Write.contents start.stream) start.done start.held.items) None start.faults) put in
    let n = beyond g.N.Links g.C.Clock c.args.links.now c.perform-ending.new.links c.args.clock.now
    c.perform-ending.new.clock in
    record {
      put = put;
      end = shown_end c.perform-ending.result;
      performed = c.perform-ending.ensures;
      closes = closes;
      does = λ is. does (map string_bytes c.args.words.now) (job_of_words (map string_bytes c.args.words.now)) refl a n
          e (shown_end c.perform-ending.result) c.perform-ending.ensures (subst (λ end. Said end e) is closes.said);
    }

pub returns-clause-delivered : goal.returns-clause-delivered
returns-clause-delivered g c = delivers _ _ _ _ _ _ _ _ (returns-clause-through g c)
