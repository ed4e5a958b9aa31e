use Rattle.std.proofs.Common.{subst}
use Rattle.outside.specs.Lines.{Wrote}
use Rattle.outside.specs.Tells.{tells_of}
use Rattle.bypass_jobs.proofs.Written.{printed_is}
use Rattle.bypass_jobs.proofs.text.put_bypasses.Goals as goal

pub returns : goal.returns
returns g c = subst
    (λ lines. Wrote lines (tells_of g.O.Sink c.args.out.now) (tells_of g.O.Sink c.put-wrote.new.out) c.put-wrote.result)
    (printed_is c.args.what _ _ _ c.requires.plans c.in_ok-bypasses.ensures.made) c.put-wrote.ensures
