use Rattle.std.proofs.Common.{None, subst}
use Rattle.outside.specs.StdSink.{gathered_bytes}
use Rattle.outside.specs.Said.{errors}
use Rattle.outside.specs.Tells.{tells}
use Rattle.bound_mean.specs.Ends.{SaidSo}
use Rattle.bound_run.specs.Shown.{shown_finish}
use Rattle.bound_run.proofs.Through.{delivers_found, delivers_held, delivers_stopped}
use Rattle.bound_run.proofs.streams.run_through.Goals as goal

pub returns-clause-through : goal.returns-clause-through
returns-clause-through g c =
    let out = c.perform-finish.new.out in
    let first = c.args.err.now in
    let before = tells (gathered_bytes (g.E.Write.contents first.stream) first.done first.held.items) None first.faults
    in
    let closes = c.close.ensures in
    record {
      put = tells (gathered_bytes (g.O.Write.contents out.stream) out.done out.held.items) None out.faults;
      finish = shown_finish c.perform-finish.result;
      came = c.perform-finish.ensures;
      closes = closes;
      runs = λ is. record {
        finish = shown_finish c.perform-finish.result;
        came = c.perform-finish.ensures;
        said = subst (λ end. SaidSo end (errors before closes.closing c.close.result)) is closes.said;
      };
    }

pub returns-clause-held : goal.returns-clause-held
returns-clause-held g c = delivers_held _ _ _ _ _ _ _ (returns-clause-through g c)

pub returns-clause-found : goal.returns-clause-found
returns-clause-found g c = delivers_found _ _ _ _ _ _ _ (returns-clause-through g c)

pub returns-clause-stopped : goal.returns-clause-stopped
returns-clause-stopped g c = delivers_stopped _ _ _ _ _ _ _ (returns-clause-through g c)
