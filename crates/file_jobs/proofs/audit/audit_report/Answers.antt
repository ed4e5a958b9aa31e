use Rattle.std.proofs.Common.{refl, sym, subst, [], ◌∷◌}
use Rattle.std.specs.String.{string_bytes}
use Rattle.job_mean.specs.Job.{audit}
use Rattle.job_ends.specs.Comes.{around, Writes}
use Rattle.job_ends.specs.Shown.{shown_end}
use Rattle.job_ends.proofs.Comes.{written}
use Rattle.file_jobs.proofs.Stops.{audit_stops}
use Rattle.file_jobs.proofs.audit.audit_report.Goals as goal

pub returns-in-Ok : goal.returns-in-Ok
returns-in-Ok g c =
    let report = c.in-Ok.ensures in
    let a = around g.S.Shelf g.O.Sink c.args.shelf.now c.fetch_report.new.shelf c.args.out.now c.write.new.out in
    written (audit c.args.file.now c.args.law) a
    (record {
      file = report.file;
      second = [];
      third = [];
      found = report.found;
      beside = refl;
      following = refl;
      lines = string_bytes c.in-Ok.output.line ∷ [];
      output = report.finds.output;
    })
    (shown_end c.write.result) report.sound
    (subst (λ end. Writes (string_bytes c.in-Ok.output.line ∷ []) end a.output a.output_after
    (shown_end c.write.result))
    (sym report.finds.ends) c.write.ensures)

pub returns-in-Err : goal.returns-in-Err
returns-in-Err g c = audit_stops c.args.file.now c.args.law
    (around g.S.Shelf g.O.Sink c.args.shelf.now c.fetch_report.new.shelf c.args.out.now c.args.out.now)
    (shown_end c.in-Err.ending) c.in-Err.ensures refl
