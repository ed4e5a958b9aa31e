-- How a job ends at its file.
use Rattle.std.proofs.Common.{◌≡◌, ℕ, ◌<◌, length, Option, inl}
use Rattle.std.specs.Prelude.{IfSome, IsSomeAnd, Err, if◌then◌else◌}
use Rattle.std.proofs.Common.{ap}
use Rattle.std.proofs.lemmas.Bool.{lt-ltb}
use Rattle.clap.specs.Walk.{Text}
use Rattle.outside.specs.Shelf.{Shelved, found_in}
use Rattle.layer_ast.specs.Spells.{longest_file}
use Rattle.audit_mean.specs.Finding as finding
use Rattle.audit_mean.specs.Report.{running, report_from}
use Rattle.audit_mean.specs.Text.{lines_of}
use Rattle.audit_mean.specs.declared.law.Law.{Law}
use Rattle.job_mean.specs.Job.{Job, audit}
use Rattle.end_mean.specs.Status.{Ended, file_refused, report_refused, read_failed, no_memory, too_large}
use Rattle.program_mean.specs.Headline.{ReadsStack}
use Rattle.job_ends.specs.Comes.{Around, file_name, Comes}
use Rattle.job_ends.proofs.Comes.{longer}
use Rattle.audit_judge.specs.declared.judge.TheConstants.{LONGEST_REPORT}
use Rattle.file_jobs.specs.Stack.{StopsAt, IsRefused}
use Rattle.file_jobs.specs.Report as report

-- How a job that stopped at its stack file ended.
pub stops : (job : Job) (a : Around) (end : Ended) → ReadsStack job →
    StopsAt (file_name job) a.told a.reads a.reads_after end →
    a.output_after ≡ a.output → Comes job a end
stops job a (file_refused fault) reads s same = record {
  cause = record { file = s.file; found = s.found; reads = reads; refused = s.refused };
  sound = s.sound;
  untouched = same;
}
stops job a read_failed reads s same = record { unfound = inl s.none; rose = s.rose; untouched = same }
stops job a no_memory reads s same = inl same
stops job a _ reads s same = absurd s

-- A file of too many bytes.
pub large_file : (name : Text) (told : Option Shelved) (reads reads_after : ℕ) →
    IfSome told (λ shelf. IsSomeAnd (found_in shelf name) (λ file. longest_file < length file)) → reads_after ≡ reads →
    IsRefused name told reads reads_after too_large
large_file name told reads reads_after h sound =
    let l = longer told name longest_file h in record { file = l.0; found = l.1; refused = l.2; sound = sound }

-- How an audit that stopped at its file ended.
pub audit_stops : (name : Text) (law : Law) (a : Around) (end : Ended) →
    report.StopsAt name law a.told a.reads a.reads_after end →
    a.output_after ≡ a.output → Comes (audit name law) a end
audit_stops name law a (report_refused fault) s same =
    record { cause = record { file = s.file; found = s.found; refused = s.refused }; sound = s.sound; untouched = same }
audit_stops name law a read_failed s same = record { unfound = inl s.none; rose = s.rose; untouched = same }
audit_stops name law a no_memory s same = inl same
audit_stops name law a _ s same = absurd s

-- A report of too many bytes.
pub large_report : (name : Text) (law : Law) (told : Option Shelved) (reads reads_after : ℕ) →
    IfSome told (λ shelf. IsSomeAnd (found_in shelf name) (λ file. LONGEST_REPORT < length file)) →
    reads_after ≡ reads →
    report.IsNone name law told reads reads_after finding.too_large
large_report name law told reads reads_after h sound = let l = longer told name LONGEST_REPORT h in record {
  file = l.0;
  found = l.1;
  refused = ap (λ b. if b then Err finding.too_large else finding.report_finding law
      (report_from running 1 (lines_of l.0)))
      (lt-ltb LONGEST_REPORT (length l.0) l.2);
  sound = sound;
}
