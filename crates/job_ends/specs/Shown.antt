-- How jobs end, as the definitions see it.
use Rattle.audit_mean.specs.Finding as report
use Rattle.script_mean.specs.Script.{too_long, bad_line, no_member}
use Rattle.end_mean.specs.Status as status
use Rattle.end_mean.specs.Status.{Ended, done, breached, file_refused, report_refused, words_refused, second_refused}
use Rattle.end_mean.specs.Status.{traces_refused, read_failed, write_failed, link_failed, no_memory, misspelled}
use Rattle.end_mean.specs.Status.{too_many_rows, status_number, error_line}
use Rattle.pack_mean.specs.Accepted as traces
use Rattle.outside.specs.Said.{Errors, SaysLine, Silent}
use Rattle.file_judge.specs.declared.error.FileError.{FileError}
use Rattle.file_judge.specs.declared.error.FileError.TheVariants.{TooLarge, BadToken, Unexpected, Unknown, Twice}
use Rattle.file_judge.specs.declared.error.FileError.TheVariants.{OverLimit, Kind, Arity, Direction, Header, Initial}
use Rattle.file_judge.specs.declared.error.FileError.TheVariants.{Cycle, TooMany, TooManyJoins}
use Rattle.file_judge.specs.declared.error.FileError.TheVariants as file
use Rattle.job_ends.specs.declared.ending.Ending.{Ending}
use Rattle.job_ends.specs.declared.ending.Ending.TheVariants.{Done, Breached, Words, File, ReportTooLarge, ReportLine}
use Rattle.job_ends.specs.declared.ending.Ending.TheVariants.{SecondTooLong, SecondLine, SecondMember, TooManyRows}
use Rattle.job_ends.specs.declared.ending.Ending.TheVariants.{TracesTooLarge, TracesLine, TracesDiffer, Read, Write}
use Rattle.job_ends.specs.declared.ending.Ending.TheVariants.{Link, Memory}

-- the end of a job whose stack file is refused
abbrev pub file_end : FileError → Ended
file_end TooLarge = file_refused status.too_large
file_end (BadToken at) = file_refused (status.bad_token at)
file_end (Unexpected at) = file_refused (status.unexpected at)
file_end (Unknown at) = file_refused (status.unknown at)
file_end (Twice at) = file_refused (status.twice at)
file_end (OverLimit at) = file_refused (status.over_limit at)
file_end (Kind at) = file_refused (status.wrong_kind at)
file_end (Arity at) = file_refused (status.arity at)
file_end (Direction at) = file_refused (status.direction at)
file_end (Header at) = file_refused (status.header at)
file_end (Initial at) = file_refused (status.initial at)
file_end (Cycle place kind) = file_refused (status.cycle place kind)
file_end (TooMany weight) = file_refused (status.too_many weight)
file_end TooManyJoins = file_refused status.too_many_joins
file_end file.Memory = no_memory

abbrev pub shown_end : Ending → Ended
shown_end Done = done
shown_end Breached = breached
shown_end Words = words_refused
shown_end (File error) = file_end error
shown_end ReportTooLarge = report_refused report.too_large
shown_end (ReportLine line) = report_refused (report.bad_line line)
shown_end SecondTooLong = second_refused (misspelled too_long)
shown_end (SecondLine line) = second_refused (misspelled (bad_line line))
shown_end (SecondMember line) = second_refused (misspelled (no_member line))
shown_end TooManyRows = second_refused too_many_rows
shown_end TracesTooLarge = traces_refused traces.too_large
shown_end (TracesLine line) = traces_refused (traces.bad_line line)
shown_end (TracesDiffer entry case act) = traces_refused (traces.differs entry case act)
shown_end Read = read_failed
shown_end Write = write_failed
shown_end Link = link_failed
shown_end Memory = no_memory

-- what is said of an end: nothing where a job went well, and else its line
abbrev pub Said : Ended → Errors → Type 0
Said done e = Silent e
Said end e = SaysLine (error_line end) (status_number end) e
