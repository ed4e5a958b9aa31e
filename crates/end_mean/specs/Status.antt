-- How the program ends: its status, and its line on the standard error.
use Rattle.std.specs.Prelude.{ℕ, List, [], ◌++◌, codes}
use Rattle.std.specs.Fmt.{decimal}
use Rattle.layer_words.specs.declared.places.At.{At}
use Rattle.layer_words.specs.declared.events.Kind.{Kind}
use Rattle.layer_words.specs.Spelling.{kind_word}
use Rattle.script_mean.specs.Script.{ScriptFault, too_long, bad_line, no_member}
use Rattle.audit_mean.specs.Finding as finding
use Rattle.audit_mean.specs.Finding.{AuditFault}
use Rattle.pack_mean.specs.Accepted as traces
use Rattle.pack_mean.specs.Accepted.{PackFault, differs}
use Rattle.pack_mean.specs.File.{heading}

-- why a file is refused: its length; a token, by the place of the first fault; a name; a type; the graph of
-- its events, by place and kind of a cycle or the largest weight
pub data FileFault : Type 0 where
  too_large : FileFault
  bad_token : (at : At) → FileFault
  unexpected : (at : At) → FileFault
  unknown : (at : At) → FileFault
  twice : (at : At) → FileFault
  over_limit : (at : At) → FileFault
  wrong_kind : (at : At) → FileFault
  arity : (at : At) → FileFault
  direction : (at : At) → FileFault
  header : (at : At) → FileFault
  initial : (at : At) → FileFault
  cycle : (place : ℕ) (kind : Kind) → FileFault
  too_many : (weight : ℕ) → FileFault
  too_many_joins : FileFault

-- why the second file is refused: it spells no script or plan, or the stack has too many rows for its members
pub data SecondFault : Type 0 where
  misspelled : (fault : ScriptFault) → SecondFault
  too_many_rows : SecondFault

-- how the program ends: the whole output was written, or it was and is a breach of a law; a file or the words are
-- refused, a file of an audit being a report, and a third file one of traces; a read, a write or a link failed; memory
-- ran out
pub data Ended : Type 0 where
  done : Ended
  breached : Ended
  file_refused : (fault : FileFault) → Ended
  report_refused : (fault : AuditFault) → Ended
  words_refused : Ended
  second_refused : (fault : SecondFault) → Ended
  traces_refused : (fault : PackFault) → Ended
  read_failed : Ended
  write_failed : Ended
  link_failed : Ended
  no_memory : Ended

-- the status of the program
abbrev pub status_number : Ended → ℕ
status_number done = 0
status_number (file_refused fault) = 1
status_number (report_refused fault) = 1
status_number words_refused = 2
status_number (second_refused fault) = 3
status_number read_failed = 4
status_number write_failed = 5
status_number link_failed = 6
status_number no_memory = 7
status_number breached = 8
status_number (traces_refused fault) = 9

-- a cause with its line and column
abbrev pub cause_at : List ℕ → At → List ℕ
cause_at cause at = cause ++ codes " " ++ decimal at.line ++ codes ":" ++ decimal at.col

-- the cause for which a file is refused
abbrev pub file_cause : FileFault → List ℕ
file_cause too_large = codes "too large"
file_cause (bad_token at) = cause_at (codes "token") at
file_cause (unexpected at) = cause_at (codes "unexpected") at
file_cause (unknown at) = cause_at (codes "unknown") at
file_cause (twice at) = cause_at (codes "twice") at
file_cause (over_limit at) = cause_at (codes "limit") at
file_cause (wrong_kind at) = cause_at (codes "kind") at
file_cause (arity at) = cause_at (codes "arity") at
file_cause (direction at) = cause_at (codes "direction") at
file_cause (header at) = cause_at (codes "header") at
file_cause (initial at) = cause_at (codes "initial") at
file_cause (cycle place kind) = codes "cycle " ++ decimal place ++ codes " " ++ kind_word kind
file_cause (too_many weight) = codes "too many " ++ decimal weight
file_cause too_many_joins = codes "joins"

-- the cause for which the file of an audit is refused
abbrev pub report_cause : AuditFault → List ℕ
report_cause finding.too_large = codes "too large"
report_cause (finding.bad_line line) = codes "line " ++ decimal line

-- the cause for which the second file is refused
abbrev pub second_cause : SecondFault → List ℕ
second_cause (misspelled too_long) = codes "too long"
second_cause (misspelled (bad_line line)) = codes "line " ++ decimal line
second_cause (misspelled (no_member line)) = codes "member " ++ decimal line
second_cause too_many_rows = codes "rows"

-- the cause for which a file of traces is refused: one of its traces does something else at this act
abbrev pub traces_cause : PackFault → List ℕ
traces_cause traces.too_large = codes "too large"
traces_cause (traces.bad_line line) = codes "line " ++ decimal line
traces_cause (differs entry case act) = heading entry case ++ codes " op " ++ decimal act

-- the line on the standard error, which is missing where the whole output was written and is no breach
abbrev pub error_line : Ended → List ℕ
error_line done = []
error_line breached = codes "breach\n"
error_line (file_refused fault) = codes "file: " ++ file_cause fault ++ codes "\n"
error_line (report_refused fault) = codes "file: " ++ report_cause fault ++ codes "\n"
error_line words_refused = codes "words: refused\n"
error_line (second_refused fault) = codes "script: " ++ second_cause fault ++ codes "\n"
error_line (traces_refused fault) = codes "bypass: " ++ traces_cause fault ++ codes "\n"
error_line read_failed = codes "read fault\n"
error_line write_failed = codes "write fault\n"
error_line link_failed = codes "link fault\n"
error_line no_memory = codes "no memory\n"
