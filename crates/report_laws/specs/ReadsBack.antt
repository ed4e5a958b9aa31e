-- The report of a run, read line by line by an audit, says what the definitions say of the run.
use Rattle.std.specs.Prelude.{◌≡◌, ℕ, ◌==◌, ◌<◌, ◌≤◌, ◌^◌, ◌&&◌, not, Bool, true, false, List, [], length, Ok}
use Rattle.std.specs.Prelude.{Err, if◌then◌else◌}
use Rattle.std.specs.List.{AllByRecursion, list_all, concat, enumerate_from}
use Rattle.msg_core.specs.View.{most_members}
use Rattle.script_mean.specs.Event.{member_of}
use Rattle.script_mean.specs.declared.script.Script.{Script}
use Rattle.audit_mean.specs.Finding.{too_large, audit_of, breaches, finding_of, least}
use Rattle.audit_mean.specs.Report.{running, report_from}
use Rattle.audit_mean.specs.Text.{is_too_large, lines_of}
use Rattle.audit_mean.specs.declared.law.Finding.{Finding}
use Rattle.audit_mean.specs.declared.law.Finding.TheVariants.{Holds}
use Rattle.audit_mean.specs.declared.law.Law.{Law}
use Rattle.layer_mean.specs.Tree.{LayerTree}
use Rattle.stack_mean.specs.Plans.{plans_of}
use Rattle.run_mean.specs.Report.{run_of, report_lines}
use Rattle.chain_laws.specs.Runs.{TypedStack}
use Rattle.member_laws.specs.Members.{IsGivenEvent}
use Rattle.order_laws.specs.Said.{report_said}

-- A name that can stand in a line: it has no line feed (10).
abbrev pub is_whole : List ℕ → Bool
is_whole name = list_all (λ byte. not (byte == 10)) name

-- All names of a layer can, and all names of a stack.
abbrev pub has_whole_names : LayerTree → Bool
has_whole_names layer = is_whole layer.name &&
    (list_all (λ h. is_whole h.name) layer.headers && list_all (λ cell. is_whole cell.name) layer.cells)

abbrev pub HasWholeNames : List LayerTree → Type 0
HasWholeNames stack = list_all has_whole_names stack ≡ true

-- A script that can be run: its numbers and bytes are in range, its events are of its members, and its report can count
-- them.
pub record IsGiven (s : Script) : Type 0 where
  pub group : s.group < 2 ^ 32
  pub stamp : s.stamp < 2 ^ 32
  pub members : s.members ≤ most_members
  pub given : AllByRecursion IsGivenEvent s.events
  pub of_members : AllByRecursion (λ event. member_of event < s.members) s.events
  pub few : length s.events < 2 ^ 64

-- The bytes of a report.
abbrev pub report_bytes : List LayerTree → Script → List ℕ
report_bytes stack s = concat (report_lines stack (plans_of stack) s)

-- They read back as what the run says.
abbrev pub ReportReadsBack : Type 0
ReportReadsBack = (stack : List LayerTree) (s : Script) → TypedStack stack → HasWholeNames stack → IsGiven s →
    report_from running 1 (lines_of (report_bytes stack s)) ≡ Ok (report_said stack (run_of stack (plans_of stack) s))

-- So an audit finds in them what there is to find in the run, unless they are too many.
abbrev pub found_in : Law → List LayerTree → Script → Finding
found_in law stack s =
    finding_of (least (breaches law (enumerate_from 1 (report_said stack (run_of stack (plans_of stack) s)))))

abbrev pub AuditFinds : Type 0
AuditFinds = (law : Law) (stack : List LayerTree) (s : Script) → TypedStack stack → HasWholeNames stack → IsGiven s →
    audit_of law (report_bytes stack s) ≡
    (if is_too_large (report_bytes stack s) then Err too_large else Ok (found_in law stack s))

-- A law that a run has no breach of is found to hold in its report.
abbrev pub KeptIsFound : Type 0
KeptIsFound = (law : Law) (stack : List LayerTree) (s : Script) → TypedStack stack → HasWholeNames stack → IsGiven s →
    is_too_large (report_bytes stack s) ≡ false →
    breaches law (enumerate_from 1 (report_said stack (run_of stack (plans_of stack) s))) ≡ [] →
    audit_of law (report_bytes stack s) ≡ Ok Holds
