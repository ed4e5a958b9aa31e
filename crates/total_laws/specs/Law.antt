-- The laws that `bottom; local; total` keeps in every script without raw datagrams: no view changes in it, since none
-- of the three layers announces one.
use Rattle.std.specs.Prelude.{◌≡◌, ℕ, ◌<◌, ◌^◌, false, List, [], map, length, take, Ok}
use Rattle.std.specs.List.{AllByRecursion, enumerate_from}
use Rattle.script_mean.specs.declared.script.Script.{Script}
use Rattle.audit_mean.specs.Clash.{whole}
use Rattle.audit_mean.specs.Finding.{breaches, audit_of}
use Rattle.audit_mean.specs.Segment.{Entry, Numbered, entries_of}
use Rattle.audit_mean.specs.Text.{is_too_large}
use Rattle.audit_mean.specs.declared.law.Finding.TheVariants.{Holds}
use Rattle.audit_mean.specs.declared.law.Law.TheVariants.{Total}
use Rattle.stack_mean.specs.Plans.{plans_of}
use Rattle.run_mean.specs.Report.{run_of}
use Rattle.chain_laws.specs.Runs.{TypedStack}
use Rattle.library_rows.specs.OrderStack.{stack}
use Rattle.order_laws.specs.Deliveries.{told, list_of}
use Rattle.order_laws.specs.Said.{report_said}
use Rattle.protocol_laws.specs.Runs.{IsUnforged, IsFair, all_sent}
use Rattle.report_laws.specs.ReadsBack.{IsGiven, report_bytes}
use Rattle.total_laws.specs.Protocol.{order_of, delivery}

-- The stack is one that a file may mean.
abbrev pub IsTyped : Type 0
IsTyped = TypedStack stack

-- What the numbered lines of a script's report say.
abbrev pub said : Script → List Numbered
said s = enumerate_from 1 (report_said stack (run_of stack (plans_of stack) s))

-- No report has a breach of the law `total`.
abbrev pub TotalHolds : Type 0
TotalHolds = (s : Script) → IsFair s → length s.events < 2 ^ 32 → breaches Total (said s) ≡ []

-- The deliveries of a member.
abbrev pub delivered : ℕ → List Entry → List Entry
delivered member entries = list_of whole (delivery 0 member 0 []) entries

-- What a member delivers are the first so many casts of the one order: none is left out, and none comes twice.
abbrev pub DeliversFirst : Type 0
DeliversFirst = (s : Script) (member : ℕ) → IsFair s → length s.events < 2 ^ 32 →
    map told (delivered member (entries_of (said s))) ≡
    take (length (delivered member (entries_of (said s)))) (order_of (all_sent stack s))

-- So an audit of the report that `replay` writes says that it holds, unless the report is too large to be audited.
abbrev pub AuditHolds : Type 0
AuditHolds = (s : Script) → IsGiven s → AllByRecursion IsUnforged s.events → length s.events < 2 ^ 32 →
    is_too_large (report_bytes stack s) ≡ false → audit_of Total (report_bytes stack s) ≡ Ok Holds
