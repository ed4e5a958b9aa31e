-- The laws that `fifo` keeps in every script without raw datagrams.
use Rattle.std.specs.Prelude.{◌≡◌, ℕ, ◌<◌, ◌^◌, false, List, [], map, length, take, Ok}
use Rattle.std.specs.List.{AllByRecursion, enumerate_from}
use Rattle.script_mean.specs.declared.script.Script.{Script}
use Rattle.audit_mean.specs.Clash.{of_each_peer}
use Rattle.audit_mean.specs.Finding.{breaches, audit_of}
use Rattle.audit_mean.specs.Segment.{Entry, Numbered, entries_of}
use Rattle.audit_mean.specs.Text.{is_too_large}
use Rattle.audit_mean.specs.declared.law.Finding.TheVariants.{Holds}
use Rattle.audit_mean.specs.declared.law.Law.TheVariants.{Sender}
use Rattle.stack_mean.specs.Plans.{plans_of}
use Rattle.run_mean.specs.Report.{run_of}
use Rattle.chain_laws.specs.Runs.{TypedStack}
use Rattle.order_laws.specs.Deliveries.{told, list_of}
use Rattle.order_laws.specs.Said.{report_said}
use Rattle.protocol_laws.specs.Runs.{IsUnforged, IsFair, all_sent}
use Rattle.report_laws.specs.ReadsBack.{IsGiven, report_bytes}
use Rattle.fifo_laws.specs.Layer.{stack}
use Rattle.fifo_laws.specs.Protocol.{casts_of, delivery}

-- The stack is one that a file may mean.
abbrev pub IsTyped : Type 0
IsTyped = TypedStack stack

-- What the numbered lines of a script's report say.
abbrev pub said : Script → List Numbered
said s = enumerate_from 1 (report_said stack (run_of stack (plans_of stack) s))

-- No report has a breach of the law `sender`.
abbrev pub SenderHolds : Type 0
SenderHolds = (s : Script) → IsFair s → length s.events < 2 ^ 32 → breaches Sender (said s) ≡ []

-- The deliveries of a member from a peer.
abbrev pub delivered : (member peer : ℕ) → List Entry → List Entry
delivered member peer entries = list_of of_each_peer (delivery 0 member peer []) entries

-- What a member delivers of a peer are the first so many of the peer's casts, in the order in which they were cast:
-- none is left out, and none comes twice.
abbrev pub DeliversFirst : Type 0
DeliversFirst = (s : Script) (member peer : ℕ) → IsFair s → length s.events < 2 ^ 32 →
    map told (delivered member peer (entries_of (said s))) ≡
    take (length (delivered member peer (entries_of (said s)))) (casts_of (all_sent stack s) peer)

-- So an audit of the report that `replay` writes says that it holds, unless the report is too large to be audited.
abbrev pub AuditHolds : Type 0
AuditHolds = (s : Script) → IsGiven s → AllByRecursion IsUnforged s.events → length s.events < 2 ^ 32 →
    is_too_large (report_bytes stack s) ≡ false → audit_of Sender (report_bytes stack s) ≡ Ok Holds
