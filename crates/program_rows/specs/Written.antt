-- Whole runs, from the bytes of both files to the bytes that are written.
use Rattle.std.specs.Prelude.{ℕ, List, ◌++◌, codes, true, false}
use Rattle.run_mean.specs.Mode.{layered, bypass}
use Rattle.file_mean.specs.CounterFile as counter
use Rattle.library_rows.specs.WholeStack as whole
use Rattle.audit_mean.specs.declared.law.Law.TheVariants.{Sender, Total}
use Rattle.output_mean.specs.Output.{Checks, Replays, Explains, Audits}
use Rattle.program_rows.specs.FlipFile as flip
use Rattle.program_rows.specs.LateFile as late

-- A script of a cast and a delivery.
abbrev pub script : List ℕ
script = codes "group 1 stamp 7 members 3\n" ++ codes "cast 0 6869\n" ++ codes "give 1 1\n"

abbrev pub report : List ℕ
report = codes "packet 1 0 all cnt.num(0) 6869\n" ++ codes "deliver 1 cast 0 6869\n" ++ codes "end 2\n"

-- The counter layer's file and this script are replayed to this report, in either mode.
abbrev pub ReplaysCounter : Type 0
ReplaysCounter = Replays counter.text script layered false false false report ×
    Replays counter.text script bypass false false false report

-- With bypasses, and with the packet's bytes and the number of visits.
abbrev pub short_report : List ℕ
short_report =
    codes "packet 1 0 all cnt.num(0) 6869\n" ++ codes "wire 1 e60000000100000007000000000000000700ff00000000006869\n"
    ++ codes "deliver 1 cast 0 6869\n" ++ codes "end 2\n" ++ codes "visits 0\n"

abbrev pub ReplaysShort : Type 0
ReplaysShort = Replays counter.text script bypass false true true short_report

-- With the events.
abbrev pub told_report : List ℕ
told_report =
    codes "> cast 0 6869\n" ++ codes "packet 1 0 all cnt.num(0) 6869\n" ++ codes "> give 1 1\n"
    ++ codes "deliver 1 cast 0 6869\n" ++ codes "end 2\n"

abbrev pub ReplaysTold : Type 0
ReplaysTold = Replays counter.text script bypass true false false told_report

-- The stack of the whole library is accepted.
abbrev pub ChecksLibrary : Type 0
ChecksLibrary = Checks whole.text (codes "accepted 15\n")

-- Three casts of a layer with two common cases: each is a common step, and its packet is short under the plan of its
-- case.
abbrev pub flips : List ℕ
flips = codes "group 1 stamp 1 members 2\n" ++ codes "cast 0 -\n" ++ codes "cast 0 -\n" ++ codes "cast 0 -\n"

abbrev pub flip_report : List ℕ
flip_report =
    codes "packet 1 0 all flip.a(1) -\n" ++ codes "wire 1 e60000000100000001000000000000000300ff0000000001\n"
    ++ codes "packet 2 0 all flip.b(2) -\n" ++ codes "wire 2 e60000000100000001000000000000000300ff0200000002\n"
    ++ codes "packet 3 0 all flip.a(3) -\n" ++ codes "wire 3 e60000000100000001000000000000000300ff0000000003\n"
    ++ codes "end 3\n" ++ codes "visits 0\n"

abbrev pub ReplaysFlips : Type 0
ReplaysFlips = Replays flip.text flips bypass false true true flip_report

-- A packet of the counter layer that is given again isn't the one that is due: the condition in line 9 of its file
-- fails.
abbrev pub twice : List ℕ
twice = codes "group 1 stamp 7 members 3\n" ++ codes "cast 0 6869\n" ++ codes "give 1 1\n" ++ codes "give 1 1\n" ++
    codes "state 1\n"

abbrev pub ExplainsCounter : Type 0
ExplainsCounter = Explains counter.text twice (codes "miss 3 1 plan 0 visit 1 place 0 cnt line 9\n" ++ codes "end 4\n")

-- Of two casts the first is odd: it lacks a shape in the first case, and the second goes another way in line 7 of its
-- file.
abbrev pub casts : List ℕ
casts = codes "group 1 stamp 1 members 1\n" ++ codes "cast 0 -\n" ++ codes "cast 0 -\n"

abbrev pub ExplainsLate : Type 0
ExplainsLate = Explains late.text casts (codes "miss 1 0 cast absent loop 0 or visit 1 place 0 late line 7\n" ++
    codes "end 2\n")

-- A report in which two members deliver two casts in different orders: that is a breach of the one order of all casts,
-- and not of the order of each peer's.
abbrev pub crossed_report : List ℕ
crossed_report = codes "deliver 0 cast 0 61\n" ++ codes "deliver 1 cast 1 62\n" ++ codes "deliver 1 cast 0 61\n" ++
    codes "end 3\n"

abbrev pub AuditsCrossed : Type 0
AuditsCrossed = Audits crossed_report Total (codes "breach 1 2\n") × Audits crossed_report Sender (codes "holds\n")
