-- The program as a whole: from the words and the bytes of the files to what it writes, what it says and its status.
use Rattle.std.specs.Prelude.{◌≡◌, ℕ, ◌+◌, List, [], ◌++◌, length, Option, Some, None, IsSomeAnd, Result, Ok, Err, ◌⊎◌}
use Rattle.std.specs.Prelude.{Bool, false}
use Rattle.clap.specs.Walk.{Text}
use Rattle.outside.specs.Count.{last_count, Rose}
use Rattle.layer_mean.specs.Tree.{LayerTree}
use Rattle.stack_mean.specs.Plan.{Plan}
use Rattle.script_mean.specs.declared.script.Script.{Script}
use Rattle.audit_mean.specs.Finding.{AuditFault, audit_of}
use Rattle.audit_mean.specs.declared.law.Finding.{Finding}
use Rattle.audit_mean.specs.declared.law.Finding.TheVariants.{Breach}
use Rattle.run_mean.specs.Mode.{Mode, layered, bypass}
use Rattle.pack_mean.specs.Accepted.{Accepts, PackFault, IsFault}
use Rattle.job_mean.specs.Job.{Job, check, synth, pack, replay, replay_with, explain, load, node, audit, job_of_words}
use Rattle.end_mean.specs.Status.{FileFault, SecondFault, Ended, done, breached, file_refused, report_refused}
use Rattle.end_mean.specs.Status.{words_refused, second_refused, traces_refused, read_failed, write_failed, link_failed}
use Rattle.end_mean.specs.Status.{no_memory, status_number, error_line}
use Rattle.run_mean.specs.Journal.{Heard, Handed}
use Rattle.run_mean.specs.Report.{report_lines}
use Rattle.group_mean.specs.Told.{replay_lines}
use Rattle.output_mean.specs.Judged.{Means, IsGood, Refuses}
use Rattle.group_mean.specs.Node.{Surroundings, node_words, failures}
use Rattle.output_mean.specs.Output.{Checks, Replays, Explains, Loads, Serves, CannotListen, GoesDeaf, Audits}
use Rattle.program_mean.specs.Second.{second_fault}

-- A count of faults before and after a run.
pub record Counted : Type 0 where
  pub before : ℕ
  pub after : ℕ

-- All that surrounded a run of the program: its words; the bytes of the job's file, of its second and of its third,
-- each where a read met it; what a node's clock and network told and were handed; the counts of faults of the shelf, of
-- the output, of the network's listens and receives, of its sends and of the standard error; what the output and the
-- standard error gained, and the status.
pub record Run : Type 0 where
  pub words : List Text
  pub file : Option (List ℕ)
  pub second : Option (List ℕ)
  pub third : Option (List ℕ)
  pub surroundings : Surroundings
  pub sent : List Handed
  pub reads : Counted
  pub puts : Counted
  pub links : Counted
  pub sends : Counted
  pub errors : Counted
  pub written : List ℕ
  pub said : List ℕ
  pub status : ℕ

-- A count of faults rose over a run.
abbrev pub Fails : Counted → Type 0
Fails count = Rose count.before count.after

-- A count of faults stood still over a run.
abbrev pub IsSound : Counted → Type 0
IsSound count = count.after ≡ count.before

-- A count rose by `failures`, unless it stands at its last value.
abbrev pub RoseBy : Counted → ℕ → Type 0
RoseBy count failures = (count.after ≡ count.before + failures) ⊎ (count.after ≡ last_count)

-- Whether a job has a second file; one that has none reads as if it were empty.
abbrev pub second_for : Job → Option (List ℕ) → Option (List ℕ)
second_for (replay name script mode events wire count) second = second
second_for (replay_with name script given events wire count) second = second
second_for (explain name script) second = second
second_for (node name plan turns me patience mode) second = second
second_for _ second = Some []

-- Whether a job has a third file, which is one of traces; one that has none reads as if it were empty.
abbrev pub third_for : Job → Option (List ℕ) → Option (List ℕ)
third_for (replay_with name script given events wire count) third = third
third_for _ third = Some []

-- What is printed of a stack's bypasses: their guarded handlers, to be read, or their traces, to be run.
pub data Printing : Type 0 where
  handlers : Printing
  traces : Printing

-- The texts of both, which are given separately: they are defined with the bypasses.
abbrev pub Printer : Type 0
Printer = Printing → List LayerTree → List ℕ

-- What is printed of a stack, over the bytes of its file.
pub record Prints (print : List LayerTree → List ℕ) (file out : List ℕ) : Type 0 where
  pub stack : List LayerTree
  pub means : Means file stack
  pub written : out ≡ print stack

-- A file of traces was read, and is accepted for the stack that the stack file means.
pub record TakesTraces (file : List ℕ) (third : Option (List ℕ)) : Type 0 where
  pub stack : List LayerTree
  pub means : Means file stack
  pub accepted : IsSomeAnd third (Accepts stack)

-- Nothing was handed to the network: a node alone hands it something.
abbrev pub HandsNothing : Run → Type 0
HandsNothing r = r.sent ≡ []

-- The whole output of a job over the bytes of its files.
abbrev pub WritesOf : Printer → Job → Run → (file second out : List ℕ) → Type 0
WritesOf print (check name) r file second out = Checks file out × HandsNothing r
WritesOf print (synth name) r file second out = Prints (print handlers) file out × HandsNothing r
WritesOf print (pack name) r file second out = Prints (print traces) file out × HandsNothing r
WritesOf print (replay name script mode events wire count) r file second out =
    Replays file second mode events wire count out × HandsNothing r
WritesOf print (replay_with name script given events wire count) r file second out =
    Replays file second bypass events wire count out × TakesTraces file r.third × HandsNothing r
WritesOf print (explain name script) r file second out = Explains file second out × HandsNothing r
WritesOf print (load name seed events members raw mode) r file second out =
    Loads file seed events members raw mode out × HandsNothing r
WritesOf print (node name plan turns me patience mode) r file second out =
    Serves file second (node_words turns me patience mode) r.surroundings out r.sent
WritesOf print (audit name law) r file second out = Audits file law out × HandsNothing r

-- How an audit ends if its whole output was written: one that found a breach has an end of its own.
abbrev pub end_found : Result Finding AuditFault → Ended
end_found (Ok (Breach first second)) = breached
end_found _ = done

-- How a job ends if its whole output was written: only an audit may have found a breach.
abbrev pub whole_end : Job → (file : List ℕ) → Ended
whole_end (audit name law) file = end_found (audit_of law file)
whole_end _ file = done

-- The words are a job, no read failed, its file and its second file were read, and something holds of these.
abbrev pub OfJob : Run → (Job → (file second : List ℕ) → Type 0) → Type 0
OfJob r Holds = IsSomeAnd (job_of_words r.words) (λ job. IsSound r.reads × IsSomeAnd r.file (λ file.
    IsSomeAnd (second_for job r.second) (λ second. Holds job file second)))

-- These bytes are the whole output of a run's job.
abbrev pub Writes : Printer → Run → List ℕ → Type 0
Writes print r out = OfJob r (λ job file second. WritesOf print job r file second out)

-- No listen of the network failed, and no receive except those that are told.
abbrev pub HeardAll : Run → Type 0
HeardAll r = RoseBy r.links (failures r.surroundings.heard)

-- What was written is the whole output of a run's job, this is how the job ends, and no write failed.
abbrev pub WritesWhole : Printer → Run → Ended → Type 0
WritesWhole print r end =
    OfJob r (λ job file second. WritesOf print job r file second r.written × (whole_end job file ≡ end)) ×
    IsSound r.puts × HeardAll r

-- A run whose clock and network told more, and to whose network more was handed.
abbrev pub gone_on : Run → List ℕ → List Heard → List Handed → Run
gone_on r clock heard sent = record r {
  surroundings = record r.surroundings { clock = r.surroundings.clock ++ clock; heard = r.surroundings.heard ++ heard };
  sent = r.sent ++ sent;
}

-- A run was broken off: what was written is a prefix of a whole output, and what was handed to the network is a prefix
-- of what would be handed on with that output, had a node's clock and network been asked further and told this.
pub record Began (print : Printer) (r : Run) : Type 0 where
  pub clock : List ℕ
  pub heard : List Heard
  pub sent : List Handed
  pub rest : List ℕ
  pub whole : Writes print (gone_on r clock heard sent) (r.written ++ rest)
  pub heard_all : HeardAll r

-- Nothing was written, nothing was handed to the network, and nothing failed there.
pub record WroteNothing (r : Run) : Type 0 where
  pub written : r.written ≡ []
  pub sent : r.sent ≡ []
  pub sound : IsSound r.links

-- The file of a job is a stack file, except that an audit's is a report.
abbrev pub ReadsStack : Job → Type 0
ReadsStack (audit name law) = ⊥
ReadsStack _ = Unit {0}

-- The words are a job whose stack file was read without a fault and is refused.
pub record RefusesFile (r : Run) (fault : FileFault) : Type 0 where
  pub sound : IsSound r.reads
  pub job : IsSomeAnd (job_of_words r.words) ReadsStack
  pub refused : IsSomeAnd r.file (λ file. Refuses file fault)
  pub nothing : WroteNothing r

-- A job has a file of traces: it is a replay by these.
abbrev pub ReadsTraces : Job → Type 0
ReadsTraces (replay_with name script given events wire count) = Unit {0}
ReadsTraces _ = ⊥

-- A job is an audit, and its file is no report.
abbrev pub IsNoReport : Job → (file : List ℕ) → AuditFault → Type 0
IsNoReport (audit name law) file fault = audit_of law file ≡ Err fault
IsNoReport _ file fault = ⊥

-- The words are an audit whose file was read without a fault and is refused.
pub record RefusesReport (r : Run) (fault : AuditFault) : Type 0 where
  pub refused : OfJob r (λ job file second. IsNoReport job file fault)
  pub nothing : WroteNothing r

-- The words are a job whose file is good; its second file, if it has one, was read without a fault; and that file or
-- the job's members are refused.
pub record RefusesSecond (r : Run) (fault : SecondFault) : Type 0 where
  pub stack : List LayerTree
  pub refused : OfJob r (λ job file second. Means file stack × (second_fault job stack second ≡ Some fault))
  pub nothing : WroteNothing r

-- A job's file means a stack, over which its second file isn't refused.
pub record AreGood (job : Job) (file second : List ℕ) : Type 0 where
  pub stack : List LayerTree
  pub means : Means file stack
  pub fine : second_fault job stack second ≡ None

-- The words are a replay by the traces of a file whose other files are good; that file was read without a fault, and is
-- refused.
pub record RefusesTraces (r : Run) (fault : PackFault) : Type 0 where
  pub stack : List LayerTree
  pub others : OfJob r (λ job file second. ReadsTraces job × Means file stack × (second_fault job stack second ≡ None))
  pub refused : IsSomeAnd r.third (λ text. IsFault stack text fault)
  pub nothing : WroteNothing r

-- A job's files up to one that couldn't be read: its first; or its second, where the first is good; or its third, where
-- both others are good.
abbrev pub Unread : Run → Job → Type 0
Unread r job = (r.file ≡ None) ⊎ ((second_for job r.second ≡ None) × IsSomeAnd r.file IsGood)
    ⊎ ((third_for job r.third ≡ None) ×
    IsSomeAnd r.file (λ file. IsSomeAnd (second_for job r.second) (AreGood job file)))

-- The words are a job, and a read failed: that of its first file, or that of a file after good ones.
pub record ReadsFailed (r : Run) : Type 0 where
  pub rose : Fails r.reads
  pub unread : IsSomeAnd (job_of_words r.words) (Unread r)
  pub nothing : WroteNothing r

-- The words are a node's job whose files are good, and a listen failed, or one more receive failed than is borne.
abbrev pub LinksFail : Job → Run → (file second : List ℕ) → Type 0
LinksFail (node name plan turns me patience mode) r file second = let words = node_words turns me patience mode in
    (CannotListen file second words r.surroundings r.written r.sent × RoseBy r.links 1)
    ⊎ (GoesDeaf file second words r.surroundings r.written r.sent × HeardAll r)
LinksFail _ r file second = ⊥

-- How a run may end, with the cause of each status: what went well before stands with each. Want of memory is free.
abbrev pub Ends : Printer → Run → Ended → Type 0
Ends print r done = WritesWhole print r done
Ends print r breached = WritesWhole print r breached
Ends print r (file_refused fault) = RefusesFile r fault
Ends print r (report_refused fault) = RefusesReport r fault
Ends print r words_refused = (job_of_words r.words ≡ None) × IsSound r.reads × WroteNothing r
Ends print r (second_refused fault) = RefusesSecond r fault
Ends print r (traces_refused fault) = RefusesTraces r fault
Ends print r read_failed = ReadsFailed r
Ends print r write_failed = Fails r.puts × Began print r
Ends print r link_failed = IsSound r.puts × OfJob r (λ job file second. LinksFail job r file second)
Ends print r no_memory = WroteNothing r ⊎ Began print r

-- The whole bytes begin with this part.
pub record Begins (whole part : List ℕ) : Type 0 where
  pub rest : List ℕ
  pub is : whole ≡ part ++ rest

-- The line of a cause was said whole, or a prefix of it where the standard error failed or memory ran out, which is
-- status 7.
pub data Says (r : Run) (end : Ended) : Type 0 where
  whole : r.said ≡ error_line end → r.status ≡ status_number end → Says r end
  cut_off : Begins (error_line end) r.said → Fails r.errors → r.status ≡ status_number end → Says r end
  out_of_memory : Begins (error_line end) r.said → r.status ≡ 7 → Says r end

-- A run of the program: it ended in one way, and that was said. The sends that failed are those that are told.
pub record Ran (print : Printer) (r : Run) : Type 0 where
  pub end : Ended
  pub ends : Ends print r end
  pub says : Says r end
  pub lost : RoseBy r.sends (length r.surroundings.lost)

-- Whatever stack a file means and whatever script is replayed over it, the run with bypasses writes exactly the report
-- of the layered meaning, with the events or without.
abbrev pub BypassesReportAsLayers : Type 0
BypassesReportAsLayers = (file script_text out : List ℕ) (events : Bool) →
    Replays file script_text bypass events false false out → Replays file script_text layered events false false out

-- What is written of a script without the events, the packets' bytes and the number of visits is its report, in either
-- mode.
abbrev pub OneReport : Type 0
OneReport = (stack : List LayerTree) (plans : List Plan) (script : Script) (mode : Mode) →
    replay_lines stack plans script mode false false false ≡ report_lines stack plans script
