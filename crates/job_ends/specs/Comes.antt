-- What a job gives, whichever it is: what its reads found, what was written, and why it ended so.
use Rattle.std.specs.Prelude.{◌≡◌, ℕ, Bool, List, [], ◌∷◌, Option, Some, None, IfSome, Ok, ◌⊎◌}
use Rattle.std.specs.List.{concat}
use Rattle.std.specs.Option.{option_map}
use Rattle.clap.specs.Walk.{Text}
use Rattle.outside.specs.Count.{Rose}
use Rattle.outside.specs.Shelf.{Shelved, found_in, after_read}
use Rattle.outside.specs.declared.shelf.Shelf as shelves
use Rattle.outside.specs.declared.sink.Sink as outputs
use Rattle.audit_mean.specs.Finding.{AuditFault, audit_of}
use Rattle.audit_mean.specs.declared.law.Law.{Law}
use Rattle.audit_mean.specs.declared.law.Finding.{Finding}
use Rattle.layer_mean.specs.Tree.{LayerTree}
use Rattle.script_mean.specs.Generate.{generate}
use Rattle.script_mean.specs.Script.{script_of}
use Rattle.script_mean.specs.declared.script.Script.{Script}
use Rattle.stack_mean.specs.Plans.{plans_of}
use Rattle.run_mean.specs.Mode.{Mode, bypass}
use Rattle.job_mean.specs.Job.{Job, check, synth, pack, replay, replay_with, explain, load, node, audit}
use Rattle.end_mean.specs.Status.{FileFault, SecondFault, Ended, done, breached, file_refused, report_refused}
use Rattle.end_mean.specs.Status.{words_refused, second_refused, traces_refused, read_failed, write_failed, no_memory}
use Rattle.group_mean.specs.Told.{replay_lines}
use Rattle.run_mean.specs.Tally.{tally, accepted_lines}
use Rattle.miss_mean.specs.Text.{explained_lines}
use Rattle.bypass_mean.specs.Bypasses.{Bypasses}
use Rattle.bypass_mean.specs.Lines.{printed_lines}
use Rattle.pack_mean.specs.Accepted.{Accepts, PackFault, IsFault}
use Rattle.job_ends.specs.Printed.{Lines, packed_file}
use Rattle.bypass_laws.specs.Making.{bypasses_of, simplest}
use Rattle.bypass_laws.specs.Stack.{AreOfStack}
use Rattle.output_mean.specs.Judged.{Means, Refuses}
use Rattle.group_mean.specs.Room.{HasRoom}
use Rattle.output_mean.specs.Output.{finding_line}
use Rattle.program_mean.specs.Second.{second_fault}
use Rattle.program_mean.specs.Headline.{ReadsStack, ReadsTraces, IsNoReport, whole_end}
use Rattle.outside.specs.Tells.{Tells, tells_of}
use Rattle.outside.specs.Lines.{Begins, Gains, Fails}

-- What a job began with and what it left: what the shelf told, its count of faults before and after, and
-- what the output told before and after.
pub record Around : Type 0 where
  pub told : Option Shelved
  pub reads : ℕ
  pub reads_after : ℕ
  pub output : Tells
  pub output_after : Tells

-- What a run began with and what it left, from what the shelf told, its count of faults before and after, and what the
-- output told before and after.
abbrev pub surrounding : Option Shelved → ℕ → ℕ → Tells → Tells → Around
surrounding told reads reads_after output output_after = record {
  told = told;
  reads = reads;
  reads_after = reads_after;
  output = output;
  output_after = output_after;
}

-- What a run began with and what it left, by what a shelf and an output were before and after.
abbrev pub around : {S O : Type 0} → shelves.Ghosts S → outputs.Ghosts O → S → S → O → O → Around
around s o shelf shelf_after out out_after = surrounding (s.told shelf) (s.faults shelf) (s.faults shelf_after)
    (tells_of o out) (tells_of o out_after)

-- Nothing was read and nothing was written.
pub record Nothing (a : Around) : Type 0 where
  pub untouched : a.output_after ≡ a.output
  pub unread : a.reads_after ≡ a.reads

-- How words that are no job end: they are refused, or memory ran out.
abbrev pub NoJob : Around → Ended → Type 0
NoJob a words_refused = Nothing a
NoJob a no_memory = Nothing a
NoJob a _ = ⊥

-- The name of a job's file.
abbrev pub file_name : Job → Text
file_name (check file) = file
file_name (synth file) = file
file_name (pack file) = file
file_name (replay file script mode events wire count) = file
file_name (replay_with file script given events wire count) = file
file_name (explain file script) = file
file_name (load file seed events members raw mode) = file
file_name (node file plan turns me patience mode) = file
file_name (audit file law) = file

-- What the next read of a job's file finds, where the shelf tells.
abbrev pub Finds : Job → Option Shelved → Option (List ℕ) → Type 0
Finds job told found = IfSome told (λ shelf. found_in shelf (file_name job) ≡ found)

-- What the read of its second file finds after that; a job that has none reads as if it were empty.
abbrev pub Beside : Job → Option Shelved → Option (List ℕ) → Type 0
Beside (replay file script mode events wire count) told found =
    IfSome (option_map after_read told) (λ shelf. found_in shelf script ≡ found)
Beside (replay_with file script given events wire count) told found =
    IfSome (option_map after_read told) (λ shelf. found_in shelf script ≡ found)
Beside (explain file script) told found = IfSome (option_map after_read told) (λ shelf. found_in shelf script ≡ found)
Beside (node file plan turns me patience mode) told found =
    IfSome (option_map after_read told) (λ shelf. found_in shelf plan ≡ found)
Beside _ told found = found ≡ Some []

-- What the read of its third file finds after both; a job that has none reads as if it were empty.
abbrev pub After : Job → Option Shelved → Option (List ℕ) → Type 0
After (replay_with file script given events wire count) told found =
    IfSome (option_map after_read (option_map after_read told)) (λ shelf. found_in shelf given ≡ found)
After _ told found = found ≡ Some []

-- The whole output of a check over the bytes of its file, line by line.
pub record Checked (file : List ℕ) (lines : List (List ℕ)) : Type 0 where
  pub stack : List LayerTree
  pub means : Means file stack
  pub written : lines ≡ accepted_lines stack

-- That of a job that makes bypasses: what is printed of the stack's bypasses, those that the definitions make.
pub record Synthesized (print : Lines) (file : List ℕ) (lines : List (List ℕ)) : Type 0 where
  pub stack : List LayerTree
  pub means : Means file stack
  pub bypasses : Bypasses
  pub of_stack : AreOfStack stack bypasses
  pub simplest : bypasses ≡ bypasses_of simplest stack
  pub written : lines ≡ print stack (plans_of stack) bypasses

-- That of an audit.
pub record Audited (file : List ℕ) (law : Law) (lines : List (List ℕ)) : Type 0 where
  pub finding : Finding
  pub found : audit_of law file ≡ Ok finding
  pub written : lines ≡ finding_line finding ∷ []

-- That of a replay.
pub record Replayed (file text : List ℕ) (mode : Mode) (events wire count : Bool) (lines : List (List ℕ)) : Type 0 where
  pub stack : List LayerTree
  pub means : Means file stack
  pub script : Script
  pub spelled : script_of text ≡ Ok script
  pub room : HasRoom stack script.members
  pub written : lines ≡ replay_lines stack (plans_of stack) script mode events wire count

-- That of a replay by the traces of a file.
pub record ReplayedWith (file text third : List ℕ) (events wire count : Bool) (lines : List (List ℕ)) : Type 0 where
  pub stack : List LayerTree
  pub means : Means file stack
  pub script : Script
  pub spelled : script_of text ≡ Ok script
  pub room : HasRoom stack script.members
  pub accepted : Accepts stack third
  pub written : lines ≡ replay_lines stack (plans_of stack) script bypass events wire count

-- That of an explanation.
pub record Explained (file text : List ℕ) (lines : List (List ℕ)) : Type 0 where
  pub stack : List LayerTree
  pub means : Means file stack
  pub script : Script
  pub spelled : script_of text ≡ Ok script
  pub room : HasRoom stack script.members
  pub written : lines ≡ explained_lines means.file stack (plans_of stack) script

-- That of a load.
pub record Loaded (file : List ℕ) (seed events members : ℕ) (raw : Bool) (mode : Mode) (lines : List (List ℕ)) : Type 0
  where
    pub stack : List LayerTree
    pub means : Means file stack
    pub room : HasRoom stack members
    pub written : lines ≡ tally stack (plans_of stack) mode (generate seed events members raw)

abbrev pub IsOutput : Job → (file second third : List ℕ) → (lines : List (List ℕ)) → Type 0
IsOutput (check name) file second third lines = Checked file lines
IsOutput (synth name) file second third lines = Synthesized printed_lines file lines
IsOutput (pack name) file second third lines = Synthesized packed_file file lines
IsOutput (audit name law) file second third lines = Audited file law lines
IsOutput (replay name script mode events wire count) file second third lines =
    Replayed file second mode events wire count lines
IsOutput (replay_with name script given events wire count) file second third lines =
    ReplayedWith file second third events wire count lines
IsOutput (explain name script) file second third lines = Explained file second lines
IsOutput (load name seed events members raw mode) file second third lines =
    Loaded file seed events members raw mode lines
IsOutput _ file second third lines = ⊥

-- The files that a job's reads find have an output.
pub record Good (job : Job) (told : Option Shelved) : Type 0 where
  pub file : List ℕ
  pub second : List ℕ
  pub third : List ℕ
  pub found : Finds job told (Some file)
  pub beside : Beside job told (Some second)
  pub following : After job told (Some third)
  pub lines : List (List ℕ)
  pub output : IsOutput job file second third lines

-- Its stack file is refused.
pub record BadFile (job : Job) (told : Option Shelved) (fault : FileFault) : Type 0 where
  pub file : List ℕ
  pub found : Finds job told (Some file)
  pub reads : ReadsStack job
  pub refused : Refuses file fault

-- Its file is no report.
pub record BadReport (job : Job) (told : Option Shelved) (fault : AuditFault) : Type 0 where
  pub file : List ℕ
  pub found : Finds job told (Some file)
  pub refused : IsNoReport job file fault

-- Its file is good, and its second file is refused, or its members have too many rows.
pub record BadSecond (job : Job) (told : Option Shelved) (fault : SecondFault) : Type 0 where
  pub file : List ℕ
  pub second : List ℕ
  pub found : Finds job told (Some file)
  pub beside : Beside job told (Some second)
  pub stack : List LayerTree
  pub means : Means file stack
  pub refused : second_fault job stack second ≡ Some fault

-- Its first two files are good, and its file of traces is refused.
pub record BadTraces (job : Job) (told : Option Shelved) (fault : PackFault) : Type 0 where
  pub file : List ℕ
  pub second : List ℕ
  pub third : List ℕ
  pub found : Finds job told (Some file)
  pub beside : Beside job told (Some second)
  pub following : After job told (Some third)
  pub reads : ReadsTraces job
  pub stack : List LayerTree
  pub means : Means file stack
  pub fine : second_fault job stack second ≡ None
  pub refused : IsFault stack third fault

-- Its file is good, and its second file isn't found.
pub record NoSecond (job : Job) (told : Option Shelved) : Type 0 where
  pub file : List ℕ
  pub found : Finds job told (Some file)
  pub stack : List LayerTree
  pub means : Means file stack
  pub none : Beside job told None

-- Its first two files are good, and its third isn't found.
pub record NoThird (job : Job) (told : Option Shelved) : Type 0 where
  pub file : List ℕ
  pub second : List ℕ
  pub found : Finds job told (Some file)
  pub beside : Beside job told (Some second)
  pub stack : List LayerTree
  pub means : Means file stack
  pub fine : second_fault job stack second ≡ None
  pub none : After job told None

-- One of its files isn't found.
abbrev pub Unfound : Job → Option Shelved → Type 0
Unfound job told = Finds job told None ⊎ NoSecond job told ⊎ NoThird job told

-- The whole output was written, each line in one put, and the job ended as its file has it.
pub record Whole (job : Job) (a : Around) (end : Ended) : Type 0 where
  pub good : Good job a.told
  pub ends : whole_end job good.file ≡ end
  pub sound : a.reads_after ≡ a.reads
  pub written : Gains a.output a.output_after good.lines

-- A put of the output failed.
pub record CutOff (job : Job) (a : Around) : Type 0 where
  pub good : Good job a.told
  pub sound : a.reads_after ≡ a.reads
  pub written : Fails a.output a.output_after good.lines

-- Memory ran out after a prefix of the output.
pub record Begun (job : Job) (a : Around) : Type 0 where
  pub good : Good job a.told
  pub sound : a.reads_after ≡ a.reads
  pub written : Begins a.output a.output_after (concat good.lines)

-- The job stopped for this cause: no read failed, and nothing was written.
pub record Stopped (Cause : Type 0) (a : Around) : Type 0 where
  pub cause : Cause
  pub sound : a.reads_after ≡ a.reads
  pub untouched : a.output_after ≡ a.output

-- A read failed: the count of the shelf's faults rose, and nothing was written.
pub record Missed (job : Job) (a : Around) : Type 0 where
  pub unfound : Unfound job a.told
  pub rose : Rose a.reads a.reads_after
  pub untouched : a.output_after ≡ a.output

-- How a job ended.
abbrev pub Comes : Job → Around → Ended → Type 0
Comes job a done = Whole job a done
Comes job a breached = Whole job a breached
Comes job a (file_refused fault) = Stopped (BadFile job a.told fault) a
Comes job a (report_refused fault) = Stopped (BadReport job a.told fault) a
Comes job a (second_refused fault) = Stopped (BadSecond job a.told fault) a
Comes job a (traces_refused fault) = Stopped (BadTraces job a.told fault) a
Comes job a read_failed = Missed job a
Comes job a write_failed = CutOff job a
Comes job a no_memory = (a.output_after ≡ a.output) ⊎ Begun job a
Comes job a _ = ⊥

-- Lines of a job that ends like this if all are written: all were, each in one put; or a put failed, or memory ran out.
abbrev pub Writes : List (List ℕ) → Ended → Tells → Tells → Ended → Type 0
Writes lines whole old new done = (whole ≡ done) × Gains old new lines
Writes lines whole old new breached = (whole ≡ breached) × Gains old new lines
Writes lines whole old new write_failed = Fails old new lines
Writes lines whole old new no_memory = Begins old new (concat lines)
Writes lines whole old new _ = ⊥
