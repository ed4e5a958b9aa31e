-- What the read of a file of traces answers, and what a replay by these does.
use Rattle.std.specs.Prelude.{◌≡◌, ◌⊎◌, ℕ, ◌<◌, Bool, List, Option, Some, IfSome, Result, Ok, Err}
use Rattle.std.specs.List.{concat}
use Rattle.clap.specs.Walk.{Text}
use Rattle.outside.specs.Lines.{Begins, Gains, Fails}
use Rattle.outside.specs.Shelf.{Shelved, found_in}
use Rattle.pack_judge.specs.declared.error.BypassError.{BypassError}
use Rattle.pack_judge.specs.declared.error.BypassError.TheVariants.{TooLarge, Line, Differs, Memory}
use Rattle.bypass_laws.specs.Stack.{AreOfStack}
use Rattle.end_mean.specs.Status.{Ended, done, second_refused, traces_refused, read_failed, write_failed, no_memory}
use Rattle.end_mean.specs.Status.{too_many_rows}
use Rattle.file_jobs.specs.Stack.{IsMissed}
use Rattle.group_mean.specs.Room.{HasRoom}
use Rattle.job_ends.specs.Comes.{Around}
use Rattle.job_ends.specs.Shown.{shown_end}
use Rattle.job_ends.specs.declared.ending.Ending.{Ending}
use Rattle.layer_mean.specs.Tree.{LayerTree}
use Rattle.pack_mean.specs.Accepted.{Accepts, IsFault, PackFault, too_large, bad_line, differs}
use Rattle.run_mean.specs.Mode.{bypass}
use Rattle.group_mean.specs.Told.{replay_lines}
use Rattle.script_mean.specs.declared.script.Script.{Script}
use Rattle.stack_mean.specs.Acceptance.{rows_of, most_rows}
use Rattle.stack_mean.specs.Plans.{plans_of}
use Rattle.trace_core.specs.Bypasses.{bypasses_tree}
use Rattle.trace_core.specs.declared.bypass.Bypasses.{Bypasses}

-- How a job ends whose file of traces is refused.
abbrev pub refused_as : BypassError → Ended
refused_as TooLarge = traces_refused too_large
refused_as (Line line) = traces_refused (bad_line line)
refused_as (Differs entry case act) = traces_refused (differs entry case act)
refused_as Memory = no_memory

-- Why a text holds no traces that are accepted for a stack; want of memory says nothing of it.
abbrev pub RefusedTraces : List LayerTree → List ℕ → Ended → Type 0
RefusedTraces stack text (traces_refused fault) = IsFault stack text fault
RefusedTraces stack text no_memory = Unit {0}
RefusedTraces stack text _ = ⊥

-- The bypasses of the traces that a text holds for a stack, or why it is refused.
abbrev pub JudgesTraces : List LayerTree → List ℕ → Result Bypasses Ending → Type 0
JudgesTraces stack text (Ok b) = Accepts stack text × AreOfStack stack (bypasses_tree b)
JudgesTraces stack text (Err ending) = RefusedTraces stack text (shown_end ending)

-- The next read of this name found traces that are accepted for a stack.
pub record AreTraces (stack : List LayerTree) (name : Text) (told : Option Shelved) (reads reads_after : ℕ) : Type 0
  where
    pub text : List ℕ
    pub found : IfSome told (λ shelf. found_in shelf name ≡ Some text)
    pub accepted : Accepts stack text
    pub sound : reads_after ≡ reads

-- It found a file that is refused, for this fault.
pub record AreRefused (stack : List LayerTree) (name : Text) (told : Option Shelved) (reads reads_after : ℕ)
    (fault : PackFault) : Type 0 where
  pub text : List ℕ
  pub found : IfSome told (λ shelf. found_in shelf name ≡ Some text)
  pub refused : IsFault stack text fault
  pub sound : reads_after ≡ reads

-- How a job ends at its file of traces.
abbrev pub StopsAtTraces : List LayerTree → Text → Option Shelved → (reads reads_after : ℕ) → Ended → Type 0
StopsAtTraces stack name told reads reads_after (traces_refused fault) =
    AreRefused stack name told reads reads_after fault
StopsAtTraces stack name told reads reads_after read_failed = IsMissed name told reads reads_after
StopsAtTraces stack name told reads reads_after no_memory = Unit {0}
StopsAtTraces stack name told reads reads_after _ = ⊥

-- The bypasses that were read, which are the stack's, or how the job ends.
abbrev pub FetchesTraces : List LayerTree → Text → Option Shelved → (reads reads_after : ℕ) → Result Bypasses Ending →
    Type 0
FetchesTraces stack name told reads reads_after (Ok b) = AreTraces stack name told reads reads_after ×
    AreOfStack stack (bypasses_tree b)
FetchesTraces stack name told reads reads_after (Err ending) =
    StopsAtTraces stack name told reads reads_after (shown_end ending)

-- A script was played by accepted traces over a stack whose members have room, and `Came` is so of what was put out.
pub record PlayedSo (Came : Type 0) (stack : List LayerTree) (s : Script) (name : Text) (a : Around) : Type 0 where
  pub room : HasRoom stack s.members
  pub traces : AreTraces stack name a.told a.reads a.reads_after
  pub came : Came

-- The lines of a replay by bypasses.
abbrev pub lines_of : List LayerTree → Script → (events wire count : Bool) → List (List ℕ)
lines_of stack s events wire count = replay_lines stack (plans_of stack) s bypass events wire count

-- Nothing was put out by members that have room: the job ended at its traces.
pub record EndedSo (stack : List LayerTree) (s : Script) (name : Text) (a : Around) (end : Ended) : Type 0 where
  pub room : HasRoom stack s.members
  pub stops : StopsAtTraces stack name a.told a.reads a.reads_after end
  pub untouched : a.output_after ≡ a.output

-- Members have too many rows: nothing was read, and nothing put out.
pub record HasNoRoom (stack : List LayerTree) (s : Script) (a : Around) : Type 0 where
  pub rows : most_rows < rows_of stack s.members
  pub sound : a.reads_after ≡ a.reads
  pub untouched : a.output_after ≡ a.output

-- How a replay by traces ends over a stack and a script that are good, of which the rows are judged first, and then the
-- traces.
abbrev pub PlaysTraces : List LayerTree → Script → (name : Text) → (events wire count : Bool) → Around → Ended → Type 0
PlaysTraces stack s name events wire count a done =
    PlayedSo (Gains a.output a.output_after (lines_of stack s events wire count))
    stack s name a
PlaysTraces stack s name events wire count a (second_refused too_many_rows) = HasNoRoom stack s a
PlaysTraces stack s name events wire count a (traces_refused fault) = EndedSo stack s name a (traces_refused fault)
PlaysTraces stack s name events wire count a read_failed = EndedSo stack s name a read_failed
PlaysTraces stack s name events wire count a write_failed =
    PlayedSo (Fails a.output a.output_after (lines_of stack s events wire count)) stack s name a
PlaysTraces stack s name events wire count a no_memory = (a.output_after ≡ a.output)
    ⊎ PlayedSo (Begins a.output a.output_after (concat (lines_of stack s events wire count))) stack s name a
PlaysTraces stack s name events wire count a _ = ⊥
