-- What a run of the program does.
use Rattle.std.specs.Prelude.{◌≡◌, ◌⊎◌, ℕ, ◌<◌, List, [], ◌∷◌, codes, Option, Some, None, IfSome, Ok, Err}
use Rattle.std.specs.Option.{option_map}
use Rattle.clap.specs.Walk.{Text}
use Rattle.end_mean.specs.Status.{FileFault, Ended, done, breached, file_refused, second_refused, too_many_rows}
use Rattle.end_mean.specs.Status.{misspelled, read_failed, write_failed, no_memory}
use Rattle.layer_mean.specs.Tree.{LayerTree}
use Rattle.outside.specs.Count.{Rose}
use Rattle.outside.specs.Lines.{Begins, Fails, Gains}
use Rattle.outside.specs.Said.{Errors, SaysLine}
use Rattle.outside.specs.Shelf.{Shelved, found_in, after_read}
use Rattle.output_mean.specs.Judged.{Means, Refuses}
use Rattle.script_mean.specs.Script.{ScriptFault, script_of}
use Rattle.script_mean.specs.declared.script.Script.{Script}
use Rattle.stack_mean.specs.Acceptance.{most_rows, rows_of}
use Rattle.job_ends.specs.Comes.{Around, NoJob}
use Rattle.job_ends.specs.Shown.{Said}
use Rattle.bound_mean.specs.Told.{AreGiven, Finish, ended, stopped, IsOutput}
use Rattle.bound_mean.specs.Words.{Request, request_of}

-- What the read of the stack file finds, where the shelf tells.
abbrev pub Finds : Request → Option Shelved → Option (List ℕ) → Type 0
Finds r told found = IfSome told (λ shelf. found_in shelf r.file ≡ found)

-- What the read of the acts finds after that.
abbrev pub FindsActs : Request → Option Shelved → Option (List ℕ) → Type 0
FindsActs r told found = IfSome (option_map after_read told) (λ shelf. found_in shelf r.acts ≡ found)

-- Both files were found, and this is what is written.
pub record Good (r : Request) (told : Option Shelved) (reads reads_after : ℕ) (finish : Finish) : Type 0 where
  pub file : List ℕ
  pub acts : List ℕ
  pub found : Finds r told (Some file)
  pub beside : FindsActs r told (Some acts)
  pub text : List ℕ
  pub output : IsOutput r finish file acts text
  pub sound : reads_after ≡ reads

-- All was written, in one put.
pub record Whole (r : Request) (a : Around) (finish : Finish) : Type 0 where
  pub good : Good r a.told a.reads a.reads_after finish
  pub written : Gains a.output a.output_after (good.text ∷ [])

-- The put failed.
pub record CutOff (r : Request) (a : Around) : Type 0 where
  pub finish : Finish
  pub good : Good r a.told a.reads a.reads_after finish
  pub written : Fails a.output a.output_after (good.text ∷ [])

-- Memory ran out in the put.
pub record Begun (r : Request) (a : Around) : Type 0 where
  pub finish : Finish
  pub good : Good r a.told a.reads a.reads_after finish
  pub written : Begins a.output a.output_after good.text

-- The stack file was found and is refused for this cause, and nothing was written.
pub record BadFile (r : Request) (a : Around) (fault : FileFault) : Type 0 where
  pub file : List ℕ
  pub found : Finds r a.told (Some file)
  pub refused : Refuses file fault
  pub sound : a.reads_after ≡ a.reads
  pub untouched : a.output_after ≡ a.output

-- The stack file is good, and the acts were found and are refused for this cause; and nothing was written.
pub record BadActs (r : Request) (a : Around) (fault : ScriptFault) : Type 0 where
  pub file : List ℕ
  pub acts : List ℕ
  pub found : Finds r a.told (Some file)
  pub beside : FindsActs r a.told (Some acts)
  pub stack : List LayerTree
  pub means : Means file stack
  pub refused : script_of acts ≡ Err fault
  pub sound : a.reads_after ≡ a.reads
  pub untouched : a.output_after ≡ a.output

-- Both are good, but the members would keep too many rows, and nothing was written.
pub record Crowded (r : Request) (a : Around) : Type 0 where
  pub file : List ℕ
  pub acts : List ℕ
  pub found : Finds r a.told (Some file)
  pub beside : FindsActs r a.told (Some acts)
  pub stack : List LayerTree
  pub script : Script
  pub given : AreGiven file acts stack script
  pub crowded : most_rows < rows_of stack script.members
  pub sound : a.reads_after ≡ a.reads
  pub untouched : a.output_after ≡ a.output

-- The stack file is good, and there are no acts.
pub record NoActs (r : Request) (told : Option Shelved) : Type 0 where
  pub file : List ℕ
  pub found : Finds r told (Some file)
  pub stack : List LayerTree
  pub means : Means file stack
  pub none : FindsActs r told None

-- A read failed: the count of the shelf's faults rose, and nothing was written.
pub record Missed (r : Request) (a : Around) : Type 0 where
  pub unfound : Finds r a.told None ⊎ NoActs r a.told
  pub rose : Rose a.reads a.reads_after
  pub untouched : a.output_after ≡ a.output

-- How a check ended.
abbrev pub Checks : Request → Around → Finish → Type 0
Checks r a (ended done) = Whole r a (ended done)
Checks r a (ended breached) = Whole r a (ended breached)
Checks r a stopped = Whole r a stopped
Checks r a (ended (file_refused fault)) = BadFile r a fault
Checks r a (ended (second_refused (misspelled fault))) = BadActs r a fault
Checks r a (ended (second_refused too_many_rows)) = Crowded r a
Checks r a (ended read_failed) = Missed r a
Checks r a (ended write_failed) = CutOff r a
Checks r a (ended no_memory) = (a.output_after ≡ a.output) ⊎ Begun r a
Checks r a _ = ⊥

-- How words that are no check end.
abbrev pub NoCheck : Around → Finish → Type 0
NoCheck a (ended end) = NoJob a end
NoCheck a stopped = ⊥

-- How a run ended whose words ask for this check, or for none.
abbrev pub Comes : Option Request → Around → Finish → Type 0
Comes (Some r) a finish = Checks r a finish
Comes None a finish = NoCheck a finish

-- What is said of an end: that of a job, or that the time was up, with a status of its own.
abbrev pub SaidSo : Finish → Errors → Type 0
SaidSo (ended end) e = Said end e
SaidSo stopped e = SaysLine (codes "unfinished\n") 10 e

-- A run of these words: it ended in one way, and that was said.
pub record Runs (words : List Text) (a : Around) (e : Errors) : Type 0 where
  pub finish : Finish
  pub came : Comes (request_of words) a finish
  pub said : SaidSo finish e
