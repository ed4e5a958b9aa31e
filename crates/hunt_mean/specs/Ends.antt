-- What a run of the program does.
use Rattle.std.specs.Prelude.{◌≡◌, ◌⊎◌, ℕ, ◌<◌, ◌≤◌, List, [], ◌∷◌, ◌++◌, codes, Option, Some, None, IfSome}
use Rattle.std.specs.Fmt.{decimal}
use Rattle.clap.specs.Walk.{Text}
use Rattle.end_mean.specs.Status.{FileFault, Ended, done, breached, file_refused, second_refused, too_many_rows}
use Rattle.end_mean.specs.Status.{read_failed, write_failed, no_memory}
use Rattle.layer_mean.specs.Tree.{LayerTree}
use Rattle.outside.specs.Count.{Rose}
use Rattle.outside.specs.Lines.{Begins, Fails, Gains}
use Rattle.outside.specs.Said.{Errors}
use Rattle.outside.specs.Shelf.{Shelved, found_in}
use Rattle.output_mean.specs.Judged.{Means, Refuses}
use Rattle.stack_mean.specs.Acceptance.{most_rows, rows_of}
use Rattle.job_ends.specs.Comes.{Around, NoJob}
use Rattle.job_ends.specs.Shown.{Said}
use Rattle.hunt_mean.specs.Find.{IsFind}
use Rattle.hunt_mean.specs.Words.{Request, request_of}

-- The line that says in how many runs no breach was found.
abbrev pub holds_line : ℕ → List ℕ
holds_line runs = codes "holds " ++ decimal runs ++ codes "\n"

-- The bytes of a file mean a stack, over which members have room, and the text tells in how many runs no breach was
-- found: in all that were asked for, where the time doesn't count.
pub record IsHeld (r : Request) (file text : List ℕ) : Type 0 where
  pub stack : List LayerTree
  pub means : Means file stack
  pub room : rows_of stack r.members ≤ most_rows
  pub runs : ℕ
  pub few : runs ≤ r.runs
  pub all : r.seconds ≡ 0 → runs ≡ r.runs
  pub told : text ≡ holds_line runs

-- What a hunt that ends so writes over the bytes of its file.
abbrev pub IsOutput : Request → Ended → (file text : List ℕ) → Type 0
IsOutput r done file text = IsHeld r file text
IsOutput r breached file text = IsFind r file text
IsOutput r _ file text = ⊥

-- The file was found, and this is what is written.
pub record Good (r : Request) (told : Option Shelved) (reads reads_after : ℕ) (end : Ended) : Type 0 where
  pub file : List ℕ
  pub found : IfSome told (λ shelf. found_in shelf r.file ≡ Some file)
  pub text : List ℕ
  pub output : IsOutput r end file text
  pub sound : reads_after ≡ reads

-- All was written, in one put.
pub record Whole (r : Request) (a : Around) (end : Ended) : Type 0 where
  pub good : Good r a.told a.reads a.reads_after end
  pub written : Gains a.output a.output_after (good.text ∷ [])

-- The put failed.
pub record CutOff (r : Request) (a : Around) : Type 0 where
  pub end : Ended
  pub good : Good r a.told a.reads a.reads_after end
  pub written : Fails a.output a.output_after (good.text ∷ [])

-- Memory ran out in the put.
pub record Begun (r : Request) (a : Around) : Type 0 where
  pub end : Ended
  pub good : Good r a.told a.reads a.reads_after end
  pub written : Begins a.output a.output_after good.text

-- The file was found and is refused for this cause, and nothing was written.
pub record Refused (r : Request) (a : Around) (fault : FileFault) : Type 0 where
  pub file : List ℕ
  pub found : IfSome a.told (λ shelf. found_in shelf r.file ≡ Some file)
  pub refused : Refuses file fault
  pub sound : a.reads_after ≡ a.reads
  pub untouched : a.output_after ≡ a.output

-- The members of its stack would keep too many rows, and nothing was written.
pub record Crowded (r : Request) (a : Around) : Type 0 where
  pub file : List ℕ
  pub found : IfSome a.told (λ shelf. found_in shelf r.file ≡ Some file)
  pub stack : List LayerTree
  pub means : Means file stack
  pub crowded : most_rows < rows_of stack r.members
  pub sound : a.reads_after ≡ a.reads
  pub untouched : a.output_after ≡ a.output

-- The read failed: the count of the shelf's faults rose, and nothing was written.
pub record Missed (r : Request) (a : Around) : Type 0 where
  pub none : IfSome a.told (λ shelf. found_in shelf r.file ≡ None)
  pub rose : Rose a.reads a.reads_after
  pub untouched : a.output_after ≡ a.output

-- How a hunt ended.
abbrev pub Hunts : Request → Around → Ended → Type 0
Hunts r a done = Whole r a done
Hunts r a breached = Whole r a breached
Hunts r a (file_refused fault) = Refused r a fault
Hunts r a (second_refused too_many_rows) = Crowded r a
Hunts r a read_failed = Missed r a
Hunts r a write_failed = CutOff r a
Hunts r a no_memory = (a.output_after ≡ a.output) ⊎ Begun r a
Hunts r a _ = ⊥

-- How a run ended whose words ask for this hunt, or for none.
abbrev pub Comes : Option Request → Around → Ended → Type 0
Comes (Some r) a end = Hunts r a end
Comes None a end = NoJob a end

-- A run of these words: it ended in one way, and that was said.
pub record Runs (words : List Text) (a : Around) (e : Errors) : Type 0 where
  pub end : Ended
  pub came : Comes (request_of words) a end
  pub said : Said end e
