-- What the read of a job's stack file gives.
use Rattle.std.specs.Prelude.{◌≡◌, ℕ, List, Option, Some, None, IfSome, Result, Ok, Err}
use Rattle.std.specs.declared.alloc.Global.{Global}
use Rattle.std.specs.declared.vec.Vec.{Vec}
use Rattle.clap.specs.Walk.{Text}
use Rattle.outside.specs.Count.{Rose}
use Rattle.outside.specs.Shelf.{Shelved, found_in}
use Rattle.layer_ast.specs.View.{file_tree}
use Rattle.layer_mean.specs.Tree.{LayerTree}
use Rattle.end_mean.specs.Status.{FileFault, Ended, file_refused, read_failed, no_memory}
use Rattle.output_mean.specs.Judged.{Means, Refuses}
use Rattle.stack_judge.specs.Answer.{stack_tree}
use Rattle.stack_judge.specs.declared.stack.Stack.{Stack}
use Rattle.file_jobs.specs.declared.stack.StackFile.{StackFile}
use Rattle.job_ends.specs.Shown.{shown_end}
use Rattle.job_ends.specs.declared.ending.Ending.{Ending}

-- The next read of this name found this text.
pub record IsText (name : Text) (told : Option Shelved) (reads reads_after : ℕ) (text : List ℕ) : Type 0 where
  pub found : IfSome told (λ shelf. found_in shelf name ≡ Some text)
  pub sound : reads_after ≡ reads

-- The next read of this name found a file that means this stack.
pub record IsStack (name : Text) (told : Option Shelved) (reads reads_after : ℕ) (stack : List LayerTree) : Type 0 where
  pub file : List ℕ
  pub found : IfSome told (λ shelf. found_in shelf name ≡ Some file)
  pub means : Means file stack
  pub sound : reads_after ≡ reads

-- The next read of this name found a file that is refused for this cause.
pub record IsRefused (name : Text) (told : Option Shelved) (reads reads_after : ℕ) (fault : FileFault) : Type 0 where
  pub file : List ℕ
  pub found : IfSome told (λ shelf. found_in shelf name ≡ Some file)
  pub refused : Refuses file fault
  pub sound : reads_after ≡ reads

-- The next read of this name found no file, and the count of the shelf's faults rose.
pub record IsMissed (name : Text) (told : Option Shelved) (reads reads_after : ℕ) : Type 0 where
  pub none : IfSome told (λ shelf. found_in shelf name ≡ None)
  pub rose : Rose reads reads_after

-- A job ends so at its stack file.
abbrev pub StopsAt : Text → Option Shelved → (reads reads_after : ℕ) → Ended → Type 0
StopsAt name told reads reads_after (file_refused fault) = IsRefused name told reads reads_after fault
StopsAt name told reads reads_after read_failed = IsMissed name told reads reads_after
StopsAt name told reads reads_after no_memory = Unit {0}
StopsAt name told reads reads_after _ = ⊥

-- The text of the file that was read, or how the job ends.
abbrev pub ReadsText : Text → Option Shelved → (reads reads_after : ℕ) → Result (Vec ℕ Global) Ending → Type 0
ReadsText name told reads reads_after (Ok text) = IsText name told reads reads_after text.items
ReadsText name told reads reads_after (Err ending) = StopsAt name told reads reads_after (shown_end ending)

-- The stack of the file that was read, or how the job ends.
abbrev pub Fetches : Text → Option Shelved → (reads reads_after : ℕ) → Result Stack Ending → Type 0
Fetches name told reads reads_after (Ok stack) = IsStack name told reads reads_after (stack_tree stack)
Fetches name told reads reads_after (Err ending) = StopsAt name told reads reads_after (shown_end ending)

-- The stack is that of the file that was read, and the tree is that of this file.
pub record IsStackFile (name : Text) (told : Option Shelved) (reads reads_after : ℕ) (f : StackFile) : Type 0 where
  pub is : IsStack name told reads reads_after (stack_tree f.stack)
  pub tree : is.means.file ≡ file_tree f.file

-- The stack of the file that was read with the tree of the file, or how the job ends.
abbrev pub FetchesFile : Text → Option Shelved → (reads reads_after : ℕ) → Result StackFile Ending → Type 0
FetchesFile name told reads reads_after (Ok f) = IsStackFile name told reads reads_after f
FetchesFile name told reads reads_after (Err ending) = StopsAt name told reads reads_after (shown_end ending)

-- The stack that the bytes of a file mean, or why they are refused.
abbrev pub Refused : List ℕ → Ended → Type 0
Refused text (file_refused fault) = Refuses text fault
Refused text no_memory = Unit {0}
Refused text _ = ⊥

abbrev pub JudgesStack : List ℕ → Result Stack Ending → Type 0
JudgesStack text (Ok stack) = Means text (stack_tree stack)
JudgesStack text (Err ending) = Refused text (shown_end ending)

-- The bytes of a file mean the stack, and the tree is that of the file that they spell.
pub record IsFileOf (text : List ℕ) (f : StackFile) : Type 0 where
  pub means : Means text (stack_tree f.stack)
  pub tree : means.file ≡ file_tree f.file

-- The stack that the bytes of a file mean with the tree of the file, or why they are refused.
abbrev pub JudgesFile : List ℕ → Result StackFile Ending → Type 0
JudgesFile text (Ok f) = IsFileOf text f
JudgesFile text (Err ending) = Refused text (shown_end ending)
