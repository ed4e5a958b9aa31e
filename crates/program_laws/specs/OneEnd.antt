-- That a run of the program has one end, so that each status comes exactly where it is due.
use Rattle.std.specs.Prelude.{◌≡◌, ◌≢◌, ◌⊎◌, ℕ, List, Some, None, Err}
use Rattle.outside.specs.Count.{last_count}
use Rattle.layer_ast.specs.Tree.{FileTree}
use Rattle.layer_mean.specs.Tree.{LayerTree}
use Rattle.file_mean.specs.Library.{IsFile}
use Rattle.audit_mean.specs.Finding.{AuditFault, audit_of}
use Rattle.audit_mean.specs.declared.law.Law.{Law}
use Rattle.clap.specs.Walk.{Text}
use Rattle.job_mean.specs.Job.{Job, node, audit, job_of_words}
use Rattle.pack_mean.specs.Accepted.{PackFault, Accepts, IsFault}
use Rattle.end_mean.specs.Status.{FileFault, SecondFault, Ended, no_memory, status_number}
use Rattle.output_mean.specs.Judged.{Means, Refuses}
use Rattle.program_mean.specs.Second.{second_fault}
use Rattle.program_mean.specs.Headline.{Printer, Counted, Run, Fails, second_for, third_for, WritesOf, whole_end}
use Rattle.program_mean.specs.Headline.{ReadsStack, ReadsTraces, Ends, Ran}

-- A text is one file at most, means one stack at most, and is refused for one cause at most; and what means a stack
-- isn't refused.
abbrev pub OneFile : Type 0
OneFile = (text : List ℕ) (f g : FileTree) → IsFile text f → IsFile text g → f ≡ g

abbrev pub OneMeaning : Type 0
OneMeaning = (text : List ℕ) (s t : List LayerTree) → Means text s → Means text t → s ≡ t

abbrev pub OneRefusal : Type 0
OneRefusal = (text : List ℕ) (a b : FileFault) → Refuses text a → Refuses text b → a ≡ b

abbrev pub GoodOrRefused : Type 0
GoodOrRefused = (text : List ℕ) (s : List LayerTree) (fault : FileFault) → Means text s → Refuses text fault → ⊥

-- For a stack a file of traces is refused for one cause at most, and what is accepted isn't refused.
abbrev pub OneTracesFault : Type 0
OneTracesFault = (stack : List LayerTree) (text : List ℕ) (a b : PackFault) → IsFault stack text a →
    IsFault stack text b → a ≡ b

abbrev pub AcceptedOrRefused : Type 0
AcceptedOrRefused = (stack : List LayerTree) (text : List ℕ) (fault : PackFault) → Accepts stack text →
    IsFault stack text fault → ⊥

-- A count that doesn't stand at its last value after the run, and so tells each failure.
abbrev pub Counts : Counted → Type 0
Counts count = count.after ≢ last_count

pub record CountsAll (r : Run) : Type 0 where
  pub reads : Counts r.reads
  pub puts : Counts r.puts
  pub links : Counts r.links

-- But for want of memory, which is free, a run has one end.
abbrev pub OneEnd : Type 0
OneEnd = (print : Printer) (r : Run) (a b : Ended) → CountsAll r → a ≢ no_memory → b ≢ no_memory →
    Ends print r a → Ends print r b → a ≡ b

-- A status came, or 7.
abbrev pub Came : Run → ℕ → Type 0
Came r status = (r.status ≡ status) ⊎ (r.status ≡ 7)

-- Words that are no job end with 2.
abbrev pub WordsAreDue : Type 0
WordsAreDue = (print : Printer) (r : Run) → Ran print r → job_of_words r.words ≡ None → Came r 2

-- A job whose stack file is read and refused ends with 1.
abbrev pub FilesAreDue : Type 0
FilesAreDue = (print : Printer) (r : Run) (job : Job) (file : List ℕ) (fault : FileFault) → Ran print r →
    job_of_words r.words ≡ Some job → ReadsStack job → r.file ≡ Some file → Refuses file fault → Came r 1

-- An audit whose file is read and is no report ends with 1.
abbrev pub ReportsAreDue : Type 0
ReportsAreDue = (print : Printer) (r : Run) (name : Text) (law : Law) (file : List ℕ) (fault : AuditFault) →
    Ran print r →
    job_of_words r.words ≡ Some (audit name law) → r.file ≡ Some file → audit_of law file ≡ Err fault → Came r 1

-- A job whose file isn't there ends with 4.
abbrev pub MissesAreDue : Type 0
MissesAreDue = (print : Printer) (r : Run) (job : Job) → Ran print r → job_of_words r.words ≡ Some job → r.file ≡ None →
    Came r 4

-- No write of the output failed, nor does its count stand at its last value.
abbrev pub PutsAll : Run → Type 0
PutsAll r = Fails r.puts → ⊥

-- A job without a network.
abbrev pub IsAlone : Job → Type 0
IsAlone (node name plan turns me patience mode) = ⊥
IsAlone _ = Unit {0}

-- A job without a network whose files are read and that has a whole output over them ends with the status of that, if
-- no write failed.
abbrev pub GoodAreDue : Type 0
GoodAreDue = (print : Printer) (r : Run) (job : Job) (file second out : List ℕ) → Ran print r → PutsAll r →
    IsAlone job →
    job_of_words r.words ≡ Some job → r.file ≡ Some file → second_for job r.second ≡ Some second →
    WritesOf print job r file second out →
    Came r (status_number (whole_end job file))

-- A job whose file is good, and whose second file isn't there, ends with 4.
abbrev pub SecondMissesAreDue : Type 0
SecondMissesAreDue = (print : Printer) (r : Run) (job : Job) (file : List ℕ) (stack : List LayerTree) → Ran print r →
    job_of_words r.words ≡ Some job → r.file ≡ Some file → Means file stack → second_for job r.second ≡ None → Came r 4

-- A job whose file is good, and whose second file is read and refused or whose members have too many rows, ends with 3.
abbrev pub SecondsAreDue : Type 0
SecondsAreDue = (print : Printer) (r : Run) (job : Job) (file second : List ℕ) (stack : List LayerTree)
    (fault : SecondFault) →
    Ran print r → job_of_words r.words ≡ Some job → r.file ≡ Some file → second_for job r.second ≡ Some second →
    Means file stack →
    second_fault job stack second ≡ Some fault → Came r 3

-- A replay by the traces of a file, whose other files are good and whose file of traces is read and refused, ends with
-- 9.
abbrev pub TracesAreDue : Type 0
TracesAreDue = (print : Printer) (r : Run) (job : Job) (file second third : List ℕ) (stack : List LayerTree)
    (fault : PackFault) → Ran print r →
    job_of_words r.words ≡ Some job → ReadsTraces job → r.file ≡ Some file → second_for job r.second ≡ Some second →
    Means file stack →
    second_fault job stack second ≡ None → r.third ≡ Some third → IsFault stack third fault → Came r 9

-- A job whose first two files are good, and whose third isn't there, ends with 4.
abbrev pub ThirdMissesAreDue : Type 0
ThirdMissesAreDue = (print : Printer) (r : Run) (job : Job) (file second : List ℕ) (stack : List LayerTree) →
    Ran print r →
    job_of_words r.words ≡ Some job → r.file ≡ Some file → second_for job r.second ≡ Some second → Means file stack →
    second_fault job stack second ≡ None → third_for job r.third ≡ None → Came r 4
