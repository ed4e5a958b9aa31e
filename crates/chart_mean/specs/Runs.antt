-- What a run of the program does.
use Rattle.std.specs.Prelude.{◌≡◌, ◌⊎◌, ℕ, List, [], ◌∷◌, Option, Some, None, IfSome, Ok, Err}
use Rattle.clap.specs.Walk.{Text}
use Rattle.audit_mean.specs.Finding.{AuditFault, too_large, bad_line}
use Rattle.outside.specs.Count.{Rose}
use Rattle.outside.specs.Shelf.{Shelved, found_in}
use Rattle.outside.specs.Lines.{Gains, Fails, Begins}
use Rattle.outside.specs.Said.{Errors}
use Rattle.outside.specs.Tells.{Tells, tells_of}
use Rattle.outside.specs.declared.shelf.Shelf as shelves
use Rattle.outside.specs.declared.sink.Sink as outputs
use Rattle.chart_mean.specs.Picture.{chart_of}
use Rattle.chart_mean.specs.Words.{Request, request_of}
use Rattle.chart_mean.specs.Ends.{Said}
use Rattle.chart_mean.specs.declared.types.ChartEnding.{ChartEnding}
use Rattle.chart_mean.specs.declared.types.ChartEnding.TheVariants.{Done, TooLarge, Line, Words, Read, Write, Memory}

-- What a run began with and what it left: what the shelf told, its count of faults before and after, and what the
-- output told.
pub record Around : Type 0 where
  pub told : Option Shelved
  pub reads : ℕ
  pub reads_after : ℕ
  pub output : Tells
  pub output_after : Tells

-- What a run began with and what it left, from what the shelf told, its count of faults before and after, and what the
-- output told before and after.
abbrev pub surrounding : Option Shelved → (reads reads_after : ℕ) → (output output_after : Tells) → Around
surrounding told reads reads_after output output_after =
    record { told = told; reads = reads; reads_after = reads_after; output = output; output_after = output_after }

-- What a run began with and what it left, by what a shelf and an output were before and after.
abbrev pub around : {S O : Type 0} → shelves.Ghosts S → outputs.Ghosts O → S → S → O → O → Around
around s o shelf shelf_after out out_after = surrounding (s.told shelf) (s.faults shelf) (s.faults shelf_after)
    (tells_of o out) (tells_of o out_after)

-- Nothing was read and nothing was written.
pub record Nothing (a : Around) : Type 0 where
  pub untouched : a.output_after ≡ a.output
  pub unread : a.reads_after ≡ a.reads

-- The report was found, and this is its picture.
pub record Good (r : Request) (told : Option Shelved) (reads reads_after : ℕ) : Type 0 where
  pub file : List ℕ
  pub found : IfSome told (λ shelf. found_in shelf r.file ≡ Some file)
  pub picture : List ℕ
  pub drawn : chart_of r.excerpt file ≡ Ok picture
  pub sound : reads_after ≡ reads

-- The whole picture was written, in one put.
pub record Whole (r : Request) (a : Around) : Type 0 where
  pub good : Good r a.told a.reads a.reads_after
  pub written : Gains a.output a.output_after (good.picture ∷ [])

-- The put failed.
pub record CutOff (r : Request) (a : Around) : Type 0 where
  pub good : Good r a.told a.reads a.reads_after
  pub written : Fails a.output a.output_after (good.picture ∷ [])

-- Memory ran out in the put.
pub record Begun (r : Request) (a : Around) : Type 0 where
  pub good : Good r a.told a.reads a.reads_after
  pub written : Begins a.output a.output_after good.picture

-- The file was found and is no report, and nothing was written.
pub record Refused (r : Request) (a : Around) (fault : AuditFault) : Type 0 where
  pub file : List ℕ
  pub found : IfSome a.told (λ shelf. found_in shelf r.file ≡ Some file)
  pub refused : chart_of r.excerpt file ≡ Err fault
  pub sound : a.reads_after ≡ a.reads
  pub untouched : a.output_after ≡ a.output

-- The read failed: the count of the shelf's faults rose, and nothing was written.
pub record Missed (r : Request) (a : Around) : Type 0 where
  pub none : IfSome a.told (λ shelf. found_in shelf r.file ≡ None)
  pub rose : Rose a.reads a.reads_after
  pub untouched : a.output_after ≡ a.output

-- How a run that was asked for a picture ended.
abbrev pub Draws : Request → Around → ChartEnding → Type 0
Draws r a Done = Whole r a
Draws r a TooLarge = Refused r a too_large
Draws r a (Line number) = Refused r a (bad_line number)
Draws r a Words = ⊥
Draws r a Read = Missed r a
Draws r a Write = CutOff r a
Draws r a Memory = (a.output_after ≡ a.output) ⊎ Begun r a

-- How a run whose words ask for this, or for nothing, ended.
abbrev pub Comes : Option Request → Around → ChartEnding → Type 0
Comes (Some r) a end = Draws r a end
Comes None a Words = Nothing a
Comes None a Memory = Nothing a
Comes None a _ = ⊥

-- The status that is due came, or memory ran out.
abbrev pub Due : ℕ → ℕ → Type 0
Due due status = (status ≡ due) ⊎ (status ≡ 7)

-- The output's count of faults didn't rise, and isn't at its last value.
abbrev pub NoPutFailed : Around → Type 0
NoPutFailed a = Rose a.output.faults a.output_after.faults → ⊥

-- Where the shelf tells, what it finds for a request determines the status: 4 where there is no file; 1 where the file
-- is no report; and where it is one and no put failed, 0, and the output gained the picture.
pub record Exact (r : Request) (a : Around) (status : ℕ) : Type 0 where
  pub unread : (shelf : Shelved) → a.told ≡ Some shelf → found_in shelf r.file ≡ None → Due 4 status
  pub refused : (shelf : Shelved) (file : List ℕ) (fault : AuditFault) → a.told ≡ Some shelf →
      found_in shelf r.file ≡ Some file →
      chart_of r.excerpt file ≡ Err fault → Due 1 status
  pub complete : (shelf : Shelved) (file picture : List ℕ) → a.told ≡ Some shelf → found_in shelf r.file ≡ Some file →
      chart_of r.excerpt file ≡ Ok picture → NoPutFailed a →
      ((status ≡ 0) × Gains a.output a.output_after (picture ∷ [])) ⊎ (status ≡ 7)

-- Words that ask for no picture have status 2.
abbrev pub ExactFor : Option Request → Around → ℕ → Type 0
ExactFor (Some r) a status = Exact r a status
ExactFor None a status = Due 2 status

-- A run of these words: it ended in one way, which was said, and its status is the one that is due.
pub record Runs (words : List Text) (a : Around) (e : Errors) : Type 0 where
  pub end : ChartEnding
  pub came : Comes (request_of words) a end
  pub said : Said end e
  pub exact : ExactFor (request_of words) a e.status
