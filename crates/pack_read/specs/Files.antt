-- What was read of a file.
use Rattle.std.specs.Prelude.{ℕ, ◌≡◌, Bool, List, [], ◌∷◌, ◌++◌, map, bytes_eq, codes, Option, Some, None, Result, Ok}
use Rattle.std.specs.Prelude.{Err, Vec}
use Rattle.std.specs.declared.alloc.Global.{Global}
use Rattle.layer_mean.specs.Tree.{LayerTree}
use Rattle.trace_mean.specs.Trace as trace
use Rattle.pack_mean.specs.Named.{nothing_named}
use Rattle.pack_mean.specs.File as file
use Rattle.pack_mean.specs.File.{most_operations}
use Rattle.trace_core.specs.declared.trace.Trace.{Trace}
use Rattle.trace_core.specs.Trees.{trace_tree}
use Rattle.pack_words.specs.declared.error.LineError.{LineError}
use Rattle.pack_words.specs.declared.error.LineError.TheVariants as fault
use Rattle.pack_read.specs.declared.due.Due.{Due}
use Rattle.pack_read.specs.declared.error.ReadError.{ReadError}
use Rattle.pack_read.specs.declared.error.ReadError.TheVariants.{Line, Memory}
use Rattle.pack_read.specs.declared.open.Open.{Open}
use Rattle.pack_read.specs.declared.reading.Reading.{Reading}
use Rattle.pack_read.specs.declared.reading.FilePart.{FilePart}
use Rattle.pack_read.specs.declared.reading.FilePart.TheVariants.{Idle, Within, Ended}
use Rattle.pack_read.specs.Open.{AreParts, held_in, named_of}

-- A case that is due, without the stack's own trace.
abbrev pub bare : file.Due → file.Due
bare d = record { entry = d.entry; case = d.case; fields = d.fields; own = [] }

abbrev pub due_tree : Due → file.Due
due_tree d = record { entry = d.entry; case = d.case; fields = d.fields; own = [] }

-- What a file was read as: its traces, or its first line that is out of form. Nothing is said about want of memory.
abbrev pub Reads : Result (List (List trace.Operation)) ℕ → Result (Vec Trace Global) ReadError → Type 0
Reads read (Ok traces) = read ≡ Ok (map trace_tree traces.items)
Reads read (Err (Line number)) = read ≡ Err number
Reads read (Err Memory) = Unit {0}

-- Whether a line begins the next case, or ends the file where none is due.
abbrev pub begins : List file.Due → List ℕ → Bool
begins [] line = bytes_eq line (codes "end")
begins (d ∷ due) line = bytes_eq line (file.heading d.entry d.case)

-- What is read then.
abbrev pub onward : List file.Due → List (List trace.Operation) → file.Reading
onward [] traces = record { stage = file.ended; held = []; traces = traces }
onward (d ∷ due) traces =
    record { stage = file.within due (nothing_named d.fields) most_operations; held = []; traces = traces }

-- A file as it is read.
abbrev pub stage_in : List LayerTree → FilePart → List Due → Open → file.Stage
stage_in stack Idle due o = file.idle (map due_tree due)
stage_in stack Within due o = file.within (map due_tree due) (named_of stack o) o.left
stage_in stack Ended due o = file.ended

abbrev pub traces_of : Reading → List (List trace.Operation)
traces_of r = map trace_tree r.traces.items

abbrev pub reading_in : List LayerTree → Reading → file.Reading
reading_in stack r = record {
  stage = stage_in stack r.stage r.due.now r.current;
  held = held_in r.current;
  traces =
      traces_of r;
}

-- What is read after the first line.
abbrev pub begun_after : List Due → file.Reading
begun_after due = record { stage = file.idle (map due_tree due); held = []; traces = [] }

pub record IsBegun (due : List Due) (r : Reading) : Type 0 where
  pub is : (stack : List LayerTree) → reading_in stack r ≡ begun_after due
  pub parts : AreParts r.current

-- The next case is begun, or the file has ended.
pub record GoesOn (old new : Reading) : Type 0 where
  pub is : (stack : List LayerTree) → reading_in stack new ≡ onward (map due_tree old.due.now) (traces_of old)
  pub parts : AreParts new.current

-- The trace of the case that was open is put after the others.
pub record IsClosed (old new : Reading) : Type 0 where
  pub traces : traces_of new ≡ traces_of old ++ held_in old.current ∷ []
  pub due : new.due.now ≡ old.due.now

abbrev pub Closes : Reading → Reading → {E : Type 0} → Result (Unit {0}) E → Type 0
Closes old new (Ok done) = IsClosed old new
Closes old new (Err e) = Unit {0}

-- What is read with one more line.
abbrev pub line_from : List LayerTree → Reading → List ℕ → Option file.Reading
line_from stack r line = file.line_read stack (reading_in stack r) (stage_in stack r.stage r.due.now r.current) line

pub record IsFurther (read : Option file.Reading) (stack : List LayerTree) (new : Reading) : Type 0 where
  pub is : read ≡ Some (reading_in stack new)
  pub parts : AreParts new.current

abbrev pub Goes : Option file.Reading → List LayerTree → Reading → Result (Unit {0}) LineError → Type 0
Goes read stack new (Ok done) = IsFurther read stack new
Goes read stack new (Err fault.Form) = read ≡ None
Goes read stack new (Err fault.Memory) = Unit {0}

-- A line that is out of form is told by its number.
abbrev pub Tells : Result (Unit {0}) LineError → ℕ → Result (Unit {0}) ReadError → Type 0
Tells read number (Ok done) = read ≡ Ok tt
Tells read number (Err (Line n)) = (read ≡ Err fault.Form) × (n ≡ number)
Tells read number (Err Memory) = Unit {0}
