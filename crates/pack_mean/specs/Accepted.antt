-- When the traces of a file may be run for a stack, and why they are refused.
use Rattle.std.specs.Prelude.{◌≡◌, ℕ, ◌<◌, ◌≤◌, List, ◌∷◌, ◌++◌, length, take, slice_get}
use Rattle.std.specs.Prelude.{Ok, Err}
use Rattle.std.specs.List.{AllZip}
use Rattle.layer_mean.specs.declared.run.Case.{Case}
use Rattle.layer_mean.specs.Tree.{LayerTree}
use Rattle.trace_mean.specs.Trace.{Operation}
use Rattle.symbol_mean.specs.Symbolic.{symbolic}
use Rattle.pack_mean.specs.File.{Due, due_of, traces_in}

-- A longer file is refused, whatever it says.
abbrev pub longest_file : ℕ
longest_file = 33554432

-- A trace does what its case's own trace does.
abbrev pub SameActs : Due → List Operation → Type 0
SameActs d trace = symbolic trace ≡ symbolic d.own

-- A file is accepted where its traces do what the stack's own do.
pub record Accepts (stack : List LayerTree) (text : List ℕ) : Type 0 where
  pub short : length text ≤ longest_file
  pub traces : List (List Operation)
  pub read : traces_in stack text ≡ Ok traces
  pub same : AllZip SameActs (due_of stack) traces

-- Two lists differ at a place first: they are equal before it, and not at it, where one of them may have ended.
pub record DifferAt {X : Type 0} (xs ys : List X) (k : ℕ) : Type 0 where
  pub equal : take k xs ≡ take k ys
  pub other : slice_get xs k ≡ slice_get ys k → ⊥

-- This is the first case whose trace does something else than its own one, and the two differ first at this act.
pub record DiffersIn (due : List Due) (traces : List (List Operation)) (entry : ℕ) (case : Case) (k : ℕ) : Type 0 where
  pub before : List Due
  pub due_here : Due
  pub following : List Due
  pub due_is : due ≡ before ++ due_here ∷ following
  pub before_traces : List (List Operation)
  pub trace : List Operation
  pub after_traces : List (List Operation)
  pub traces_are : traces ≡ before_traces ++ trace ∷ after_traces
  pub same : AllZip SameActs before before_traces
  pub entry_is : due_here.entry ≡ entry
  pub case_is : due_here.case ≡ case
  pub differ : DifferAt (symbolic trace) (symbolic due_here.own) k

-- Why a file is refused: its length; its first line that is out of form; or what one of its traces does.
pub data PackFault : Type 0 where
  too_large : PackFault
  bad_line : (line : ℕ) → PackFault
  differs : (entry : ℕ) (case : Case) (at : ℕ) → PackFault

-- A file is short enough and in form, and this is its first case whose trace does something else, first at act k.
pub record Differs (stack : List LayerTree) (text : List ℕ) (entry : ℕ) (case : Case) (k : ℕ) : Type 0 where
  pub short : length text ≤ longest_file
  pub traces : List (List Operation)
  pub read : traces_in stack text ≡ Ok traces
  pub differs : DiffersIn (due_of stack) traces entry case k

-- What holds of a file that is refused for this fault.
abbrev pub IsFault : List LayerTree → List ℕ → PackFault → Type 0
IsFault stack text too_large = longest_file < length text
IsFault stack text (bad_line line) = (length text ≤ longest_file) × (traces_in stack text ≡ Err line)
IsFault stack text (differs entry case k) = Differs stack text entry case k
