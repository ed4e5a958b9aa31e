-- Stacks that can be packed and read again.
use Rattle.std.specs.Prelude.{◌≤◌, List, [], ◌∷◌, ◌++◌, length}
use Rattle.std.specs.List.{AllByRecursion}
use Rattle.layer_mean.specs.Tree.{ItemsTree, LayerTree}
use Rattle.stack_mean.specs.Shape.{entry_place}
use Rattle.chain_laws.specs.Runs.{task_place}
use Rattle.trace_mean.specs.Trace.{Operation, take}
use Rattle.trace_mean.specs.Counts.{trace_length}
use Rattle.trace_mean.specs.Fuse.{field_atoms, entry_chain}
use Rattle.trace_form_laws.specs.Closed.{Closed, varying}
use Rattle.trace_form_laws.specs.There.{AreThere}
use Rattle.bypass_mean.specs.Bypasses.{Entry, entries_of}
use Rattle.bypass_laws.specs.Making.{IsSound}
use Rattle.pack_mean.specs.Named.{items_at}
use Rattle.pack_mean.specs.File.{Due, most_operations}
use Rattle.pack_laws.specs.Form.{at_first}
use Rattle.pack_round_laws.specs.Told.{AreToldApart}
use Rattle.pack_round_laws.proofs.Fits.{largest_number, ChainFits, OperationFits}
use Rattle.pack_round_laws.proofs.Layers.{LayersFit}

-- the rows that were taken after an operation, and a trace each of whose operations fits where it stands
abbrev pub taken_after : List LayerTree → List ItemsTree → Operation → List ItemsTree
taken_after stack taken (take p c e) = taken ++ items_at stack p c ∷ []
taken_after stack taken _ = taken

abbrev pub TraceFits : List LayerTree → List ItemsTree → List Operation → Type 0
TraceFits stack taken [] = Unit {0}
TraceFits stack taken (o ∷ os) = OperationFits stack taken o × TraceFits stack (taken_after stack taken o) os

-- the own trace of a case can be read where it is written
pub record CanBeRead (stack : List LayerTree) (d : Due) : Type 0 where
  pub closed : Closed stack (at_first d.fields) d.own
  pub there : AreThere stack d.own
  pub fits : TraceFits stack [] d.own
  pub few : trace_length d.own ≤ most_operations
  pub long : length d.own ≤ largest_number
  pub fields : d.fields ≤ largest_number

-- the known headers with which an entry begins are those of its layers, with as many fields as they have; and few of
-- these vary
pub record EntryFits (stack : List LayerTree) (e : Entry) : Type 0 where
  pub chain : ChainFits stack (task_place e.known.dir (entry_place stack e.known.dir))
      (entry_chain 0 stack e.known.tags (field_atoms 0 e.fields))
  pub fields : varying e.fields ≤ largest_number

-- a stack can be packed and read again where its names can be told apart, it isn't too high, and its layers and entries
-- fit
pub record CanBePacked (stack : List LayerTree) : Type 0 where
  pub sound : IsSound stack
  pub told : AreToldApart stack
  pub few : length stack ≤ largest_number
  pub layers_fit : LayersFit stack
  pub entries_fit : AllByRecursion (EntryFits stack) (entries_of stack)
