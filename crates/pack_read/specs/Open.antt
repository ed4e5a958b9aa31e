-- A case that is read, operation by operation.
use Rattle.std.specs.Prelude.{ℕ, zero, suc, ◌≡◌, List, [], ◌∷◌, ◌++◌, map, option_and_then, Option, Some, None, Result}
use Rattle.std.specs.Prelude.{Ok, Err}
use Rattle.std.specs.List.{AllByRecursion}
use Rattle.layer_mean.specs.Tree.{LayerTree}
use Rattle.trace_mean.specs.Trace as trace
use Rattle.pack_mean.specs.Named.{Named, naming}
use Rattle.pack_mean.specs.Operation.{operation_said}
use Rattle.pack_mean.specs.File.{most_operations}
use Rattle.trace_core.specs.declared.operation.Operation.{Operation}
use Rattle.trace_core.specs.Links.{chains}
use Rattle.trace_core.specs.Operations.{IsPart, operation_in, operations_of}
use Rattle.trace_core.specs.View.{Term, terms}
use Rattle.pack_read.specs.Operations.{Says}
use Rattle.pack_words.specs.View.{row_of}
use Rattle.pack_words.specs.declared.error.LineError.{LineError}
use Rattle.pack_words.specs.declared.error.LineError.TheVariants.{Form, Memory}
use Rattle.pack_read.specs.declared.open.Open.{Open}

-- Its operations, and what its next line may name.
abbrev pub held_in : Open → List trace.Operation
held_in o = operations_of o.store.nodes o.store.links o.operations.items

abbrev pub named_of : List LayerTree → Open → Named
named_of stack o = record
    { fields = o.fields; binds = o.binds; notes = o.notes; rows = map (row_of stack) o.rows.items }

-- All that its operations name is there.
abbrev pub AreParts : Open → Type 0
AreParts o = AllByRecursion (IsPart (terms o.store.nodes) (chains o.store.links)) o.operations.items

-- No line of it was read.
pub record IsEmpty (fields : ℕ) (o : Open) : Type 0 where
  pub operations : o.operations.items ≡ []
  pub fields_are : o.fields ≡ fields
  pub binds : o.binds ≡ 0
  pub notes : o.notes ≡ 0
  pub rows : o.rows.items ≡ []
  pub left : o.left ≡ most_operations

-- How many operations it may have after this one, if it may have `left` with it; notes don't count.
abbrev pub left_after : ℕ → trace.Operation → Option ℕ
left_after left (trace.note m) = Some left
left_after zero o = None
left_after (suc left) o = Some left

abbrev pub LeavesAfter : ℕ → Operation → Result ℕ LineError → Type 0
LeavesAfter left o (Ok n) = (ts : List Term) (cs : List (List trace.Link)) → left_after left (operation_in ts cs o) ≡
    Some n
LeavesAfter left o (Err Form) = (ts : List Term) (cs : List (List trace.Link)) →
    left_after left (operation_in ts cs o) ≡ None
LeavesAfter left o (Err Memory) = ⊥

-- What an operation gives a name to.
pub record IsNamed (old new : Open) (o : Operation) : Type 0 where
  pub named : (stack : List LayerTree) (ts : List Term) (cs : List (List trace.Link)) →
      named_of stack new ≡ naming stack
      (named_of stack old) (operation_in ts cs o)
  pub store : new.store ≡ old.store
  pub operations : new.operations.items ≡ old.operations.items
  pub left : new.left ≡ old.left

abbrev pub Names : Open → Open → Operation → {E : Type 0} → Result (Unit {0}) E → Type 0
Names old new o (Ok done) = IsNamed old new o
Names old new o (Err e) = Unit {0}

-- What an operation gives a name to where it is put after the operations of its case.
pub record IsPut (old new : Open) (o : Operation) : Type 0 where
  pub named : (stack : List LayerTree) (ts : List Term) (cs : List (List trace.Link)) →
      named_of stack new ≡ naming stack
      (named_of stack old) (operation_in ts cs o)
  pub store : new.store ≡ old.store
  pub operations : new.operations.items ≡ old.operations.items ++ o ∷ []
  pub left : new.left ≡ old.left

abbrev pub Puts : Open → Open → Operation → {E : Type 0} → Result (Unit {0}) E → Type 0
Puts old new o (Ok done) = IsPut old new o
Puts old new o (Err e) = Unit {0}

-- What a line says in it: nodes and links are added, and nothing else changes.
pub record SaysIn (stack : List LayerTree) (line : List ℕ) (old new : Open) (r : Result Operation LineError) : Type 0
  where
    pub said : Says (operation_said stack (named_of stack old) line) old.store new.store r
    pub rest : new ≡ record old { store = new.store }

-- One more operation was read from a line.
pub record IsAdded (stack : List LayerTree) (line : List ℕ) (old new : Open) : Type 0 where
  pub operation : trace.Operation
  pub said : operation_said stack (named_of stack old) line ≡ Some operation
  pub left : left_after old.left operation ≡ Some new.left
  pub named : named_of stack new ≡ naming stack (named_of stack old) operation
  pub held : held_in new ≡ held_in old ++ operation ∷ []
  pub parts : AreParts new

abbrev pub Adds : List LayerTree → List ℕ → Open → Open → Result (Unit {0}) LineError → Type 0
Adds stack line old new (Ok done) = IsAdded stack line old new
Adds stack line old new (Err Form) =
    option_and_then (left_after old.left) (operation_said stack (named_of stack old) line) ≡ None
Adds stack line old new (Err Memory) = Unit {0}
