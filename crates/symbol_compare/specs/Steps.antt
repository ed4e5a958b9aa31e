-- What changes with one more operation.
use Rattle.std.specs.Prelude.{◌≡◌, ℕ, ◌+◌, List, take}
use Rattle.std.specs.List.{AllZip}
use Rattle.trace_core.specs.Trees.{trace_tree}
use Rattle.symbol_mean.specs.Value.{Act}
use Rattle.symbol_mean.specs.Symbolic.{symbolic}
use Rattle.symbol_compare.specs.declared.form.ValueForm.{ValueForm}
use Rattle.symbol_compare.specs.declared.form.ActForm.{ActForm}
use Rattle.symbol_compare.specs.declared.walk.Walk.{Walk}
use Rattle.symbol_compare.specs.Counts.{Counted}
use Rattle.symbol_compare.specs.Meant.{meanings}
use Rattle.symbol_compare.specs.Table.{Grown}
use Rattle.symbol_compare.specs.Walk.{Knows, ActStands}

-- A cell was written.
pub record Wrote (w u : Walk) (place cell many : ℕ) : Type 0 where
  pub same_trace : u.trace ≡ w.trace
  pub done : u.done ≡ w.done + 1
  pub numbers : u.numbers ≡ w.numbers
  pub messages : u.messages ≡ w.messages
  pub takes : u.takes ≡ many
  pub counts : Counted w.counts u.counts place cell

-- These are the numbers of the acts of the operations so far.
pub record Walked (fs : List ValueForm) (w : Walk) (acts : List ActForm) : Type 0 where
  pub knows : Knows fs w
  pub stand : AllZip (ActStands (meanings fs)) acts (symbolic (take w.done (trace_tree w.trace.now)))

-- One more operation.
pub record Steps (old new : List ValueForm) (w u : Walk) (acts : List ActForm) : Type 0 where
  pub grows : Grown old new
  pub same_trace : u.trace ≡ w.trace
  pub done : u.done ≡ w.done + 1
  pub walked : Walked new u acts

-- These are the numbers of the acts of a trace.
pub record ActsMade (old new : List ValueForm) (does : List Act) (acts : List ActForm) : Type 0 where
  pub grows : Grown old new
  pub stand : AllZip (ActStands (meanings new)) acts does
