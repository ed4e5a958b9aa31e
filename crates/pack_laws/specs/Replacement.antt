-- When traces from outside may be run in place of a stack's own.
use Rattle.std.specs.Prelude.{◌≡◌, ◌≤◌, List, Option, Some, None}
use Rattle.std.specs.List.{AllZip}
use Rattle.layer_mean.specs.declared.run.Case.TheVariants.{First}
use Rattle.layer_mean.specs.Tree.{LayerTree}
use Rattle.trace_mean.specs.Trace.{Operation}
use Rattle.trace_mean.specs.Counts.{trace_joins}
use Rattle.trace_form_laws.specs.Closed.{entry_reach, Closed}
use Rattle.trace_form_laws.specs.There.{AreThere}
use Rattle.bypass_mean.specs.Bypasses.{Entry, entries_of, Made, fused, absent, Bypasses}
use Rattle.bypass_laws.specs.Stack.{AreOfStack}
use Rattle.bypass_laws.specs.Making.{made_of, second_of, IsSound, simplest}
use Rattle.symbol_mean.specs.Symbolic.{symbolic}

-- A trace may be run in place of an entry's own: it has the same symbolic list; it names only what it was given, what
-- it has made before and what there is; and it joins no more.
pub record Replaces (stack : List LayerTree) (e : Entry) (own trace : List Operation) : Type 0 where
  pub acts : symbolic trace ≡ symbolic own
  pub closed : Closed stack (entry_reach e.fields) trace
  pub there : AreThere stack trace
  pub joins : trace_joins trace ≤ trace_joins own

-- What is made of such a trace has its simplest handler. Where nothing is made of the own trace, nothing is made here,
-- for the same reason.
abbrev pub IsReplaced : List LayerTree → Entry → Made → Made → Type 0
IsReplaced stack e (fused own guarded) (fused trace other) = Replaces stack e own trace × (other ≡ simplest trace)
IsReplaced stack e (absent reason) (absent other) = other ≡ reason
IsReplaced stack e _ _ = ⊥

abbrev pub IsSecondReplaced : List LayerTree → Entry → Option Made → Option Made → Type 0
IsSecondReplaced stack e None None = Unit {0}
IsSecondReplaced stack e (Some own) (Some made) = IsReplaced stack e own made
IsSecondReplaced stack e _ _ = ⊥

-- So it is of all entries of a stack, in each case, in place of what is made of the definition's traces.
abbrev pub FirstReplaces : List LayerTree → Entry → Made → Type 0
FirstReplaces stack e made = IsReplaced stack e (made_of simplest First stack e) made

abbrev pub SecondReplaces : List LayerTree → Entry → Option Made → Type 0
SecondReplaces stack e made = IsSecondReplaced stack e (second_of simplest stack e) made

pub record AreReplaced (stack : List LayerTree) (b : Bypasses) : Type 0 where
  pub made : AllZip (FirstReplaces stack) (entries_of stack) b.made
  pub second : AllZip (SecondReplaces stack) (entries_of stack) b.second

-- Such bypasses are the stack's.
abbrev pub ReplacedAreOfStack : Type 0
ReplacedAreOfStack = (stack : List LayerTree) (b : Bypasses) → IsSound stack → AreReplaced stack b → AreOfStack stack b
