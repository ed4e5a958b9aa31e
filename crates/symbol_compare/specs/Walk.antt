-- What is known where a walk along a trace stands.
use Rattle.std.specs.Prelude.{◌≡◌, ℕ, ◌+◌, List, [], ◌∷◌, length, take, Option, option_to_list, Result, Ok, Err}
use Rattle.std.specs.List.{AllZip, fold, slice_get}
use Rattle.std.specs.Option.{unwrap_or}
use Rattle.trace_mean.specs.Trace as trace
use Rattle.trace_core.specs.View.{Term, terms}
use Rattle.trace_core.specs.View as term
use Rattle.trace_core.specs.Trees.{trace_tree}
use Rattle.symbol_mean.specs.Value.{NumberValue, MessageValue, Act}
use Rattle.symbol_mean.specs.Symbolic.{Values, no_values, known_after, number_value, message_value, writes_to}
use Rattle.symbol_compare.specs.declared.form.ValueForm.{ValueForm}
use Rattle.symbol_compare.specs.declared.form.ActForm.{ActForm}
use Rattle.symbol_compare.specs.declared.walk.Walk.{Walk}
use Rattle.symbol_compare.specs.Counts.{count_in}
use Rattle.symbol_compare.specs.Meant.{Meant, a_number, a_message, meanings, act_in}
use Rattle.symbol_compare.specs.Table.{Stands, IsNumber, IsWellAct, Grown}

-- What is known after the first operations.
unfoldable pub values_after : List trace.Operation → ℕ → Values
values_after os n = fold known_after no_values (take n os)

abbrev pub known_to : Walk → Values
known_to w = values_after (trace_tree w.trace.now) w.done

-- What an expression means there, and what the expression of a node means.
abbrev pub meant_by : Values → Term → Meant
meant_by v (term.a_number n) = a_number (number_value v n)
meant_by v (term.a_message m) = a_message (message_value v m)

abbrev pub term_in : List Term → ℕ → Term
term_in ts k = unwrap_or (slice_get ts k) (term.a_number (trace.atom (trace.number 0)))

abbrev pub meant_at : Walk → ℕ → Meant
meant_at w k = meant_by (known_to w) (term_in (terms w.trace.now.nodes) k)

-- Numbers stand for values, place by place.
abbrev pub AreNumbers : List Meant → List ℕ → List NumberValue → Type 0
AreNumbers ms ks xs = AllZip (λ k x. Stands ms k (a_number x)) ks xs

abbrev pub AreMessages : List Meant → List ℕ → List MessageValue → Type 0
AreMessages ms ks xs = AllZip (λ k x. Stands ms k (a_message x)) ks xs

-- A walk knows these values.
pub record KnowsAs (fs : List ValueForm) (w : Walk) (v : Values) : Type 0 where
  pub numbers : AreNumbers (meanings fs) w.numbers.items v.numbers
  pub messages : AreMessages (meanings fs) w.messages.items v.messages
  pub takes : w.takes ≡ v.takes
  pub counts : (p c : ℕ) → count_in w.counts p c ≡ writes_to v.written p c

abbrev pub Knows : List ValueForm → Walk → Type 0
Knows fs w = KnowsAs fs w (known_to w)

-- `many` values were made.
pub record AllMade (old new : List ValueForm) (xs : List Meant) (many : ℕ) (ks : List ℕ) : Type 0 where
  pub grows : Grown old new
  pub stand : AllZip (Stands (meanings new)) ks xs
  pub long : length ks ≡ many

abbrev pub MakesAll : List ValueForm → List ValueForm → List Meant → ℕ → {E : Type 0} → Result (List ℕ) E → Type 0
MakesAll old new xs many (Ok ks) = AllMade old new xs many ks
MakesAll old new xs many (Err e) = Unit {0}

pub record NumbersMade (old new : List ValueForm) (xs : List NumberValue) (ks : List ℕ) : Type 0 where
  pub grows : Grown old new
  pub stand : AreNumbers (meanings new) ks xs

abbrev pub MakesNumbers : List ValueForm → List ValueForm → List NumberValue → {E : Type 0} → Result (List ℕ) E → Type 0
MakesNumbers old new xs (Ok ks) = NumbersMade old new xs ks
MakesNumbers old new xs (Err e) = Unit {0}

pub record SomeMade (old new : List ValueForm) (xs : List NumberValue) (many : ℕ) (ks : List ℕ) : Type 0 where
  pub grows : Grown old new
  pub stand : AreNumbers (meanings new) ks xs
  pub long : length ks ≡ many

abbrev pub MakesSome : List ValueForm → List ValueForm → List NumberValue → ℕ → {E : Type 0} → Result (List ℕ) E →
    Type 0
MakesSome old new xs many (Ok ks) = SomeMade old new xs many ks
MakesSome old new xs many (Err e) = Unit {0}

-- All of these are numbers.
abbrev pub AllNumbers : List Meant → List ℕ → Type 0
AllNumbers ms [] = Unit {0}
AllNumbers ms (k ∷ ks) = IsNumber ms k × AllNumbers ms ks

-- An act has these numbers.
pub record ActStands (ms : List Meant) (x : ActForm) (a : Act) : Type 0 where
  pub well : IsWellAct ms x
  pub is : act_in ms x ≡ a

pub record ActMade (old new : List ValueForm) (does : List Act) (x : Option ActForm) : Type 0 where
  pub grows : Grown old new
  pub stand : AllZip (ActStands (meanings new)) (option_to_list x) does

abbrev pub MakesAct : List ValueForm → List ValueForm → List Act → {E : Type 0} → Result (Option ActForm) E → Type 0
MakesAct old new does (Ok x) = ActMade old new does x
MakesAct old new does (Err e) = Unit {0}

-- One more operation is done.
pub record Learns (old new : List ValueForm) (w u : Walk) (o : trace.Operation) : Type 0 where
  pub grows : Grown old new
  pub same_trace : u.trace ≡ w.trace
  pub done : u.done ≡ w.done + 1
  pub knows : KnowsAs new u (known_after (known_to w) o)
