-- What readers take, part by part.
use Rattle.std.proofs.Common.{◌≡◌, ℕ, List, Option, Some, option_and_then, sym, ap, ◌∙◌}
use Rattle.trace_mean.specs.Trace.{TraceMessage, TraceNumber}
use Rattle.trace_core.specs.declared.node.Node.{Node}
use Rattle.trace_core.specs.View.{a_message, a_number}
use Rattle.trace_core.specs.Arena.{Made}
use Rattle.trace_core.proofs.Makes.{is_message, is_number, made_as}
use Rattle.pack_read.specs.Expressions.{MessageRead, NumberRead}

-- The first of two steps gave something, and the second this.
pub onto : {X Y : Type 0} (next : X → Option Y) {o : Option X} {x : X} {y : Option Y} → o ≡ Some x → next x ≡ y →
    option_and_then next o ≡ y
onto next e f = ap (option_and_then next) e ∙ f

-- Nodes stand for what was taken.
pub number_read : (taken : Option (TraceNumber × List ℕ)) (x : TraceNumber) (a b : List Node) (rest : List ℕ) (k : ℕ) →
    taken ≡ Some (x, rest) →
    Made a b k (a_number x) → NumberRead taken a b rest k
number_read taken x a b rest k e m = record {
  is = e ∙ ap (λ y. Some (y, rest)) (sym (is_number m));
  made = made_as m (ap a_number (sym (is_number m)));
}

pub message_read : (taken : Option (TraceMessage × List ℕ)) (x : TraceMessage) (a b : List Node) (rest : List ℕ)
    (k : ℕ) → taken ≡ Some (x, rest) →
    Made a b k (a_message x) → MessageRead taken a b rest k
message_read taken x a b rest k e m = record {
  is = e ∙ ap (λ y. Some (y, rest)) (sym (is_message m));
  made = made_as m (ap a_message (sym (is_message m)));
}
