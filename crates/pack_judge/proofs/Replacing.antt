-- A trace in place of the stack's own, or left out.
use Rattle.std.proofs.Common.{◌≡◌, Bool, true, false, nat_le, List, sym, ap, ◌∙◌}
use Rattle.std.specs.Prelude.{if◌then◌else◌}
use Rattle.trace_mean.specs.Trace.{Operation}
use Rattle.trace_mean.specs.Counts.{trace_joins}
use Rattle.symbol_mean.specs.Symbolic.{symbolic}
use Rattle.bypass_mean.specs.Bypasses.{fused}
use Rattle.bypass_laws.specs.Making.{simplest}
use Rattle.trace_core.specs.declared.bypass.Bypass.{Bypass}
use Rattle.trace_core.specs.Trees.{trace_tree, guarded_tree}
use Rattle.pack_judge.specs.Filling.{IsReplaced}

pub put_in_place : (own trace : List Operation) (b : Bypass) (few : Bool) →
    few ≡ nat_le (trace_joins trace) (trace_joins own) → few ≡ true →
    fused (trace_tree b.trace) (guarded_tree b.guarded) ≡ fused trace (simplest trace) → symbolic trace ≡ symbolic own →
    IsReplaced own trace b
put_in_place own trace b few is fits made same = record {
  made = made ∙ ap (λ t. fused t (simplest t)) (sym (ap (λ q. if q then trace else own) (sym is ∙ fits)));
  same = same;
}

pub left_out : (own : Bypass) (trace : List Operation) (few : Bool) →
    few ≡ nat_le (trace_joins trace) (trace_joins (trace_tree own.trace)) →
    few ≡ false → guarded_tree own.guarded ≡ simplest (trace_tree own.trace) →
    symbolic trace ≡ symbolic (trace_tree own.trace) →
    IsReplaced (trace_tree own.trace) trace own
left_out own trace few is over simple same = record {
  made = ap (fused (trace_tree own.trace)) simple
      ∙ ap (λ t. fused t (simplest t)) (sym (ap (λ q. if q then trace else trace_tree own.trace) (sym is ∙ over)));
  same = same;
}
