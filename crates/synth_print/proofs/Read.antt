-- The text of a node is that of what it stands for.
use Rattle.std.proofs.Common.{◌≡◌, ℕ, ◌≤◌, List, ◌++◌, length, Some, sym, ap, subst, arith}
use Rattle.std.proofs.lemmas.Option.{slice_get_past}
use Rattle.std.specs.Prelude.{OnOk, Result}
use Rattle.bypass_mean.specs.Text.{number_text, message_text}
use Rattle.synth_print.specs.Texts.{layers_in, written_in, terms_in, number_at, message_at}
use Rattle.synth_print.specs.declared.scope.Scope.{Scope}
use Rattle.trace_core.specs.declared.node.Node.{Node}
use Rattle.trace_core.specs.View.{number_in, number_of, message_in, message_of, term_of, terms}
use Rattle.trace_core.proofs.Terms.{terms_long}
use Rattle.trace_mean.specs.Trace as trace

module _ {E : Type 0} (s : Scope) (k : ℕ) (x : Node) (r : Result (Unit {0}) E) (old new : List ℕ) where
  pub number_read : number_in (terms_in s) k ≡ number_of (Some (term_of (terms_in s) x)) →
      OnOk r (new ≡ old ++ number_text (layers_in s) (written_in s) (number_of (Some (term_of (terms_in s) x)))) →
      OnOk r (new ≡ old ++ number_at s k)
  number_read is put = subst (λ n. OnOk r (new ≡ old ++ number_text (layers_in s) (written_in s) n)) (sym is) put

  pub message_read : message_in (terms_in s) k ≡ message_of (Some (term_of (terms_in s) x)) →
      OnOk r (new ≡ old ++ message_text (layers_in s) (written_in s) (message_of (Some (term_of (terms_in s) x)))) →
      OnOk r (new ≡ old ++ message_at s k)
  message_read is put = subst (λ m. OnOk r (new ≡ old ++ message_text (layers_in s) (written_in s) m)) (sym is) put

-- where there is no node
pub no_number : (ns : List Node) (k : ℕ) → length ns ≤ k → number_in (terms ns) k ≡ trace.atom (trace.number 0)
no_number ns k le = ap number_of (slice_get_past (terms ns) k (omega (arith, le, terms_long ns)))

pub no_message : (ns : List Node) (k : ℕ) → length ns ≤ k → message_in (terms ns) k ≡ trace.core trace.nothing
no_message ns k le = ap message_of (slice_get_past (terms ns) k (omega (arith, le, terms_long ns)))
