-- Statements that set numbers.
use Rattle.std.proofs.Common.{◌≡◌, ℕ, true, [], ◌∷◌, ◌++◌, append-nil, slice_index_or, Option, Some, None, refl, sym}
use Rattle.std.proofs.Common.{ap}
use Rattle.std.proofs.Common.{◌∙◌, subst}
use Rattle.msg_core.specs.Chain.{plain}
use Rattle.layer_mean.specs.Tree.{StatementTree}
use Rattle.layer_mean.specs.Tree as tree
use Rattle.layer_mean.specs.State.{State}
use Rattle.layer_mean.specs.Value.{Scope}
use Rattle.layer_mean.specs.Effect.{sent_as}
use Rattle.layer_mean.specs.Envelope.{event_in}
use Rattle.layer_desk.specs.Laid.{Laid}
use Rattle.layer_eval.specs.Did.{Did, statement_does}
use Rattle.layer_eval.specs.Owed.{sets_number, number_set, with_debt_paid, with_owed}
use Rattle.layer_eval.specs.declared.pending.Pending.{Pending}
use Rattle.layer_eval.specs.declared.predicted.Predicted.{Predicted}

-- where messages of the scope stay, what was sent does, with an emission that is yet to go
still_owed : (owed : Option Pending) (old : Laid) (s : State) (l : Scope) → l.messages ≡ old.scope.messages →
    with_owed owed (record old { state = s; scope = l }) ≡ with_owed owed old ++ []
still_owed None old s l same = sym (append-nil old.sent)
still_owed (Some e) old s l same =
    ap (λ ms. old.sent ++ (
      e.sending.direction,
      event_in e.sending.envelope
          (Some (sent_as e.sending.direction e.sending.header (slice_index_or ms e.slot (plain [])))),
    ) ∷ []) same ∙ sym (append-nil (with_owed (Some e) old))

-- a number is set, and an emission that is yet to go sends the message that it would have sent before
pub set_owing : (place : ℕ) (t : StatementTree) (owed : Option Pending) (old new : Laid) (p : Predicted) →
    true ≡ sets_number t → new ≡ number_set t old →
    Did (statement_does place t old) (with_debt_paid owed old) (with_debt_paid owed new) p p
set_owing place t owed old new p sets is =
    subst (λ z. Did (statement_does place t old) (with_debt_paid owed old) (with_debt_paid owed z) p p) (sym is)
    (go t sets) where
      go : (t : StatementTree) → true ≡ sets_number t →
          Did (statement_does place t old) (with_debt_paid owed old) (with_debt_paid owed (number_set t old)) p p
      go (tree.bind k e) sets = record {
        state = refl;
        scope = refl;
        arrived = refl;
        hand = refl;
        sent = still_owed owed old _ _ refl;
        predicted = refl;
      }
      go (tree.assign c i e) sets = record {
        state = refl;
        scope = refl;
        arrived = refl;
        hand = refl;
        sent = still_owed owed old _ _ refl;
        predicted = refl;
      }
      go (tree.assign_square c row column e) sets = record {
        state = refl;
        scope = refl;
        arrived = refl;
        hand = refl;
        sent = still_owed owed old _ _ refl;
        predicted = refl;
      }
      go (tree.push c i n row otherwise) sets = absurd (cc sets)
      go (tree.take c i taken block otherwise) sets = absurd (cc sets)
      go (tree.branch likely e block otherwise) sets = absurd (cc sets)
      go (tree.each k below most block) sets = absurd (cc sets)
      go (tree.emit e) sets = absurd (cc sets)

pub set_did : (place : ℕ) (t : StatementTree) (old new : Laid) (p : Predicted) →
    true ≡ sets_number t → new ≡ number_set t old → Did (statement_does place t old) old new p p
set_did place t old new p = set_owing place t None old new p
