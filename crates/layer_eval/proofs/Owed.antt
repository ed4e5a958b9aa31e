-- The event of an emission that is put off.
use Rattle.std.proofs.Common.{◌≡◌, ℕ, [], map, slice_index_or, Option, Some, option_map, sym, ap, ◌∙◌}
use Rattle.msg_core.specs.Chain.{plain}
use Rattle.msg_core.specs.Chain.{Content as Bytes}
use Rattle.msg_core.specs.declared.message.Header.{Header}
use Rattle.layer_mean.specs.Event.{event_of}
use Rattle.layer_mean.specs.Tree.{ContentTree}
use Rattle.layer_mean.specs.Effect.{header_of, sent_as, emitted_event}
use Rattle.typed_layer.specs.View.{expression_tree, message_tree, content_tree, emission_tree}
use Rattle.typed_layer.specs.declared.tree.Content.{Content}
use Rattle.typed_layer.specs.declared.tree.Emission.{Emission}
use Rattle.typed_layer.specs.declared.tree.MessageExpression as rust_message
use Rattle.layer_mean.specs.declared.envelope.Envelope.{Envelope}
use Rattle.layer_desk.specs.Laid.{Laid}
use Rattle.layer_mean.specs.Envelope.{event_in}
use Rattle.layer_eval.specs.Worth.{numbers_of, message_of}
use Rattle.layer_eval.specs.Owed.{owed_event}

-- the event of an emission of a message of the scope
pub put_off_event : (place : ℕ) (e : Emission) (c : Content) (k : ℕ) (p : Laid) (envelope : Envelope) (h : Header) →
    e.content ≡ Some c →
    c.message ≡ rust_message.Local k → h ≡ header_of place (content_tree c) p.state p.scope →
    ((m : Option Bytes) → event_in envelope m ≡ event_of e.kind (numbers_of (map expression_tree e.numbers) p) m) →
    owed_event
    (record { sending = record { direction = e.direction; envelope = envelope; header = h }; slot = k }) p ≡
    (e.direction, emitted_event place (emission_tree e) p.state p.scope)
put_off_event place e c k p envelope h has is header_is envelope_is =
    let pushed = λ (h : Header) (m : Bytes). Some (sent_as e.direction h m) in
    ap (λ event. (e.direction, event))
    (envelope_is (pushed h (slice_index_or p.scope.messages k (plain [])))
    ∙ ap (event_of e.kind (numbers_of (map expression_tree e.numbers) p))
    (ap (λ h. pushed h (slice_index_or p.scope.messages k (plain []))) header_is
    ∙ ap (λ m. pushed (header_of place (content_tree c) p.state p.scope) (message_of (message_tree m) p)) (sym is)
    ∙ ap (λ (x : Option Content).
    option_map (λ (c : ContentTree). sent_as e.direction (header_of place c p.state p.scope)
    (message_of c.message p)) (option_map content_tree x)) (sym has)))
