-- A visit from its parts.
use Rattle.std.proofs.Common.{◌≡◌, ℕ, List, [], ◌++◌, Option, Some, None, Result, Ok, Err, IfOk, refl, sym, ap, ◌∙◌}
use Rattle.std.specs.Prelude.{option_to_list}
use Rattle.layer_words.specs.declared.events.Dir.{Dir}
use Rattle.layer_words.specs.declared.events.Dir.TheVariants.{Up, Down}
use Rattle.layer_words.specs.declared.events.Kind.{Kind}
use Rattle.layer_words.specs.declared.events.Kind.TheVariants as kind
use Rattle.msg_core.specs.Chain.{Content, plain}
use Rattle.layer_mean.specs.Event.{arguments_for}
use Rattle.layer_mean.specs.Tree.{HandlerTree, LayerTree}
use Rattle.layer_mean.specs.State.{State}
use Rattle.layer_mean.specs.Value.{Scope}
use Rattle.layer_mean.specs.Effect.{in_order, acts}
use Rattle.layer_eval.specs.Did.{as_predicted}
use Rattle.layer_mean.specs.Visit.{no_scope, Met, met, Visited, with_room, expecting, handler_for, handled_visit}
use Rattle.layer_mean.specs.Visit.{unhandled_visit}
use Rattle.layer_mean.specs.Visit.{step}
use Rattle.layer_mean.specs.declared.envelope.Envelope.{Envelope}
use Rattle.layer_desk.specs.Laid.{Laid}
use Rattle.layer_mean.specs.Envelope.{event_in}
use Rattle.layer_eval.specs.declared.predicted.Predicted.{Predicted}
use Rattle.layer_eval.specs.Visit.{Visits, arrived_visit, meets, handler_visited, passed_visit}

-- an event's arguments don't depend on its message
arguments_same : (k : Kind) (e : Envelope) (x y : Option Content) → arguments_for k (event_in e x) ≡
    arguments_for k (event_in e y)
arguments_same kind.Cast e x y = refl
arguments_same kind.Send e x y = refl
arguments_same kind.Timer e x y = refl
arguments_same kind.Suspect e x y = refl
arguments_same kind.Stable e x y = refl
arguments_same kind.Ack e x y = refl
arguments_same kind.Elect e x y = refl
arguments_same kind.Block e x y = refl
arguments_same kind.BlockOk e x y = refl
arguments_same kind.Flushed e x y = refl
arguments_same kind.View e x y = refl
arguments_same kind.Leave e x y = refl

-- nor is what is done without a handler
unhandled_same : (place : ℕ) (s : State) (dir : Dir) (e : Envelope) (x : Option Content) (m : Met)
    (o : Option Content) →
    unhandled_visit place s dir (event_in e x) m o ≡
    unhandled_visit place s dir (event_in e None) (record { tag = m.tag; fields = []; message = o }) o
unhandled_same place s Up e x m None = refl
unhandled_same place s Down e x m None = refl
unhandled_same place s Up e x m (Some content) = refl
unhandled_same place s Down e x m (Some content) = refl

-- what a handler does in a scope with these arguments
abbrev handled_with : ℕ → HandlerTree → State → List ℕ → Met → List ℕ → Visited
handled_with place h s fields m args =
    let l : Scope = record {
      numbers = with_room h.numbers 0 (args ++ fields);
      messages =
          with_room h.messages (plain []) (option_to_list m.message);
    } in
    let o = expecting h.expected s l (in_order (acts place h.block) s l) in
    record { state = o.state; sent = o.sent; decided = o.decided }

stepped : (place : ℕ) (layer : LayerTree) (dir : Dir) (e : Envelope) (p : Laid) (tag : ℕ) (h : Option HandlerTree) →
    handler_for layer dir e.kind tag ≡ h → tag ≡ (met dir p.arrived).tag →
    arrived_visit place layer dir e p ≡ handled_visit place h p.state dir (event_in e p.arrived) (met dir p.arrived)
unfolding step
stepped place layer dir e p tag h found is =
    ap (λ g. handled_visit place g p.state dir (event_in e p.arrived) (met dir p.arrived))
    (ap (handler_for layer dir e.kind) (sym is) ∙ found)

-- another visit that is as this one
pub visits_as : (v w : Visited) (old mid new : Laid) (q : Predicted) → w ≡ v → mid.hand ≡ old.hand →
    mid.sent ≡ old.sent → Visits v mid new q → Visits w old new q
visits_as v w old mid new q same hand sent visits = record {
  shown = visits.shown ∙
      (λ i. record {
        state = (sym same i).state;
        scope = no_scope;
        arrived = None;
        hand = hand i;
        sent = sent i ++
            (sym same i).sent;
      });
  predicted = visits.predicted ∙ ap (λ (z : Visited). as_predicted z.decided) (sym same);
}

pub some_step : (place : ℕ) (layer : LayerTree) (dir : Dir) (e : Envelope) (old mid new : Laid) (tag : ℕ)
    (fields : List ℕ) (h : HandlerTree) (q : Predicted) →
    handler_for layer dir e.kind tag ≡ Some h → tag ≡ (met dir old.arrived).tag →
    fields ≡ (met dir old.arrived).fields → mid ≡ meets dir old →
    Visits (handler_visited place h e fields mid) mid new q → Visits (arrived_visit place layer dir e old) old new q
some_step place layer dir e old mid new tag fields h q found is fields_are met_is visits =
    let m = met dir old.arrived in
    let same : arrived_visit place layer dir e old ≡ handler_visited place h e fields mid =
    stepped place layer dir e old tag (Some h) found is
    ∙ ap (handled_with place h old.state m.fields m) (arguments_same e.kind e old.arrived None)
    ∙ ap (λ fs. handler_visited place h e fs (meets dir old)) (sym fields_are)
    ∙ ap (handler_visited place h e fields) (sym met_is) in
    visits_as _ _ old mid new q same (ap (λ (z : Laid). z.hand) met_is) (ap (λ (z : Laid). z.sent) met_is) visits

pub none_step : (place : ℕ) (layer : LayerTree) (dir : Dir) (e : Envelope) (old mid new : Laid) (tag : ℕ)
    (q : Predicted) →
    handler_for layer dir e.kind tag ≡ None → tag ≡ (met dir old.arrived).tag → mid ≡ meets dir old →
    Visits (passed_visit place dir e tag mid) mid new q → Visits (arrived_visit place layer dir e old) old new q
none_step place layer dir e old mid new tag q found is met_is visits =
    let same : arrived_visit place layer dir e old ≡ passed_visit place dir e tag mid =
    stepped place layer dir e old tag None found is
    ∙ unhandled_same place old.state dir e old.arrived (met dir old.arrived) (met dir old.arrived).message
    ∙ ap (λ t. passed_visit place dir e t (meets dir old)) (sym is)
    ∙ ap (passed_visit place dir e tag) (sym met_is) in
    visits_as _ _ old mid new q same (ap (λ (z : Laid). z.hand) met_is) (ap (λ (z : Laid). z.sent) met_is) visits

pub if_ok : {A B : Type 0} (P Q : A → Type 0) (r : Result A B) → ((a : A) → P a → Q a) → IfOk r P → IfOk r Q
if_ok P Q (Ok a) f is = f a is
if_ok P Q (Err b) f is = is
