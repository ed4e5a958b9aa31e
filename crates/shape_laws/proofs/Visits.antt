-- What is drawn of a visit is what it sends, where it goes as predicted.
use Rattle.std.proofs.Common.{◌≡◌, ℕ, zero, suc, Bool, true, false, List, [], ◌∷◌, ◌++◌, Option, Some, None, refl, sym}
use Rattle.std.proofs.Common.{subst}
use Rattle.std.specs.Prelude.{if◌then◌else◌, ◌==◌, Result, Ok, Err, option_map, option_to_list}
use Rattle.msg_core.specs.Chain.{Content, plain, pushed, popped, first_of}
use Rattle.msg_core.specs.declared.message.Header.{Header}
use Rattle.layer_words.specs.declared.events.Dir.{Dir}
use Rattle.layer_words.specs.declared.events.Dir.TheVariants.{Up, Down}
use Rattle.layer_mean.specs.declared.run.Case.{Case}
use Rattle.layer_mean.specs.declared.run.Event.{Event}
use Rattle.layer_mean.specs.Tree.{HandlerTree, LayerTree}
use Rattle.layer_mean.specs.State.{State}
use Rattle.layer_mean.specs.Value.{Scope}
use Rattle.layer_mean.specs.Effect.{Outcome, unusual}
use Rattle.layer_mean.specs.Visit.{Met, following, met, handler_for, with_room, entered_scope, sent_on, unhandled_visit}
use Rattle.layer_mean.specs.Visit.{handled_visit, step}
use Rattle.layer_mean.specs.Way.{Step, handler_way, way_length}
use Rattle.stack_mean.specs.NoShape.{NoShape, drawn_from}
use Rattle.stack_mean.specs.NoShape as no_shape
use Rattle.stack_mean.specs.Drawn.{DrawnHeader, DrawnMessage, chained, DrawnEvent, Drawing, draw_steps, DrawnVisit}
use Rattle.stack_mean.specs.Drawn.{DrawnMet, popped_of, drawn_met, drawn_on, drawn_unhandled, drawn_entered, drawn_way}
use Rattle.stack_mean.specs.Drawn.{drawn_handled, drawn_visit}
use Rattle.shape_laws.specs.Bare.{BareWay, BareHandled, BareVisit}
use Rattle.shape_laws.specs.Known.{Pairwise, HeadersAre, MessageIs, EventIs}
use Rattle.shape_laws.proofs.Predicted.{AllAs, here, start, Went, handler_goes}
use Rattle.shape_laws.proofs.Draws.{Scopes, SentIs, Stands, Drawn, Draws, way_draws}

-- what is drawn of a visit is what it sent
abbrev pub VisitDrawn : Result DrawnVisit NoShape → List (Dir × Event) → Type 0
VisitDrawn (Err reason) sent = Unit {0}
VisitDrawn (Ok v) sent = Pairwise SentIs v.sent sent

more_room : (ds : List DrawnMessage) (ms : List Content) → Scopes ds ms →
    Scopes (ds ++ chained [] ∷ []) (ms ++ plain [] ∷ [])
more_room [] [] h = (tt, tt)
more_room (d ∷ ds) (m ∷ ms) h = (h.0, more_room ds ms h.1)
more_room [] (m ∷ ms) h = absurd h
more_room (d ∷ ds) [] h = absurd h

with_room_too : (k : ℕ) (ds : List DrawnMessage) (ms : List Content) → Scopes ds ms →
    Scopes (with_room k (chained []) ds) (with_room k (plain []) ms)
with_room_too zero ds ms h = h
with_room_too (suc k) ds ms h = with_room_too k (ds ++ chained [] ∷ []) (ms ++ plain [] ∷ []) (more_room ds ms h)

own_message : (headers : Option (List DrawnHeader)) (m : Option Content) → MessageIs headers m →
    Scopes (option_to_list (option_map chained headers)) (option_to_list m)
own_message None None e = tt
own_message (Some headers) (Some m) e = (e, tt)
own_message None (Some m) e = absurd e
own_message (Some headers) None e = absurd e

-- what is met on arrival
abbrev MetSame : DrawnMet → Met → Type 0
MetSame d m = (d.tag ≡ m.tag) × MessageIs d.headers m.message

popped_same : (hs : List DrawnHeader) (ns : List Header) (body : List ℕ) → HeadersAre hs ns →
    MetSame (popped_of hs) (following (first_of ns) (popped (record { headers = ns; body = body })))
popped_same [] [] body e = (refl, tt)
popped_same (h ∷ hs) (n ∷ ns) body e = (e.0.tag, e.1)
popped_same [] (n ∷ ns) body e = absurd e
popped_same (h ∷ hs) [] body e = absurd e

met_same : (dir : Dir) (headers : Option (List DrawnHeader)) (m : Option Content) → MessageIs headers m →
    MetSame (drawn_met dir headers) (met dir m)
met_same dir None None e = (refl, tt)
met_same Up (Some headers) (Some m) e = popped_same headers m.headers m.body e
met_same Down (Some headers) (Some m) e = (refl, e)
met_same dir None (Some m) e = absurd e
met_same dir (Some headers) None e = absurd e

-- one event that is sent on
passes_on : (dir : Dir) (e : Event) (d : DrawnEvent) (headers : Option (List DrawnHeader)) (m : Option Content) →
    d.kind ≡ e.kind → MessageIs headers m →
    Pairwise SentIs (drawn_on dir d headers).sent ((dir, record e { message = m }) ∷ [])
passes_on dir e d headers m kind same = ((refl, record { kind = kind; message = same }), tt)

unhandled_same : (case : Case) (place : ℕ) (s : State) (dir : Dir) (e : Event) (d : DrawnEvent) (tag : ℕ) (m : Met)
    (headers : Option (List DrawnHeader)) (content : Option Content) →
    d.kind ≡ e.kind → tag ≡ m.tag → MessageIs headers content →
    AllAs case (unhandled_visit place s dir e m content).decided →
    VisitDrawn (drawn_unhandled place dir d tag headers) (unhandled_visit place s dir e m content).sent
unhandled_same case place s dir e d tag m None None kind popped same h = passes_on dir e d None None kind tt
unhandled_same case place s Down e d tag m (Some headers) (Some c) kind popped same h =
    passes_on Down e d (Some (record { tag = 0; fields = [] } ∷ headers))
    (Some (pushed (record { layer = place; tag = 0; fields = [] }) c)) kind
    (record { tag = refl; fields = tt }, same)
unhandled_same case place s Up e d tag m (Some headers) (Some c) kind popped same h =
    subst (λ t. VisitDrawn (if t == 0 then Ok (drawn_on Up d (Some headers)) else Err (no_shape.rare place))
    (unhandled_visit place s Up e m (Some c)).sent)
    (sym popped) (go (m.tag == 0) h) where
      go : (b : Bool) → AllAs case
          (if b then sent_on s Up e (Some c) else record { state = s; sent = []; decided = unusual ∷ [] }).decided →
          VisitDrawn (if b then Ok (drawn_on Up d (Some headers)) else Err (no_shape.rare place))
          (if b then sent_on s Up e (Some c) else record { state = s; sent = []; decided = unusual ∷ [] }).sent
      go true h = passes_on Up e d (Some headers) (Some c) kind same
      go false h = tt
unhandled_same case place s dir e d tag m None (Some c) kind popped same h = absurd same
unhandled_same case place s dir e d tag m (Some headers) None kind popped same h = absurd same

way_drawn : (place : ℕ) (w : Option (List Step)) (s : State) (l : Scope) (o : Outcome) (d : Drawing) →
    Stands d (start [] s l) →
    BareWay place w s l → Went place w s l o → VisitDrawn (drawn_way place w d) o.sent
way_drawn place None s l o d stands bare went = absurd went
way_drawn place (Some steps) s l o d stands bare went =
    go (draw_steps place steps d)
    (subst (Draws (draw_steps place steps d)) went (way_draws place steps d (start [] s l) stands bare)) where
      go : (r : Result Drawing NoShape) → Drawn r (here [] o) →
          VisitDrawn (drawn_from (λ e. Ok (record { sent = e.sent; length = way_length steps })) r) o.sent
      go (Err reason) stands = tt
      go (Ok e) stands = stands.1

handled_same : (case : Case) (place : ℕ) (x : Option HandlerTree) (s : State) (dir : Dir) (e : Event) (d : DrawnEvent)
    (dm : DrawnMet) (m : Met) →
    d.kind ≡ e.kind → MetSame dm m → BareHandled case place x s e m →
    AllAs case (handled_visit place x s dir e m).decided →
    VisitDrawn (drawn_handled case place x dir d dm) (handled_visit place x s dir e m).sent
handled_same case place None s dir e d dm m kind same bare h =
    unhandled_same case place s dir e d dm.tag m dm.headers m.message kind same.0 same.1 h
handled_same case place (Some x) s dir e d dm m kind same bare h =
    way_drawn place (handler_way case x) s (entered_scope x e m) _ (drawn_entered x dm.headers)
    (with_room_too x.messages _ _ (own_message dm.headers m.message same.1), tt) bare
    (handler_goes case place x s (entered_scope x e m) h)

pub visit_same : (case : Case) (place : ℕ) (layer : LayerTree) (s : State) (dir : Dir) (e : Event) (d : DrawnEvent) →
    EventIs d e → BareVisit case place layer s dir e → AllAs case (step place layer s dir e).decided →
    VisitDrawn (drawn_visit case place layer dir d) (step place layer s dir e).sent
unfolding step
visit_same case place layer s dir e d same bare h =
    let kind = same.kind in
    let m = met_same dir d.headers e.message same.message in
    let chosen : handler_for layer dir e.kind (met dir e.message).tag ≡
    handler_for layer dir d.kind (drawn_met dir d.headers).tag =
    λ i. handler_for layer dir (sym kind i) (sym m.0 i) in
    subst (λ x. VisitDrawn (drawn_handled case place x dir d (drawn_met dir d.headers))
    (handled_visit place (handler_for layer dir e.kind (met dir e.message).tag) s dir e (met dir e.message)).sent)
    chosen (handled_same case place _ s dir e d (drawn_met dir d.headers) (met dir e.message) kind m bare h)
