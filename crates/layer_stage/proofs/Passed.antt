-- An event that passes a layer: it is sent as the visit of a layer without a handler sends it, and refers to what it
-- referred to.
use Rattle.std.proofs.Common.{◌≡◌, ℕ, ◌≤◌, ◌==◌, true, if◌then◌else◌, List, [], ◌∷◌, Option, Some, None, is_none}
use Rattle.std.proofs.Common.{option_map, refl, ap, ◌∙◌, arith}
use Rattle.std.proofs.lemmas.Bool.{and_parts, eqb-true}
use Rattle.slot_pool.specs.Held.{Held}
use Rattle.msg_core.specs.Chain.{Content, first_of, popped}
use Rattle.msg_core.specs.declared.message.Header.{Header}
use Rattle.layer_words.specs.declared.events.Dir.{Dir}
use Rattle.layer_words.specs.declared.events.Dir.TheVariants.{Up, Down}
use Rattle.layer_mean.specs.declared.run.Event.{Event}
use Rattle.layer_mean.specs.Effect.{unusual}
use Rattle.layer_mean.specs.State.{State}
use Rattle.layer_mean.specs.Tree.{LayerTree, HandlerTree}
use Rattle.layer_mean.specs.Visit.{following, met, handler_for, handled_visit, none_header, Visited, unhandled_visit}
use Rattle.layer_mean.specs.Visit.{step}
use Rattle.layer_desk.specs.Need.{headers_of, most_above}
use Rattle.pool_message.specs.Seen.{refs_if, content_seen, seen_if, event_seen, LiesIf}
use Rattle.pool_message.specs.Sent.{message_passed, CanPass}
use Rattle.pool_message.specs.declared.event.PoolEvent.{PoolEvent}
use Rattle.pool_message.specs.declared.message.PoolMessage.{PoolMessage}
use Rattle.layer_stage.specs.Passes.{is_passed, passed_by}

-- A visit that sends this event, and does nothing else.
abbrev pub sends : State → Dir → Event → Visited
sends s dir event = record { state = s; sent = (dir, event) ∷ []; decided = [] }

no_handler : (o : Option HandlerTree) → is_none o ≡ true → o ≡ None
no_handler None none = refl
no_handler (Some h) none = absurd (cc)

module _ (place : ℕ) (s : State) where
  -- After the tag 0, or after no header, a message goes on up.
  goes_up : (header : Option Header) (e : Event) (content : Content) → (following header content).tag ≡ 0 →
      unhandled_visit place s Up e (following header content) (following header content).message ≡
      sends s Up (record e { message = Some content })
  goes_up None e content tag = refl
  goes_up (Some h) e content tag =
      ap (λ t. if t == 0 then sends s Up (record e { message = Some content }) else record
      { state = s; sent = []; decided = unusual ∷ [] }) tag

  goes_on : (p : List Held) (dir : Dir) (e : PoolEvent) (message : Option PoolMessage) →
      (met dir (seen_if p message)).tag ≡ 0 →
      unhandled_visit place s dir (event_seen p e) (met dir (seen_if p message)) (met dir (seen_if p message)).message ≡
      sends s dir (event_seen p (record e { message = option_map (message_passed dir (none_header place)) message }))
  goes_on p dir e None tag = refl
  goes_on p Down e (Some m) tag = refl
  goes_on p Up e (Some m) tag = goes_up (first_of m.headers) (event_seen p e) (popped (content_seen p m)) tag

  -- The visit by an event that a layer lets pass.
  pub passes_on : (layer : LayerTree) (p : List Held) (dir : Dir) (e : PoolEvent) →
      is_passed layer dir (event_seen p e) ≡ true →
      step place layer s dir (event_seen p e) ≡ sends s dir (event_seen p (passed_by place dir e))
  unfolding step
  passes_on layer p dir e passes =
      let both = and_parts ((met dir (seen_if p e.message)).tag == 0) (is_none (handler_for layer dir e.kind 0)) passes
      in
      let tag = eqb-true (met dir (seen_if p e.message)).tag 0 both.0 in
      ap (λ t. handled_visit place (handler_for layer dir e.kind t) s dir (event_seen p e)
      (met dir (seen_if p e.message)))
      tag
      ∙ ap (λ handler. handled_visit place handler s dir (event_seen p e) (met dir (seen_if p e.message)))
      (no_handler (handler_for layer dir e.kind 0) both.1)
      ∙ goes_on p dir e e.message tag

-- Its message refers to what it referred to, and lies where it lay.
pub same_message : (dir : Dir) (header : Header) (m : Option PoolMessage) →
    refs_if (option_map (message_passed dir header) m) ≡ refs_if m
same_message dir header None = refl
same_message Up header (Some m) = refl
same_message Down header (Some m) = refl

pub still_lies : (p : List Held) (dir : Dir) (header : Header) (m : Option PoolMessage) → LiesIf p m →
    LiesIf p (option_map (message_passed dir header) m)
still_lies p dir header None lies = tt
still_lies p Up header (Some m) lies = lies
still_lies p Down header (Some m) lies = lies

-- A message with as few headers as a layer meets at most can pass.
pub can_pass : (p : List Held) (dir : Dir) (m : Option PoolMessage) →
    headers_of (met dir (seen_if p m)).message ≤ most_above → CanPass dir m
can_pass p Up m few = tt
can_pass p Down None few = tt
can_pass p Down (Some m) few = omega (arith, few)
