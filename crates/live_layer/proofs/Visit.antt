-- A visit at a desk: it is ready where only rows lay on it, and after the visit it is so again.
use Rattle.std.proofs.Common.{◌≡◌, ℕ, ◌+◌, ◌≤◌, List, [], ◌∷◌, ◌++◌, Option, Some, None, map, reverse, length, flat_map}
use Rattle.std.proofs.Common.{refl, sym, ap, subst, ◌∙◌, arith}
use Rattle.std.specs.List.{AllByRecursion}
use Rattle.std.proofs.Math.Seq.{take-length}
use Rattle.std.proofs.lemmas.List.{length-map, length-reverse}
use Rattle.circular_buffer.specs.Buffer.{Buffer}
use Rattle.slot_pool.specs.Held.{Held, spare}
use Rattle.slot_pool.specs.References.{Moved, Covers}
use Rattle.slot_pool.specs.Times.{times}
use Rattle.slot_pool.proofs.References.{moved-same, moved-reordered}
use Rattle.slot_pool.proofs.Times.{times-append}
use Rattle.layer_words.specs.declared.events.Dir.{Dir}
use Rattle.layer_mean.specs.Tree.{LayerTree}
use Rattle.layer_mean.specs.Visit.{met, no_scope, handler_for}
use Rattle.layer_mean.specs.Value.{Scope}
use Rattle.layer_desk.specs.Laid.{Laid}
use Rattle.layer_desk.specs.Need.{Layout, visit_need, most_above}
use Rattle.layer_desk.specs.Spent.{Begun, Suffices}
use Rattle.layer_stage.specs.Room.{slots_needed, places_needed, headers_met, most_counted, CountsWithin}
use Rattle.layer_stage.proofs.Needs.{slots_at_a_desk, places_at_a_desk, headers_at_a_desk}
use Rattle.pool_message.specs.Seen.{refs, content_seen, Lies, refs_if, seen_if, event_refs, event_seen, EventLies}
use Rattle.pool_message.specs.Sent.{sent_refs, SentLie, most_sent}
use Rattle.pool_message.specs.declared.event.PoolEvent.{PoolEvent}
use Rattle.pool_message.specs.declared.message.PoolMessage.{PoolMessage}
use Rattle.live_layer.specs.Stock.{Stock, kept_refs, stock_refs, laid}
use Rattle.live_layer.specs.Fits.{IsShort}
use Rattle.live_layer.specs.Ready.{stock_of, layout_of, forms_of, room_of, IsReady}
use Rattle.live_layer.specs.Rest.{IsMadeFor, KeepsFew, IsAtRest, begins, ends}
use Rattle.live_layer.specs.declared.desk.FileDesk.{FileDesk}
use Rattle.live_layer.proofs.Parts.{parts}

-- How a visit at a desk begins.
abbrev pub begun_at : List Held → FileDesk → Begun
begun_at p d = record {
  pool = p;
  refs = stock_refs (stock_of d);
  layout = layout_of d;
  list =
      d.tray.sent.capacity;
  forms = forms_of d;
}

-- The references of a desk on which there are rows, a message that arrived and what was sent.
refs_at : (i : ℕ) (s : Stock) → s.messages ≡ [] → s.hand ≡ [] →
    times i (stock_refs s) ≡ times i (kept_refs s.kept) + (times i (refs_if s.arrived) + times i (sent_refs s.sent))
refs_at i s messages hand =
    let all = parts i s in let one = ap (λ ms. times i (flat_map refs ms)) messages in let two =
    ap (λ ms. times i (flat_map refs ms)) hand in omega arith

module _ (layer : LayerTree) (p : List Held) (d : FileDesk) (rest : IsAtRest layer p d) (event : PoolEvent)
    (out : Buffer (Dir × PoolEvent)) (dir : Dir)
    (within : length out.items ≤ out.capacity) (few : out.capacity ≤ most_sent) where
  abbrev first : FileDesk
  first = begins event.message out d

  same_refs : (i : ℕ) → times i (stock_refs (stock_of first)) ≡
      times i (kept_refs d.cells ++ (event_refs event ++ sent_refs out.items))
  same_refs i =
      let all = refs_at i (stock_of first) rest.messages rest.hand in
      omega (
        arith,
        times-append i (kept_refs d.cells) (event_refs event ++ sent_refs out.items),
        times-append i (event_refs event) (sent_refs out.items),
      )

  pub begins_ready : EventLies p event → SentLie p out.items →
      Covers p (kept_refs d.cells ++ (event_refs event ++ sent_refs out.items)) →
      CountsWithin most_counted p → IsReady (begun_at p first) p first
  begins_ready lies lie covers counts = record {
    pool = record {
      few = counts.within;
      covered = record { covers = λ i. let same = same_refs i in let all = covers.covers i in omega arith };
      moved = moved-same p (stock_refs (stock_of first));
      lies = record {
        kept = rest.lie;
        messages = subst (AllByRecursion (Lies p)) (sym rest.messages) tt;
        arrived = lies;
        hand = subst (AllByRecursion (Lies p)) (sym rest.hand) tt;
        sent = lie;
      };
    };
    layout = refl;
    fits = record {
      rows = refl;
      cells = rest.cells;
      numbers = let none = ap length rest.numbers in omega arith;
      messages = let none = ap length rest.messages in omega arith;
      short = subst (AllByRecursion IsShort) (sym rest.messages) tt;
      hand = let none = ap length rest.hand in omega arith;
      hand_short = subst (AllByRecursion IsShort) (sym rest.hand) tt;
      sent = omega arith;
      few = rest.few.own;
    };
    numbers = rest.numbers_room;
    messages = rest.messages_room;
    forms = refl;
    sent = record {
      kept = refl;
      before = omega arith;
      within = omega arith;
      few = few;
      old = λ i.
          let whole = ap (λ events. times i (sent_refs events)) (take-length out.items) in
          let all = refs_at i (stock_of first) rest.messages rest.hand in omega arith;
    };
  }

  pub begins_with_room : headers_met dir (event_seen p event) ≤ most_above →
      slots_needed layer dir (event_seen p event) ≤ spare p →
      length out.items + places_needed layer dir (event_seen p event) ≤ out.capacity →
      Suffices (room_of p first)
      (visit_need (layout_of first) (handler_for layer dir event.kind (met dir (seen_if p event.message)).tag)
      (met dir (seen_if p event.message)))
  begins_with_room headers slots places =
      let m = met dir (seen_if p event.message) in
      let hand = rest.made.hand first.places dir event.kind m in
      let none = ap length rest.hand in
      let one = slots_at_a_desk (layout_of first) layer dir (event_seen p event) in
      let two = places_at_a_desk (layout_of first) layer dir (event_seen p event) in
      let three = headers_at_a_desk (layout_of first) layer dir (event_seen p event) in
      record {
        slots = omega arith;
        places = omega arith;
        hand = omega arith;
        headers = omega arith;
        misfits = rest.made.misfits first.places dir event.kind m;
      }

-- What shows nothing is nothing.
no_messages : (q : List Held) (ms : List PoolMessage) → map (content_seen q) ms ≡ [] → ms ≡ []
no_messages q [] none = refl
no_messages q (m ∷ ms) none = absurd (cc)

no_message : (q : List Held) (m : Option PoolMessage) → seen_if q m ≡ None → m ≡ None
no_message q None none = refl
no_message q (Some m) none = absurd (cc)

empty_hand : (q : List Held) (ms : List PoolMessage) (old : List PoolMessage) (p : List Held) → old ≡ [] →
    reverse (map (content_seen q) ms) ≡ reverse (map (content_seen p) old) → ms ≡ []
empty_hand q [] old p none same = refl
empty_hand q (m ∷ ms) old p none same =
    let long = ap length same in
    let one = length-reverse (map (content_seen q) (m ∷ ms)) in let two = length-reverse (map (content_seen p) old) in
    let three = length-map old (content_seen p) in let four = ap length none in absurd (omega arith)

module _ (layer : LayerTree) (p q : List Held) (d e : FileDesk) (rest : IsAtRest layer p d) (event : PoolEvent)
    (out : Buffer (Dir × PoolEvent))
    (ready : IsReady (begun_at p (begins event.message out d)) q e)
    (shown : Laid) (is : laid q (stock_of e) ≡ shown) (scope : shown.scope ≡ no_scope) (arrived : shown.arrived ≡ None)
    (hand : shown.hand ≡ reverse (map (content_seen p) d.hand.items)) where
  pub messages_gone : e.tray.messages.items ≡ []
  messages_gone = no_messages q e.tray.messages.items
      (ap (λ (l : Laid). l.scope.messages) is ∙ ap (λ (l : Scope). l.messages) scope)

  pub arrived_gone : e.tray.arrived ≡ None
  arrived_gone = no_message q e.tray.arrived (ap (λ (l : Laid). l.arrived) is ∙ arrived)

  hand_gone : e.hand.items ≡ []
  hand_gone = empty_hand q e.hand.items d.hand.items p rest.hand (ap (λ (l : Laid). l.hand) is ∙ hand)

  pub ends_at_rest : (none : Buffer (Dir × PoolEvent)) → none.items ≡ [] → IsAtRest layer q (ends none e)
  ends_at_rest none empty =
      let made = ready.layout in record {
        lie = ready.pool.lies.kept;
        cells = ready.fits.cells;
        forms = ready.forms ∙ rest.forms;
        numbers = ap (λ (l : Laid). l.scope.numbers) is ∙ ap (λ (l : Scope). l.numbers) scope;
        messages = messages_gone;
        arrived = arrived_gone;
        hand = hand_gone;
        sent = empty;
        numbers_room = ready.numbers;
        messages_room = ready.messages;
        few = subst KeepsFew (sym (ap (λ (l : Layout). record l { places = 0 }) made))
            (record { rows = rest.few.rows; own = rest.few.own });
        made = subst (IsMadeFor layer) (sym (ap (λ (l : Layout). record l { places = 0 }) made))
            (record { misfits = rest.made.misfits; hand = rest.made.hand });
      }

  pub ends_moved : Moved p q (stock_refs (stock_of (begins event.message out d))) (stock_refs (stock_of e)) →
      Moved p q (kept_refs d.cells ++ (event_refs event ++ sent_refs out.items))
      (kept_refs e.cells ++ sent_refs e.tray.sent.items)
  ends_moved moved =
      moved-reordered p q (stock_refs (stock_of (begins event.message out d))) (stock_refs (stock_of e))
      (kept_refs d.cells ++ (event_refs event ++ sent_refs out.items))
      (kept_refs e.cells ++ sent_refs e.tray.sent.items)
      (λ i.
      let all = refs_at i (stock_of (begins event.message out d)) rest.messages rest.hand in
      omega (
        arith,
        times-append i (kept_refs d.cells) (event_refs event ++ sent_refs out.items),
        times-append i (event_refs event) (sent_refs out.items),
      ))
      (λ i.
      let all = refs_at i (stock_of e) messages_gone hand_gone in let none =
      ap (λ m. times i (refs_if m)) arrived_gone in
      omega (arith, times-append i (kept_refs e.cells) (sent_refs e.tray.sent.items)))
      moved
