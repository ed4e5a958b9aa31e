-- Sending at a desk that has no more than it is made for.
use Rattle.std.proofs.Common.{◌≡◌, ℕ, ◌+◌, ◌≤◌, List, [], ◌∷◌, ◌++◌, Option, Some, None, option_map, map, slice_get}
use Rattle.std.proofs.Common.{set, get_or, length, sym, ap, subst, ◌∙◌, arith}
use Rattle.std.specs.List.{AllByRecursion}
use Rattle.std.proofs.lemmas.List.{length-append, take-append-le}
use Rattle.circular_buffer.specs.Buffer.{Buffer, buffer}
use Rattle.slot_pool.specs.Held.{Held}
use Rattle.slot_pool.specs.Times.{times}
use Rattle.msg_core.specs.Chain.{plain}
use Rattle.msg_core.specs.declared.message.Header.{Header}
use Rattle.layer_words.specs.declared.events.Dir.{Dir}
use Rattle.layer_mean.specs.Effect.{sent_as}
use Rattle.layer_desk.specs.Laid.{sends, sends_first, passes_on}
use Rattle.layer_mean.specs.Envelope.{event_in}
use Rattle.layer_desk.specs.Need.{Layout}
use Rattle.layer_desk.specs.Spent.{Begun}
use Rattle.layer_mean.specs.declared.envelope.Envelope.{Envelope}
use Rattle.pool_message.specs.Moves.{Kept, Returned, Derived}
use Rattle.pool_message.specs.Piled.{pile_refs}
use Rattle.pool_message.specs.Seen.{bodiless, refs, content_seen}
use Rattle.pool_message.specs.declared.event.PoolEvent.{PoolEvent}
use Rattle.pool_message.specs.declared.message.PoolMessage.{PoolMessage}
use Rattle.pool_message.specs.Sent.{sent_refs, sent_after, pool_event}
use Rattle.live_layer.specs.Scope.{without_messages}
use Rattle.live_layer.specs.Sent.{TakesLast}
use Rattle.live_layer.specs.Stock.{Stock, laid}
use Rattle.live_layer.specs.Steps.{InPool}
use Rattle.live_layer.specs.Fits.{IsShort, StockFits, SentGrows}
use Rattle.live_layer.proofs.Lists.{all-front, seen_at, seen_none}
use Rattle.live_layer.proofs.Ready.{scope_there}
use Rattle.live_layer.proofs.Scope.{messages_gone}
use Rattle.live_layer.proofs.Sending.{sent_alone, bare_sent, kept_sent, scope_sent, sent_first, passed_on}
use Rattle.live_layer.proofs.Sent.{is_derived, same_refs, still_lies, shows_sent}

-- One event more.
pub sent_grows : (from : List ℕ) (list first places : ℕ) (old : Buffer (Dir × PoolEvent)) (x : Dir × PoolEvent) →
    SentGrows from list first places old →
    SentGrows from list first places (buffer (old.items ++ x ∷ []) old.capacity)
sent_grows from list first places old x grows = record {
  kept = grows.kept;
  before = let few = grows.before in omega (arith, length-append old.items (x ∷ []));
  within = grows.within;
  few = grows.few;
  old = λ i. let kept = ap (λ events. times i (sent_refs events)) (take-append-le first old.items (x ∷ []) grows.before)
      in let all = grows.old i in omega arith;
}

fits_sent : (l : Layout) (s : Stock) (hand : List PoolMessage) (arrived : Option PoolMessage)
    (sent : List (Dir × PoolEvent)) → StockFits l s →
    length hand ≤ l.hand → AllByRecursion IsShort hand → length sent ≤ l.places →
    StockFits l (record s { hand = hand; arrived = arrived; sent = sent })
fits_sent l s hand arrived sent fits few short places = record {
  rows = fits.rows;
  cells = fits.cells;
  numbers = fits.numbers;
  messages = fits.messages;
  short = fits.short;
  hand = few;
  hand_short = short;
  sent = places;
  few = fits.few;
}

longer_fits : (l : Layout) (s : Stock) → StockFits l s → length s.sent + 1 ≤ l.places →
    (arrived : Option PoolMessage) (x : Dir × PoolEvent) →
    StockFits l (record s { arrived = arrived; sent = s.sent ++ x ∷ [] })
longer_fits l s fits places arrived x =
    fits_sent l s s.hand arrived (s.sent ++ x ∷ []) fits fits.hand fits.hand_short
    (omega (arith, places, length-append s.sent (x ∷ [])))

-- An event without a message is sent.
pub alone_fits : (b : Begun) (p : List Held) (s : Stock) → InPool b p s → StockFits b.layout s →
    (dir : Dir) (e : Envelope) → length s.sent + 1 ≤ b.layout.places →
    InPool b p (record s { sent = s.sent ++ (dir, pool_event e None) ∷ [] }) ×
    StockFits b.layout (record s { sent = s.sent ++ (dir, pool_event e None) ∷ [] }) ×
    (laid p (record s { sent = s.sent ++ (dir, pool_event e None) ∷ [] }) ≡ sends dir (event_in e None) (laid p s))
alone_fits b p s is fits dir e places =
    let step = sent_alone b p s is dir e in
    (step.0, longer_fits b.layout s fits places s.arrived (dir, pool_event e None), step.1)

module _ (b : Begun) (p : List Held) (s : Stock) (is : InPool b p s) (fits : StockFits b.layout s) (dir : Dir)
    (e : Envelope) (header : Header)
    (places : length s.sent + 1 ≤ b.layout.places) where
  first_goes : (rest : List PoolMessage) (o : Option PoolMessage) → TakesLast (sent_after dir header) s.hand rest o →
      InPool b p (record s { hand = rest; sent = s.sent ++ (dir, pool_event e o) ∷ [] }) ×
      (length s.hand ≡ length rest + 1) ×
      (AllByRecursion IsShort s.hand → AllByRecursion IsShort rest) ×
      (laid p (record s { hand = rest; sent = s.sent ++ (dir, pool_event e o) ∷ [] }) ≡
      sends_first dir e header (laid p s))
  first_goes rest None taken = absurd taken
  first_goes rest (Some y) taken =
      let made : Derived (sent_as dir header) taken.last y =
      subst (Derived (sent_as dir header) taken.last) (sym taken.made) (is_derived dir header taken.last) in
      let step = sent_first b p s is dir e header rest taken.last y taken.before made in (
        step.0,
        ap length taken.before ∙ length-append rest (taken.last ∷ []),
        λ short. all-front IsShort rest (taken.last ∷ []) (subst (AllByRecursion IsShort) taken.before short),
        step.1,
      )

  pub first_fits : (rest : List PoolMessage) (o : Option PoolMessage) →
      TakesLast (sent_after dir header) s.hand rest o →
      InPool b p (record s { hand = rest; sent = s.sent ++ (dir, pool_event e o) ∷ [] }) ×
      StockFits b.layout (record s { hand = rest; sent = s.sent ++ (dir, pool_event e o) ∷ [] }) ×
      (length s.hand ≡ length rest + 1) ×
      (laid p (record s { hand = rest; sent = s.sent ++ (dir, pool_event e o) ∷ [] }) ≡
      sends_first dir e header (laid p s))
  first_fits rest o taken =
      let step = first_goes rest o taken in (
        step.0,
        fits_sent b.layout s rest s.arrived (s.sent ++ (dir, pool_event e o) ∷ []) fits
            (omega (arith, step.1, fits.hand)) (step.2 fits.hand_short)
            (omega (arith, places, length-append s.sent ((dir, pool_event e o) ∷ []))),
        step.1,
        step.3,
      )

  -- The message that arrived is sent on.
  pub on_fits : (m : Option PoolMessage) → m ≡ option_map (sent_after dir header) s.arrived →
      InPool b p (record s { arrived = None; sent = s.sent ++ (dir, pool_event e m) ∷ [] }) ×
      StockFits b.layout (record s { arrived = None; sent = s.sent ++ (dir, pool_event e m) ∷ [] }) ×
      (laid p (record s { arrived = None; sent = s.sent ++ (dir, pool_event e m) ∷ [] }) ≡
      passes_on dir e header (laid p s))
  on_fits m made =
      let step = passed_on b p s is dir e header (option_map (sent_after dir header) s.arrived)
      (same_refs dir header s.arrived)
      (still_lies p dir header s.arrived is.lies.arrived) (shows_sent p dir header s.arrived) in
      subst (λ m. InPool b p (record s { arrived = None; sent = s.sent ++ (dir, pool_event e m) ∷ [] }) ×
      StockFits b.layout (record s { arrived = None; sent = s.sent ++ (dir, pool_event e m) ∷ [] }) ×
      (laid p (record s { arrived = None; sent = s.sent ++ (dir, pool_event e m) ∷ [] }) ≡
      passes_on dir e header (laid p s))) (sym made) (
        step.0,
        longer_fits b.layout s fits places None
            (dir, pool_event e (option_map (sent_after dir header) s.arrived)),
        step.1,
      )

  -- A message of the scope is sent once more; where there is none, one without bytes.
  pub local_fits : (q : List Held) (k : ℕ) (m : PoolMessage) → slice_get s.messages k ≡ Some m → Kept p q (refs m) →
      InPool b q (record s { sent = s.sent ++ (dir, pool_event e (Some (sent_after dir header m))) ∷ [] }) ×
      StockFits b.layout (record s { sent = s.sent ++ (dir, pool_event e (Some (sent_after dir header m))) ∷ [] }) ×
      (laid q (record s { sent = s.sent ++ (dir, pool_event e (Some (sent_after dir header m))) ∷ [] }) ≡
      sends dir (event_in e (Some (sent_as dir header (get_or (map (content_seen p) s.messages) k (plain [])))))
      (laid p s))
  local_fits q k m there kept =
      let own = scope_there b p q s is fits k m there in
      let step = kept_sent b p s is q dir e header m own.0 own.1 kept in (
        step.0,
        longer_fits b.layout s fits places s.arrived (dir, pool_event e (Some (sent_after dir header m))),
        step.1 ∙ ap (λ c. sends dir (event_in e (Some (sent_as dir header c))) (laid p s))
            (sym (seen_at (content_seen p) s.messages k m (plain []) there)),
      )

  pub nothing_fits : (k : ℕ) → slice_get s.messages k ≡ None →
      InPool b p (record s { sent = s.sent ++ (dir, pool_event e (Some (sent_after dir header (bodiless [])))) ∷ [] })
      ×
      StockFits b.layout (record s
      { sent = s.sent ++ (dir, pool_event e (Some (sent_after dir header (bodiless [])))) ∷ [] }) ×
      (laid p (record s { sent = s.sent ++ (dir, pool_event e (Some (sent_after dir header (bodiless [])))) ∷ [] }) ≡
      sends dir (event_in e (Some (sent_as dir header (get_or (map (content_seen p) s.messages) k (plain [])))))
      (laid p s))
  nothing_fits k there =
      let step = bare_sent b p s is dir e header in (
        step.0,
        longer_fits b.layout s fits places s.arrived (dir, pool_event e (Some (sent_after dir header (bodiless [])))),
        step.1 ∙ ap (λ c. sends dir (event_in e (Some (sent_as dir header c))) (laid p s))
            (sym (seen_none (content_seen p) s.messages k (plain []) there)),
      )

  -- A message of the scope is sent, and all others of the scope are given back.
  pub last_fits : (q : List Held) (k : ℕ) (m : PoolMessage) → slice_get s.messages k ≡ Some m →
      Returned p q (pile_refs (set s.messages k (bodiless []))) →
      InPool b q (record s {
        messages = [];
        sent = s.sent ++ (dir, pool_event e (Some (sent_after dir header m))) ∷
            [];
      }) ×
      StockFits b.layout (record s
      { messages = []; sent = s.sent ++ (dir, pool_event e (Some (sent_after dir header m))) ∷ [] }) ×
      (laid q (record s { messages = []; sent = s.sent ++ (dir, pool_event e (Some (sent_after dir header m))) ∷ [] })
      ≡
      without_messages (sends dir
      (event_in e (Some (sent_as dir header (get_or (map (content_seen p) s.messages) k (plain []))))) (laid p s)))
  last_fits q k m there gone =
      let u : Stock = record s {
        messages = set s.messages k (bodiless []);
        sent = s.sent ++
            (dir, pool_event e (Some (sent_after dir header m))) ∷ [];
      } in
      let goes = scope_sent b p s is dir e header k m there in
      let step = messages_gone b p q u goes.0 gone in
      let longer = longer_fits b.layout s fits places s.arrived
      (dir, pool_event e (Some (sent_after dir header m))) in (
        step.0,
        record {
          rows = fits.rows;
          cells = fits.cells;
          numbers = fits.numbers;
          messages = omega arith;
          short = tt;
          hand = fits.hand;
          hand_short = fits.hand_short;
          sent = longer.sent;
          few = fits.few;
        },
        step.1 ∙ ap without_messages goes.1 ∙
            ap (λ c. without_messages (sends dir (event_in e (Some (sent_as dir header c))) (laid p s)))
            (sym (seen_at (content_seen p) s.messages k m (plain []) there)),
      )
