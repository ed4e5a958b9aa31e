-- Steps at what is sent.
use Rattle.std.proofs.Common.{◌≡◌, ℕ, List, [], ◌∷◌, ◌++◌, Option, Some, None, option_map, slice_get, set, flat_map}
use Rattle.std.proofs.Common.{refl, sym, ap, subst, ◌∙◌}
use Rattle.std.specs.List.{AllByRecursion}
use Rattle.std.proofs.lemmas.List.{append-nil, map-append}
use Rattle.slot_pool.specs.Held.{Held}
use Rattle.slot_pool.specs.References.{Covers}
use Rattle.slot_pool.proofs.References.{moved-same}
use Rattle.msg_core.specs.Chain.{plain}
use Rattle.msg_core.specs.declared.message.Header.{Header}
use Rattle.layer_words.specs.declared.events.Dir.{Dir}
use Rattle.layer_mean.specs.Effect.{sent_as}
use Rattle.layer_desk.specs.Laid.{lifted, sends, sends_first, passes_on}
use Rattle.layer_mean.specs.Envelope.{event_in}
use Rattle.layer_desk.specs.Spent.{Begun}
use Rattle.layer_mean.specs.declared.envelope.Envelope.{Envelope}
use Rattle.pool_message.specs.Seen.{bodiless, refs, content_seen, Lies, refs_if, seen_if, LiesIf, event_refs}
use Rattle.pool_message.specs.Seen.{event_seen}
use Rattle.pool_message.specs.Seen.{EventLies}
use Rattle.pool_message.specs.Moves.{Kept, Derived}
use Rattle.pool_message.specs.Sent.{sent_after, pool_event}
use Rattle.pool_message.specs.declared.event.PoolEvent.{PoolEvent}
use Rattle.pool_message.specs.declared.message.PoolMessage.{PoolMessage}
use Rattle.pool_message.proofs.Stays.{message_stays}
use Rattle.live_layer.specs.Stock.{Stock, laid, StockLies}
use Rattle.live_layer.specs.Steps.{InPool, TakesOut}
use Rattle.live_layer.proofs.Hand.{laid_top}
use Rattle.live_layer.proofs.Lists.{all-append, all-at, all-front, all-following, all-set, item_there}
use Rattle.live_layer.proofs.Parts.{none_out, hand_out, message_out, arrived_out, sent_out}
use Rattle.live_layer.proofs.Sent.{is_derived}
use Rattle.live_layer.proofs.Steps.{rest_stays, stepped}

-- What was sent with one more.
laid_sent : (p : List Held) (s : Stock) (dir : Dir) (event : PoolEvent) →
    laid p (record s { sent = s.sent ++ (dir, event) ∷ [] }) ≡ sends dir (event_seen p event) (laid p s)
laid_sent p s dir event =
    ap (λ sent. record (laid p s) { sent = sent })
    (map-append (λ (e : Dir × PoolEvent). (e.0, event_seen p e.1)) s.sent ((dir, event) ∷ []))

module _ (b : Begun) (p : List Held) (s : Stock) (is : InPool b p s) where
  -- An event is sent whose references were taken out.
  sent_step : (t : Stock) (xs : List ℕ) → TakesOut s t xs → StockLies p t → (dir : Dir) (event : PoolEvent) →
      event_refs event ≡ xs → EventLies p event →
      InPool b p (record t { sent = t.sent ++ (dir, event) ∷ [] }) ×
      (laid p (record t { sent = t.sent ++ (dir, event) ∷ [] }) ≡ sends dir (event_seen p event) (laid p t))
  sent_step t xs out left dir event same lies = (
    stepped b p p s t (record t { sent = t.sent ++ (dir, event) ∷ [] }) xs xs is out
        (subst (TakesOut (record t { sent = t.sent ++ (dir, event) ∷ [] }) t) same (sent_out t dir event))
        (moved-same p xs)
        (record {
          kept = left.kept;
          messages = left.messages;
          arrived = left.arrived;
          hand = left.hand;
          sent = all-append (λ (e : Dir × PoolEvent). EventLies p e.1) t.sent ((dir, event) ∷ []) left.sent (lies, tt);
        }),
    laid_sent p t dir event,
  )

  -- An event without a message is sent.
  pub sent_alone : (dir : Dir) (e : Envelope) →
      InPool b p (record s { sent = s.sent ++ (dir, pool_event e None) ∷ [] }) ×
      (laid p (record s { sent = s.sent ++ (dir, pool_event e None) ∷ [] }) ≡ sends dir (event_in e None) (laid p s))
  sent_alone dir e = sent_step s [] (none_out s) is.lies dir (pool_event e None) refl tt

  -- An event is sent with a message without bytes.
  pub bare_sent : (dir : Dir) (e : Envelope) (header : Header) →
      InPool b p (record s { sent = s.sent ++ (dir, pool_event e (Some (sent_after dir header (bodiless [])))) ∷ [] })
      ×
      (laid p (record s { sent = s.sent ++ (dir, pool_event e (Some (sent_after dir header (bodiless [])))) ∷ [] }) ≡
      sends dir (event_in e (Some (sent_as dir header (plain [])))) (laid p s))
  bare_sent dir e header =
      let made : Derived (sent_as dir header) (bodiless []) (sent_after dir header (bodiless [])) =
      is_derived dir header (bodiless []) in
      let step = sent_step s [] (none_out s) is.lies dir (pool_event e (Some (sent_after dir header (bodiless []))))
      made.slots (made.lies p tt) in
      (step.0, step.1 ∙ ap (λ c. sends dir (event_in e (Some c)) (laid p s)) (made.shows p))

  -- An event is sent with a message that lies in the pool, and is kept.
  pub kept_sent : (q : List Held) (dir : Dir) (e : Envelope) (header : Header) (m : PoolMessage) → Covers p (refs m) →
      Lies p m → Kept p q (refs m) →
      InPool b q (record s { sent = s.sent ++ (dir, pool_event e (Some (sent_after dir header m))) ∷ [] }) ×
      (laid q (record s { sent = s.sent ++ (dir, pool_event e (Some (sent_after dir header m))) ∷ [] }) ≡
      sends dir (event_in e (Some (sent_as dir header (content_seen p m)))) (laid p s))
  kept_sent q dir e header m covers lies kept =
      let made : Derived (sent_as dir header) m (sent_after dir header m) = is_derived dir header m in
      let event : PoolEvent = pool_event e (Some (sent_after dir header m)) in
      let stays = message_stays p q [] (refs m) kept.moved m covers lies in
      let rest = rest_stays b p q s s [] (refs m) is (none_out s) is.lies kept.moved in (
        stepped b p q s s (record s { sent = s.sent ++ (dir, event) ∷ [] }) [] (refs m) is (none_out s)
            (subst (TakesOut (record s { sent = s.sent ++ (dir, event) ∷ [] }) s) made.slots (sent_out s dir event))
            kept.moved
            (record {
              kept = rest.0.kept;
              messages = rest.0.messages;
              arrived = rest.0.arrived;
              hand = rest.0.hand;
              sent = all-append (λ (e : Dir × PoolEvent). EventLies q e.1) s.sent ((dir, event) ∷ []) rest.0.sent
                  (made.lies q stays.0, tt);
            }),
        laid_sent q s dir event ∙ ap (λ c. sends dir (event_in e (Some c)) (laid q s))
            (made.shows q ∙ ap (sent_as dir header) stays.1) ∙
            ap (sends dir (event_in e (Some (sent_as dir header (content_seen p m))))) rest.1,
      )

  -- An event is sent with a message of the scope, in whose place stands one without bytes.
  pub scope_sent : (dir : Dir) (e : Envelope) (header : Header) (k : ℕ) (m : PoolMessage) →
      slice_get s.messages k ≡ Some m →
      InPool b p (record s {
        messages = set s.messages k (bodiless []);
        sent = s.sent ++
            (dir, pool_event e (Some (sent_after dir header m))) ∷ [];
      }) ×
      (laid p (record s {
        messages = set s.messages k (bodiless []);
        sent = s.sent ++
            (dir, pool_event e (Some (sent_after dir header m))) ∷ [];
      }) ≡
      sends dir (event_in e (Some (sent_as dir header (content_seen p m))))
      (laid p (record s { messages = set s.messages k (bodiless []) })))
  scope_sent dir e header k m there =
      let made : Derived (sent_as dir header) m (sent_after dir header m) = is_derived dir header m in
      let item = item_there s.messages k m there in
      let t : Stock = record s { messages = set s.messages k (bodiless []) } in
      let out : TakesOut s t (refs m) =
      subst (λ ms. TakesOut (record s { messages = ms }) t (refs m)) item.1
      (message_out s s.messages k m (bodiless []) refl item.0) in
      let left : StockLies p t =
      record {
        kept = is.lies.kept;
        messages = all-set (Lies p) s.messages k (bodiless []) is.lies.messages tt;
        arrived = is.lies.arrived;
        hand = is.lies.hand;
        sent = is.lies.sent;
      } in
      let step = sent_step t (refs m) out left dir (pool_event e (Some (sent_after dir header m))) made.slots
      (made.lies p (all-at (Lies p) s.messages k m there is.lies.messages)) in
      (step.0, step.1 ∙ ap (λ c. sends dir (event_in e (Some c)) (laid p t)) (made.shows p))

  -- An event is sent with the first message in hand.
  pub sent_first : (dir : Dir) (e : Envelope) (header : Header) (rest : List PoolMessage) (x y : PoolMessage) →
      s.hand ≡ rest ++ x ∷ [] →
      Derived (sent_as dir header) x y →
      InPool b p (record s { hand = rest; sent = s.sent ++ (dir, pool_event e (Some y)) ∷ [] }) ×
      (laid p (record s { hand = rest; sent = s.sent ++ (dir, pool_event e (Some y)) ∷ [] }) ≡
      sends_first dir e header (laid p s))
  sent_first dir e header rest x y at made =
      let lie = subst (AllByRecursion (Lies p)) at is.lies.hand in
      let one : flat_map refs (x ∷ []) ≡ refs y = append-nil (refs x) ∙ sym made.slots in
      let out : TakesOut s (record s { hand = rest }) (refs y) =
      subst (λ hand. TakesOut (record s { hand = hand }) (record s { hand = rest }) (refs y)) (sym at)
      (subst (TakesOut (record s { hand = rest ++ x ∷ [] }) (record s { hand = rest })) one (hand_out s rest (x ∷ [])))
      in
      let left : StockLies p (record s { hand = rest }) =
      record {
        kept = is.lies.kept;
        messages = is.lies.messages;
        arrived = is.lies.arrived;
        hand =
            all-front (Lies p) rest (x ∷ []) lie;
        sent = is.lies.sent;
      } in
      let step = sent_step (record s { hand = rest }) (refs y) out left dir (pool_event e (Some y)) refl
      (made.lies p (all-following (Lies p) rest (x ∷ []) lie).0) in
      let before : laid p s ≡ lifted (content_seen p x) (laid p (record s { hand = rest })) =
      ap (λ hand. laid p (record s { hand = hand })) at ∙ laid_top p s rest x in (
        step.0,
        step.1 ∙ ap (λ c. sends dir (event_in e (Some c)) (laid p (record s { hand = rest }))) (made.shows p) ∙
            ap (sends_first dir e header) (sym before),
      )

  -- The message that arrived is sent on.
  pub passed_on : (dir : Dir) (e : Envelope) (header : Header) (m : Option PoolMessage) →
      refs_if m ≡ refs_if s.arrived → LiesIf p m →
      seen_if p m ≡ option_map (sent_as dir header) (seen_if p s.arrived) →
      InPool b p (record s { arrived = None; sent = s.sent ++ (dir, pool_event e m) ∷ [] }) ×
      (laid p (record s { arrived = None; sent = s.sent ++ (dir, pool_event e m) ∷ [] }) ≡
      passes_on dir e header (laid p s))
  passed_on dir e header m same lies shows =
      let left : StockLies p (record s { arrived = None }) =
      record {
        kept = is.lies.kept;
        messages = is.lies.messages;
        arrived = tt;
        hand = is.lies.hand;
        sent =
            is.lies.sent;
      } in
      let step = sent_step (record s { arrived = None }) (refs_if s.arrived) (arrived_out s s.arrived) left dir
      (pool_event e m) same lies in
      (step.0, step.1 ∙ ap (λ c. sends dir (event_in e c) (laid p (record s { arrived = None }))) shows)
