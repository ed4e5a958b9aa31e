-- Steps at the scope, and at the message that arrived.
use Rattle.std.proofs.Common.{◌≡◌, ℕ, List, [], ◌∷◌, ◌++◌, Option, Some, None, option_map, map, ap, subst, ◌∙◌}
use Rattle.std.proofs.lemmas.List.{append-nil, map-append}
use Rattle.slot_pool.specs.Held.{Held}
use Rattle.slot_pool.proofs.References.{moved-same}
use Rattle.msg_core.specs.Chain.{popped}
use Rattle.layer_desk.specs.Laid.{header_popped}
use Rattle.layer_desk.specs.Spent.{Begun}
use Rattle.pool_message.specs.Seen.{refs, content_seen, Lies, refs_if, seen_if, LiesIf}
use Rattle.pool_message.specs.Moves.{Returned}
use Rattle.pool_message.specs.Piled.{pile_refs}
use Rattle.pool_message.specs.declared.message.PoolMessage.{PoolMessage}
use Rattle.live_layer.specs.Stock.{Stock, laid, StockLies}
use Rattle.live_layer.specs.Steps.{InPool, TakesOut}
use Rattle.live_layer.proofs.Lists.{all-append}
use Rattle.live_layer.proofs.Parts.{none_out, messages_out, arrived_out}
use Rattle.live_layer.proofs.Steps.{rest_stays, stepped}

module _ (b : Begun) (p : List Held) (s : Stock) (is : InPool b p s) where
  -- Numbers have no references.
  pub numbers_step : (ns : List ℕ) → InPool b p (record s { numbers = ns })
  numbers_step ns = record {
    few = is.few;
    covered = is.covered;
    moved = is.moved;
    lies = record {
      kept = is.lies.kept;
      messages = is.lies.messages;
      arrived = is.lies.arrived;
      hand =
          is.lies.hand;
      sent = is.lies.sent;
    };
  }

  -- The message that arrived becomes another of the same slot.
  arrived_step : (m : Option PoolMessage) → refs_if m ≡ refs_if s.arrived → LiesIf p m →
      InPool b p (record s { arrived = m })
  arrived_step m same lies =
      stepped b p p s (record s { arrived = None }) (record s { arrived = m }) (refs_if s.arrived) (refs_if s.arrived)
      is (arrived_out s s.arrived)
      (subst (TakesOut (record s { arrived = m }) (record s { arrived = None })) same (arrived_out s m))
      (moved-same p (refs_if s.arrived))
      (record {
        kept = is.lies.kept;
        messages = is.lies.messages;
        arrived = lies;
        hand = is.lies.hand;
        sent =
            is.lies.sent;
      })

  pub popped_step : (m : Option PoolMessage) → refs_if m ≡ refs_if s.arrived → LiesIf p m →
      seen_if p m ≡ option_map popped (seen_if p s.arrived) →
      InPool b p (record s { arrived = m }) × (laid p (record s { arrived = m }) ≡ header_popped (laid p s))
  popped_step m same lies shows =
      (arrived_step m same lies, ap (λ a. record (laid p s) { arrived = a }) shows)

  -- A message comes into the scope after the others: one without bytes, or the one that arrived.
  pub bare_bound : (m : PoolMessage) → refs m ≡ [] → Lies p m →
      InPool b p (record s { messages = s.messages ++ m ∷ [] }) ×
      (laid p (record s { messages = s.messages ++ m ∷ [] }) ≡
      record (laid p s) {
        scope =
            record { numbers = s.numbers; messages = map (content_seen p) s.messages ++ content_seen p m ∷ [] };
      })
  bare_bound m none lies = (
    stepped b p p s s (record s { messages = s.messages ++ m ∷ [] }) [] [] is (none_out s)
        (subst (TakesOut (record s { messages = s.messages ++ m ∷ [] }) s) (append-nil (refs m) ∙ none)
        (messages_out s s.messages (m ∷ []))) (moved-same p [])
        (record {
          kept = is.lies.kept;
          messages = all-append (Lies p) s.messages (m ∷ []) is.lies.messages (lies, tt);
          arrived = is.lies.arrived;
          hand = is.lies.hand;
          sent = is.lies.sent;
        }),
    ap (λ ms. record (laid p s) { scope = record { numbers = s.numbers; messages = ms } })
        (map-append (content_seen p) s.messages (m ∷ [])),
  )

  pub arrived_bound : (m : PoolMessage) → s.arrived ≡ Some m →
      InPool b p (record s { messages = s.messages ++ m ∷ []; arrived = None }) ×
      (laid p (record s { messages = s.messages ++ m ∷ []; arrived = None }) ≡
      record (laid p s) {
        scope = record { numbers = s.numbers; messages = map (content_seen p) s.messages ++ content_seen p m ∷ [] };
        arrived = None;
      })
  arrived_bound m at =
      let t : Stock = record s { arrived = None } in
      let lies : Lies p m = subst (LiesIf p) at is.lies.arrived in
      let out : TakesOut s t (refs m) = subst (λ a. TakesOut s t (refs_if a)) at (arrived_out s s.arrived) in (
        stepped b p p s t (record t { messages = s.messages ++ m ∷ [] }) (refs m) (refs m) is out
            (subst (TakesOut (record t { messages = s.messages ++ m ∷ [] }) t) (append-nil (refs m))
            (messages_out t s.messages (m ∷ []))) (moved-same p (refs m))
            (record {
              kept = is.lies.kept;
              messages = all-append (Lies p) s.messages (m ∷ []) is.lies.messages (lies, tt);
              arrived = tt;
              hand = is.lies.hand;
              sent = is.lies.sent;
            }),
        ap (λ ms. record (laid p t) { scope = record { numbers = s.numbers; messages = ms } })
            (map-append (content_seen p) s.messages (m ∷ [])),
      )

module _ (b : Begun) (p q : List Held) (s : Stock) (is : InPool b p s) where
  -- All messages of the scope are given back.
  pub messages_gone : Returned p q (pile_refs s.messages) →
      InPool b q (record s { messages = [] }) ×
      (laid q (record s { messages = [] }) ≡ laid p (record s { messages = [] }))
  messages_gone gone =
      let t : Stock = record s { messages = [] } in
      let left : StockLies p t =
      record {
        kept = is.lies.kept;
        messages = tt;
        arrived = is.lies.arrived;
        hand = is.lies.hand;
        sent =
            is.lies.sent;
      } in
      let stays = rest_stays b p q s t (pile_refs s.messages) [] is (messages_out s [] s.messages) left gone.moved in (
        stepped b p q s t t (pile_refs s.messages) [] is (messages_out s [] s.messages) (none_out t) gone.moved stays.0,
        stays.1,
      )

  -- The message that arrived is given back.
  pub arrived_gone : Returned p q (refs_if s.arrived) →
      InPool b q (record s { arrived = None }) ×
      (laid q (record s { arrived = None }) ≡ laid p (record s { arrived = None }))
  arrived_gone gone =
      let t : Stock = record s { arrived = None } in
      let left : StockLies p t =
      record {
        kept = is.lies.kept;
        messages = is.lies.messages;
        arrived = tt;
        hand = is.lies.hand;
        sent =
            is.lies.sent;
      } in
      let stays = rest_stays b p q s t (refs_if s.arrived) [] is (arrived_out s s.arrived) left gone.moved in
      (stepped b p q s t t (refs_if s.arrived) [] is (arrived_out s s.arrived) (none_out t) gone.moved stays.0, stays.1)
