-- Steps at the hand.
use Rattle.std.proofs.Common.{◌≡◌, List, [], ◌∷◌, ◌++◌, flat_map, sym, ap, subst, ◌∙◌}
use Rattle.std.specs.List.{AllByRecursion}
use Rattle.std.proofs.lemmas.List.{append-nil, append_assoc}
use Rattle.slot_pool.specs.Held.{Held}
use Rattle.slot_pool.specs.References.{Moved, Covers}
use Rattle.slot_pool.proofs.References.{moved-same}
use Rattle.msg_core.specs.Chain.{Content}
use Rattle.msg_core.specs.Parts as parts
use Rattle.layer_desk.specs.Laid.{lifted, front_changed, front_joined}
use Rattle.layer_desk.specs.Spent.{Begun}
use Rattle.pool_message.specs.Seen.{refs, content_seen, Lies}
use Rattle.pool_message.specs.Moves.{Kept, Returned, Derived, Made}
use Rattle.pool_message.specs.declared.message.PoolMessage.{PoolMessage}
use Rattle.pool_message.proofs.Stays.{message_stays}
use Rattle.live_layer.specs.Stock.{Stock, laid, StockLies}
use Rattle.live_layer.specs.Steps.{InPool, TakesOut}
use Rattle.live_layer.proofs.Lists.{all-append, all-front, all-following, last_first}
use Rattle.live_layer.proofs.Parts.{hand_out}
use Rattle.live_layer.proofs.Steps.{rest_stays, stepped}

-- The newest message in hand is the first.
pub laid_top : (q : List Held) (s : Stock) (rest : List PoolMessage) (m : PoolMessage) →
    laid q (record s { hand = rest ++ m ∷ [] }) ≡ lifted (content_seen q m) (laid q (record s { hand = rest }))
laid_top q s rest m = ap (λ hand. record (laid q (record s { hand = rest })) { hand = hand })
    (last_first (content_seen q) rest m)

module _ (b : Begun) (p q : List Held) (s : Stock) (is : InPool b p s) where
  -- Messages in hand become others.
  hand_step : (rest ms ns : List PoolMessage) → s.hand ≡ rest ++ ms → Moved p q (flat_map refs ms) (flat_map refs ns) →
      AllByRecursion (Lies q) ns →
      InPool b q (record s { hand = rest ++ ns }) ×
      (laid q (record s { hand = rest }) ≡ laid p (record s { hand = rest }))
  hand_step rest ms ns at moved lie =
      let out : TakesOut s (record s { hand = rest }) (flat_map refs ms) =
      subst (λ hand. TakesOut (record s { hand = hand }) (record s { hand = rest }) (flat_map refs ms)) (sym at)
      (hand_out s rest ms) in
      let left : StockLies p (record s { hand = rest }) =
      record {
        kept = is.lies.kept;
        messages = is.lies.messages;
        arrived = is.lies.arrived;
        hand = all-front (Lies p) rest ms (subst (AllByRecursion (Lies p)) at is.lies.hand);
        sent = is.lies.sent;
      } in
      let stays = rest_stays b p q s (record s { hand = rest }) (flat_map refs ms) (flat_map refs ns) is out left moved
      in (
        stepped b p q s (record s { hand = rest }) (record s { hand = rest ++ ns }) (flat_map refs ms)
            (flat_map refs ns) is out (hand_out s rest ns) moved
            (record {
              kept = stays.0.kept;
              messages = stays.0.messages;
              arrived = stays.0.arrived;
              hand = all-append (Lies q) rest ns stays.0.hand lie;
              sent = stays.0.sent;
            }),
        stays.1,
      )

  -- A message that lies in the pool is kept, and the new one taken into the hand.
  pub lifted_step : (m : PoolMessage) → Covers p (refs m) → Lies p m → Kept p q (refs m) →
      InPool b q (record s { hand = s.hand ++ m ∷ [] }) ×
      (laid q (record s { hand = s.hand ++ m ∷ [] }) ≡ lifted (content_seen p m) (laid p s))
  lifted_step m covers lies kept =
      let stays = message_stays p q [] (refs m) kept.moved m covers lies in
      let one : refs m ≡ refs m ++ [] = sym (append-nil (refs m)) in
      let step = hand_step s.hand [] (m ∷ []) (sym (append-nil s.hand)) (subst (Moved p q []) one kept.moved)
      (stays.0, tt) in
      (step.0, laid_top q s s.hand m ∙ (λ k. lifted (stays.1 k) (step.1 k)))

  -- The first two messages in hand are joined.
  pub joined_step : (rest : List PoolMessage) (part m x : PoolMessage) → s.hand ≡ (rest ++ part ∷ []) ++ m ∷ [] →
      Made p q (refs part ++ refs m) (parts.join (content_seen p part) (content_seen p m)) x →
      InPool b q (record s { hand = rest ++ x ∷ [] }) ×
      (laid q (record s { hand = rest ++ x ∷ [] }) ≡ front_joined (laid p s))
  joined_step rest part m x at made =
      let two : refs part ++ refs m ≡ refs part ++ (refs m ++ []) = ap (λ r. refs part ++ r) (sym (append-nil (refs m)))
      in
      let one : refs x ≡ refs x ++ [] = sym (append-nil (refs x)) in
      let moved : Moved p q (flat_map refs (part ∷ m ∷ [])) (flat_map refs (x ∷ [])) =
      subst (λ r. Moved p q r (refs x ++ [])) two (subst (Moved p q (refs part ++ refs m)) one made.moved) in
      let step = hand_step rest (part ∷ m ∷ []) (x ∷ []) (at ∙ append_assoc rest (part ∷ []) (m ∷ [])) moved
      (made.lies, tt) in
      let before : laid p s ≡
      lifted (content_seen p m) (lifted (content_seen p part) (laid p (record s { hand = rest }))) =
      ap (λ hand. laid p (record s { hand = hand })) at ∙ laid_top p s (rest ++ part ∷ []) m ∙
      ap (lifted (content_seen p m)) (laid_top p s rest part) in
      (step.0, laid_top q s rest x ∙ (λ k. lifted (made.shows k) (step.1 k)) ∙ ap front_joined (sym before))

  -- The first two messages in hand are given back.
  pub gone_step : (rest : List PoolMessage) (part m : PoolMessage) → s.hand ≡ (rest ++ part ∷ []) ++ m ∷ [] →
      Returned p q (refs part ++ refs m) →
      InPool b q (record s { hand = rest })
  gone_step rest part m at gone =
      let two : refs part ++ refs m ≡ refs part ++ (refs m ++ []) = ap (λ r. refs part ++ r) (sym (append-nil (refs m)))
      in
      let step = hand_step rest (part ∷ m ∷ []) [] (at ∙ append_assoc rest (part ∷ []) (m ∷ []))
      (subst (λ r. Moved p q r []) two gone.moved) tt in
      subst (λ hand. InPool b q (record s { hand = hand })) (append-nil rest) step.0

module _ (b : Begun) (p : List Held) (s : Stock) (is : InPool b p s) where
  -- A message without bytes is taken into the hand.
  pub bare_step : (m : PoolMessage) → refs m ≡ [] → Lies p m →
      InPool b p (record s { hand = s.hand ++ m ∷ [] }) ×
      (laid p (record s { hand = s.hand ++ m ∷ [] }) ≡ lifted (content_seen p m) (laid p s))
  bare_step m none lies =
      let one : [] ≡ refs m ++ [] = sym none ∙ sym (append-nil (refs m)) in
      let step = hand_step b p p s is s.hand [] (m ∷ []) (sym (append-nil s.hand))
      (subst (Moved p p []) one (moved-same p [])) (lies, tt) in
      (step.0, laid_top p s s.hand m)

  -- The first message in hand becomes another of the same slot.
  pub changed_step : (f : Content → Content) (rest : List PoolMessage) (x y : PoolMessage) → s.hand ≡ rest ++ x ∷ [] →
      Derived f x y →
      InPool b p (record s { hand = rest ++ y ∷ [] }) ×
      (laid p (record s { hand = rest ++ y ∷ [] }) ≡ front_changed f (laid p s))
  changed_step f rest x y at made =
      let lies = all-following (Lies p) rest (x ∷ []) (subst (AllByRecursion (Lies p)) at is.lies.hand) in
      let same : refs x ++ [] ≡ refs y ++ [] = ap (λ r. r ++ []) (sym made.slots) in
      let step = hand_step b p p s is rest (x ∷ []) (y ∷ []) at
      (subst (Moved p p (refs x ++ [])) same (moved-same p (refs x ++ []))) (made.lies p lies.0, tt) in
      let before : laid p s ≡ lifted (content_seen p x) (laid p (record s { hand = rest })) =
      ap (λ hand. laid p (record s { hand = hand })) at ∙ laid_top p s rest x in (
        step.0,
        laid_top p s rest y ∙ ap (λ c. lifted c (laid p (record s { hand = rest }))) (made.shows p) ∙
            ap (front_changed f) (sym before),
      )
