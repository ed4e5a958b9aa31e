-- The parts of a desk: what is taken out of one of them is taken out of the desk.
use Rattle.std.proofs.Common.{◌≡◌, ℕ, ◌+◌, ◌<◌, ◌≤◌, List, [], ◌∷◌, ◌++◌, Option, None, length, set, flat_map, ap}
use Rattle.std.proofs.Common.{arith}
use Rattle.slot_pool.specs.Times.{times}
use Rattle.slot_pool.proofs.Times.{times-append}
use Rattle.layer_words.specs.declared.events.Dir.{Dir}
use Rattle.cell_store.specs.Kept.{Kept}
use Rattle.pool_message.specs.Seen.{refs, refs_if, event_refs}
use Rattle.pool_message.specs.Sent.{sent_refs}
use Rattle.pool_message.specs.declared.event.PoolEvent.{PoolEvent}
use Rattle.pool_message.specs.declared.message.PoolMessage.{PoolMessage}
use Rattle.pool_message.specs.declared.row.PoolRow.{PoolRow}
use Rattle.live_layer.specs.Stock.{Stock, kept_refs, stock_refs}
use Rattle.live_layer.specs.Steps.{TakesOut}
use Rattle.live_layer.proofs.Lists.{times-both, times-one, times-set}

-- Five parts.
pub parts : (i : ℕ) (s : Stock) → times i (stock_refs s) ≡
    times i (kept_refs s.kept) +
    (times i (flat_map refs s.messages) +
    (times i (refs_if s.arrived) + (times i (flat_map refs s.hand) + times i (sent_refs s.sent))))
parts i s = omega (
  arith,
  times-append i (kept_refs s.kept)
      (flat_map refs s.messages ++ (refs_if s.arrived ++ (flat_map refs s.hand ++ sent_refs s.sent))),
  times-append i (flat_map refs s.messages) (refs_if s.arrived ++ (flat_map refs s.hand ++ sent_refs s.sent)),
  times-append i (refs_if s.arrived) (flat_map refs s.hand ++ sent_refs s.sent),
  times-append i (flat_map refs s.hand) (sent_refs s.sent),
)

-- The references of the scope are among those of the desk.
pub messages_within : (i : ℕ) (s : Stock) → times i (flat_map refs s.messages) ≤ times i (stock_refs s)
messages_within i s = let all = parts i s in omega arith

pub rows_within : (i : ℕ) (s : Stock) → times i (kept_refs s.kept) ≤ times i (stock_refs s)
rows_within i s = let all = parts i s in omega arith

pub none_out : (s : Stock) → TakesOut s s []
none_out s = record { times = λ i. omega arith }

-- What is taken out of a desk, and then out of what is left.
pub both_out : (s t u : Stock) (xs ys : List ℕ) → TakesOut s t xs → TakesOut t u ys → TakesOut s u (xs ++ ys)
both_out s t u xs ys one two = record {
  times = λ i. let first = one.times i in let second = two.times i in let both = times-append i xs ys in omega arith;
}

module _ (s : Stock) where
  pub hand_out : (rest ms : List PoolMessage) →
      TakesOut (record s { hand = rest ++ ms }) (record s { hand = rest }) (flat_map refs ms)
  hand_out rest ms = record {
    times = λ i.
        let whole = parts i (record s { hand = rest ++ ms }) in let left = parts i (record s { hand = rest }) in
        let both = times-both refs i rest ms in omega arith;
  }

  pub messages_out : (rest ms : List PoolMessage) →
      TakesOut (record s { messages = rest ++ ms }) (record s { messages = rest }) (flat_map refs ms)
  messages_out rest ms = record {
    times = λ i.
        let whole = parts i (record s { messages = rest ++ ms }) in let left = parts i (record s { messages = rest }) in
        let both = times-both refs i rest ms in omega arith;
  }

  -- A message of the scope, in whose place stands one without bytes.
  pub message_out : (ms : List PoolMessage) (k : ℕ) (m bare : PoolMessage) → refs bare ≡ [] → k < length ms →
      TakesOut (record s { messages = set ms k m }) (record s { messages = set ms k bare }) (refs m)
  message_out ms k m bare none within = record {
    times = λ i.
        let whole = parts i (record s { messages = set ms k m }) in let left =
        parts i (record s { messages = set ms k bare }) in
        let one = times-set refs i ms k m bare within in let two = times-set refs i ms k bare bare within in
        let nothing = ap (times i) none in omega arith;
  }

  pub arrived_out : (m : Option PoolMessage) →
      TakesOut (record s { arrived = m }) (record s { arrived = None }) (refs_if m)
  arrived_out m = record {
    times = λ i.
        let whole = parts i (record s { arrived = m }) in let left = parts i (record s { arrived = None }) in
        omega arith;
  }

  pub sent_out : (dir : Dir) (event : PoolEvent) →
      TakesOut (record s { sent = s.sent ++ (dir, event) ∷ [] }) s (event_refs event)
  sent_out dir event = record {
    times = λ i.
        let whole = parts i (record s { sent = s.sent ++ (dir, event) ∷ [] }) in let left = parts i s in
        let both = times-both (λ (e : Dir × PoolEvent). event_refs e.1) i s.sent ((dir, event) ∷ []) in
        let one = times-one (λ (e : Dir × PoolEvent). event_refs e.1) i (dir, event) in omega arith;
  }

  pub kept_out : (k l : Kept PoolRow) (xs : List ℕ) →
      ((i : ℕ) → times i (kept_refs k) ≡ times i xs + times i (kept_refs l)) →
      TakesOut (record s { kept = k }) (record s { kept = l }) xs
  kept_out k l xs out = record {
    times = λ i.
        let whole = parts i (record s { kept = k }) in let left = parts i (record s { kept = l }) in let one = out i in
        omega arith;
  }
