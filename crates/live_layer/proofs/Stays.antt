-- A desk stays as it is while other references move.
use Rattle.std.proofs.Common.{◌≡◌, ℕ, ◌+◌, ◌≤◌, List, ◌++◌, reverse, flat_map, arith}
use Rattle.slot_pool.specs.Held.{Held}
use Rattle.slot_pool.specs.References.{Moved, Covers}
use Rattle.slot_pool.specs.Times.{times}
use Rattle.slot_pool.proofs.Times.{times-append}
use Rattle.pool_message.specs.Seen.{refs, content_seen, Lies, refs_if}
use Rattle.pool_message.specs.Sent.{sent_refs}
use Rattle.pool_message.proofs.Lists.{each_stays}
use Rattle.pool_message.proofs.Stays.{message_stays, any_stays, sent_stay}
use Rattle.live_layer.specs.Stays.{cells_stay}
use Rattle.live_layer.specs.Stock.{Stock, kept_refs, stock_refs, laid, StockLies}

module _ (p q : List Held) (a b : List ℕ) (moved : Moved p q a b) where
  -- One of five parts, beside the references that move.
  module _ (v w x y z : List ℕ) (covers : Covers p (a ++ (v ++ (w ++ (x ++ (y ++ z)))))) where
    part : (k : List ℕ) → ((i : ℕ) → times i k ≤ times i v + (times i w + (times i x + (times i y + times i z)))) →
        Covers p (a ++ k)
    part k within = record {
      covers = λ i.
          let there = covers.covers i in let few = within i in
          let one = times-append i a k in let all = times-append i a (v ++ (w ++ (x ++ (y ++ z)))) in
          let first = times-append i v (w ++ (x ++ (y ++ z))) in let second = times-append i w (x ++ (y ++ z)) in
          let third = times-append i x (y ++ z) in let fourth = times-append i y z in omega arith;
    }

  pub stock_stays : (s : Stock) → Covers p (a ++ stock_refs s) → StockLies p s → StockLies q s × (laid q s ≡ laid p s)
  stock_stays s covers lies =
      let of = part (kept_refs s.kept) (flat_map refs s.messages) (refs_if s.arrived) (flat_map refs s.hand)
      (sent_refs s.sent) covers in
      let kept = cells_stay p q a b moved s.kept.cells (of (kept_refs s.kept) (λ i. omega arith)) lies.kept in
      let messages = each_stays refs (Lies p) (Lies q) (content_seen p) (content_seen q) p a
      (message_stays p q a b moved) s.messages
      (of (flat_map refs s.messages) (λ i. omega arith)) lies.messages in
      let arrived = any_stays p q a b moved s.arrived (of (refs_if s.arrived) (λ i. omega arith)) lies.arrived in
      let hand = each_stays refs (Lies p) (Lies q) (content_seen p) (content_seen q) p a (message_stays p q a b moved)
      s.hand
      (of (flat_map refs s.hand) (λ i. omega arith)) lies.hand in
      let sent = sent_stay p q a b moved s.sent (of (sent_refs s.sent) (λ i. omega arith)) lies.sent in (
        record { kept = kept.0; messages = messages.0; arrived = arrived.0; hand = hand.0; sent = sent.0 },
        λ k. record {
          state = record { me = s.kept.me; count = s.kept.count; ltime = s.kept.ltime; cells = kept.1 k };
          scope = record { numbers = s.numbers; messages = messages.1 k };
          arrived = arrived.1 k;
          hand = reverse (hand.1 k);
          sent = sent.1 k;
        },
      )
