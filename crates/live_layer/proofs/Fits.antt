-- A desk that has no more than it is made for has few references, so each of them can be kept once more.
use Rattle.std.proofs.Common.{ℕ, ◌+◌, ◌-◌, ◌≤◌, List, length, take, drop, flat_map, ap, arith}
use Rattle.std.proofs.lemmas.List.{length-drop, take-append-drop}
use Rattle.slot_pool.specs.Held.{Held}
use Rattle.slot_pool.specs.Times.{times}
use Rattle.slot_pool.proofs.References.{times-most}
use Rattle.layer_words.specs.declared.events.Dir.{Dir}
use Rattle.layer_desk.specs.Need.{Layout}
use Rattle.layer_desk.specs.Spent.{Begun}
use Rattle.pool_message.specs.Seen.{refs, refs_if, event_refs}
use Rattle.pool_message.specs.Sent.{sent_refs}
use Rattle.pool_message.specs.Moves.{CanKeep}
use Rattle.pool_message.specs.declared.event.PoolEvent.{PoolEvent}
use Rattle.pool_message.specs.declared.message.PoolMessage.{PoolMessage}
use Rattle.live_layer.specs.Stock.{Stock, kept_refs}
use Rattle.live_layer.specs.Few.{body_few, any_few, each_few, cells_few}
use Rattle.live_layer.specs.Fits.{rows_most, StockFits}
use Rattle.live_layer.specs.Ready.{stock_of, IsReady}
use Rattle.live_layer.specs.declared.desk.FileDesk.{FileDesk}
use Rattle.live_layer.proofs.Lists.{times-both}
use Rattle.live_layer.proofs.Parts.{parts}

-- The references of a desk beside those of what it sends.
own_few : (l : Layout) (s : Stock) (i : ℕ) → StockFits l s →
    times i (kept_refs s.kept) +
    (times i (flat_map refs s.messages) + (times i (refs_if s.arrived) + times i (flat_map refs s.hand))) ≤ 15728638
own_few l s i fits =
    let rows = cells_few s.kept.cells fits.cells in let made = ap rows_most fits.rows in
    let messages = each_few refs (λ (m : PoolMessage). body_few m.body) s.messages in
    let arrived = any_few s.arrived in
    let hand = each_few refs (λ (m : PoolMessage). body_few m.body) s.hand in
    let one = fits.messages in let two = fits.hand in let all = fits.few in
    omega (
      arith,
      times-most i (kept_refs s.kept),
      times-most i (flat_map refs s.messages),
      times-most i (refs_if s.arrived),
      times-most i (flat_map refs s.hand),
    )

-- What is sent has the references of what was sent before, and one each of the others.
sent_few : (sent : List (Dir × PoolEvent)) (first i : ℕ) →
    times i (sent_refs sent) ≤ times i (sent_refs (take first sent)) + (length sent - first)
sent_few sent first i =
    let parts = ap (λ events. times i (sent_refs events)) (take-append-drop first sent) in
    let both = times-both (λ (e : Dir × PoolEvent). event_refs e.1) i (take first sent) (drop first sent) in
    let few = each_few (λ (e : Dir × PoolEvent). event_refs e.1) (λ (e : Dir × PoolEvent). any_few e.1.message)
    (drop first sent) in
    let most = times-most i (sent_refs (drop first sent)) in
    let long = length-drop first sent in omega arith

-- So any reference can be kept.
pub can_keep : (b : Begun) (p : List Held) (d : FileDesk) → IsReady b p d → (xs : List ℕ) → CanKeep p xs
can_keep b p d is xs = record {
  below = λ i some.
      let few = is.pool.few i in let counts = is.pool.moved.counts i in let whole = parts i (stock_of d) in
      let own = own_few b.layout (stock_of d) i is.fits in let sent = sent_few d.tray.sent.items d.first i in
      let old = is.sent.old i in let more = is.sent.few in let before = is.sent.before in let there = is.fits.sent in
      let places = ap (λ (l : Layout). l.places) is.layout in omega arith;
}
