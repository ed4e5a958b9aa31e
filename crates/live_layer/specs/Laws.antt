-- What callers of a desk use: the messages in hand and the places left, and the events that were sent and the places
-- left.
use Rattle.std.specs.Prelude.{◌≡◌, ◌+◌, List, map, length}
use Rattle.std.proofs.Common.{ap, arith}
use Rattle.std.proofs.lemmas.List.{length-map, length-reverse}
use Rattle.slot_pool.specs.Held.{Held}
use Rattle.layer_words.specs.declared.events.Dir.{Dir}
use Rattle.layer_desk.specs.Need.{Layout}
use Rattle.layer_desk.specs.Spent.{Begun}
use Rattle.pool_message.specs.Seen.{content_seen, event_seen}
use Rattle.pool_message.specs.Sent.{sent_seen}
use Rattle.layer_mean.specs.declared.run.Event.{Event}
use Rattle.pool_message.specs.declared.event.PoolEvent.{PoolEvent}
use Rattle.live_layer.specs.Stock.{laid}
use Rattle.live_layer.specs.Ready.{stock_of, room_of, IsReady}
use Rattle.live_layer.specs.declared.desk.FileDesk.{FileDesk}

pub hand_left : (b : Begun) (p : List Held) (d : FileDesk) → IsReady b p d →
    (room_of p d).hand + length (laid p (stock_of d)).hand ≡ b.layout.hand
hand_left b p d is =
    let made = ap (λ (l : Layout). l.hand) is.layout in let few = is.fits.hand in
    let turned = length-reverse (map (content_seen p) d.hand.items) in let shown =
    length-map d.hand.items (content_seen p) in
    omega arith

pub places_left : (b : Begun) (p : List Held) (d : FileDesk) → IsReady b p d →
    (room_of p d).places + length (laid p (stock_of d)).sent ≡ b.layout.places
places_left b p d is =
    let made = ap (λ (l : Layout). l.places) is.layout in let few = is.fits.sent in
    let shown : length (sent_seen p d.tray.sent.items) ≡ length d.tray.sent.items =
    length-map {B = Dir × Event} d.tray.sent.items (λ (e : Dir × PoolEvent). (e.0, event_seen p e.1)) in omega arith
