use Rattle.std.proofs.Common.{◌≡◌, ◌+◌, min, vec_capacity, rules, arith, ap, ◌∙◌}
use Rattle.circular_buffer.specs.Buffer.{Buffer}
use Rattle.typed_layer.specs.View.{layer_tree}
use Rattle.desk_needs.specs.Layouts as room
use Rattle.desk_needs.specs.declared.reserve.Reserve.{Reserve}
use Rattle.pool_message.specs.Tray.{OnTray}
use Rattle.pool_message.specs.declared.message.PoolMessage.{PoolMessage}
use Rattle.live_layer.specs.declared.desk.FileDesk.{FileDesk}
use Rattle.live_layer.specs.Fresh.{IsEmpty}
use Rattle.live_layer.proofs.Lists.{items_are}
use Rattle.live_layer.proofs.Fresh.{layout_at_first, empty_at_rest}
use Rattle.live_layer.proofs.makes.make.Goals as goal

pub returns-in-Ok-clause-fresh : goal.returns-in-Ok-clause-fresh
returns-in-Ok-clause-fresh c =
    let layout = room.layout_of (layer_tree c.args.layer.now) 0 in
    let one = ap (λ (r : Reserve). r.numbers) c.in_ok-reserve.ensures.is in
    let two = ap (λ (r : Reserve). r.messages) c.in_ok-reserve.ensures.is in
    let three = ap (λ (r : Reserve). r.hand) c.in_ok-reserve.ensures.is in
    let four = c.from.ensures in let five = c.from-2.ensures in
    let places = c.in_ok-numbers.ensures.exact in
    let messages = ap (λ (t : OnTray). t.messages.capacity) c.in_ok-lists.ensures.0 in
    let numbers_is : vec_capacity c.in_ok-numbers.numbers ≡ layout.numbers + 6 = omega arith in
    let messages_is : c.in_ok-lists.lists.tray.messages.capacity ≡ layout.messages + 1 = omega arith in
    let hand_is : c.in_ok-lists.lists.hand.capacity ≡ min layout.hand 4294967295 =
    ap (λ (b : Buffer PoolMessage). b.capacity) c.in_ok-lists.ensures.1 ∙ three in
    let desk : FileDesk = record {
      cells = c.in-Ok.cells;
      numbers = c.in_ok-numbers.numbers;
      tray = c.in_ok-lists.lists.tray;
      hand = c.in_ok-lists.lists.hand;
      first = 0;
      places = 0;
    } in
    let view = c.args.membership in
    let empty : IsEmpty (layer_tree c.args.layer.now) view.me view.count view.ltime desk = record {
      cells = search rules;
      numbers = search rules;
      messages = ap (λ (t : OnTray). t.messages.items) c.in_ok-lists.ensures.0;
      arrived = ap (λ (t : OnTray). t.arrived) c.in_ok-lists.ensures.0;
      hand = items_are _ _ _ c.in_ok-lists.ensures.1;
      sent = ap (λ (t : OnTray). t.sent) c.in_ok-lists.ensures.0;
      numbers_room = omega arith;
      messages_room = omega arith;
      layout = layout_at_first (layer_tree c.args.layer.now) view.me view.count view.ltime desk
          c.in_ok-reserve.ensures.few (search rules) numbers_is messages_is hand_is (search rules);
    } in
    empty_at_rest view.me view.count view.ltime (layer_tree c.args.layer.now) desk c.requires.members
    c.in_ok-reserve.ensures.few c.requires.made empty
