use Rattle.std.proofs.Common.{◌∷◌, [], length, rules, arith, sym, ap, subst, ◌∙◌}
use Rattle.std.proofs.lemmas.List.{length-append}
use Rattle.circular_buffer.specs.Buffer.{Buffer, last_item}
use Rattle.layer_desk.specs.Need.{Layout}
use Rattle.pool_message.specs.Sent.{pool_event}
use Rattle.pool_message.specs.Tray.{OnTray}
use Rattle.pool_message.specs.declared.message.PoolMessage.{PoolMessage}
use Rattle.live_layer.specs.Ready.{stock_of, IsReady}
use Rattle.live_layer.specs.Stock.{laid}
use Rattle.live_layer.proofs.Lists.{items_are}
use Rattle.live_layer.proofs.ReadySent.{sent_grows, first_fits}
use Rattle.live_layer.proofs.Sent.{taken_off}
use Rattle.live_layer.proofs.sends.send_first.Goals as goal

pub returns-clause-ready : goal.returns-clause-ready
returns-clause-ready g c =
    let sending = c.args.sending.now in
    let places = ap (λ (l : Layout). l.places) c.requires.layout in
    let step = first_fits g.K.Start.begun c.args.pool.now (stock_of c.args.desk.now) c.requires.pool c.requires.fits
    sending.direction sending.envelope sending.header
    (omega arith) c.send_last.new.messages.items (last_item c.put_last_after.new.hand.items)
    (taken_off sending.direction sending.header c.args.desk.now.hand.items c.put_last_after.new.hand.items
    c.send_last.new.messages.items
    c.is_empty.result c.is_empty.ensures c.if-is_empty.false (items_are _ _ _ c.put_last_after.ensures)
    (items_are _ _ _ c.send_last.ensures.rest)) in
    subst (λ t. IsReady g.K.Start.begun c.args.pool.now
    (record c.args.desk.now { tray = t; hand = c.send_last.new.messages })) (sym c.send_last.ensures.sent) record {
      pool = step.0;
      layout = search rules;
      fits = step.1;
      numbers = c.requires.numbers;
      messages = c.requires.messages;
      forms = c.requires.forms;
      sent = sent_grows g.K.Start.begun.refs g.K.Start.begun.list c.args.desk.now.first c.args.desk.now.places
          c.args.desk.now.tray.sent
          (sending.direction, pool_event sending.envelope (last_item c.put_last_after.new.hand.items)) c.requires.sent;
    }

pub returns-clause-shown : goal.returns-clause-shown
returns-clause-shown g c =
    let sending = c.args.sending.now in
    let places = ap (λ (l : Layout). l.places) c.requires.layout in
    ap (λ t. laid c.args.pool.now (stock_of (record c.args.desk.now { tray = t; hand = c.send_last.new.messages })))
    c.send_last.ensures.sent ∙
    (first_fits g.K.Start.begun c.args.pool.now (stock_of c.args.desk.now) c.requires.pool c.requires.fits
    sending.direction sending.envelope sending.header
    (omega arith) c.send_last.new.messages.items (last_item c.put_last_after.new.hand.items)
    (taken_off sending.direction sending.header c.args.desk.now.hand.items c.put_last_after.new.hand.items
    c.send_last.new.messages.items
    c.is_empty.result c.is_empty.ensures c.if-is_empty.false (items_are _ _ _ c.put_last_after.ensures)
    (items_are _ _ _ c.send_last.ensures.rest))).3

pub returns-clause-spent : goal.returns-clause-spent
returns-clause-spent g c =
    let sending = c.args.sending.now in
    let places = ap (λ (l : Layout). l.places) c.requires.layout in
    let fewer = (first_fits g.K.Start.begun c.args.pool.now (stock_of c.args.desk.now) c.requires.pool c.requires.fits
    sending.direction sending.envelope sending.header
    (omega arith) c.send_last.new.messages.items (last_item c.put_last_after.new.hand.items)
    (taken_off sending.direction sending.header c.args.desk.now.hand.items c.put_last_after.new.hand.items
    c.send_last.new.messages.items
    c.is_empty.result c.is_empty.ensures c.if-is_empty.false (items_are _ _ _ c.put_last_after.ensures)
    (items_are _ _ _ c.send_last.ensures.rest))).2 in
    let one = ap (λ (b : Buffer PoolMessage). b.capacity) c.send_last.ensures.rest in
    let two = ap (λ (b : Buffer PoolMessage). b.capacity) c.put_last_after.ensures in
    let sent = length-append c.args.desk.now.tray.sent.items
    ((sending.direction, pool_event sending.envelope (last_item c.put_last_after.new.hand.items)) ∷ []) in
    let more = ap (λ (t : OnTray). length t.sent.items) c.send_last.ensures.sent in
    record { slots = search rules; places = omega arith; hand = omega arith }
