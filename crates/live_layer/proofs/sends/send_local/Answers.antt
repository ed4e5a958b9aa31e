use Rattle.std.proofs.Common.{[], Some, slice_get, refl, arith, sym, ap, ◌∙◌}
use Rattle.layer_desk.specs.Need.{Layout}
use Rattle.pool_message.specs.Seen.{bodiless, refs}
use Rattle.pool_message.specs.Sent.{sent_after, pool_event}
use Rattle.pool_message.specs.Tray.{message_at, also_sent}
use Rattle.live_layer.specs.Ready.{stock_of}
use Rattle.live_layer.specs.Stock.{laid}
use Rattle.live_layer.proofs.Fits.{can_keep}
use Rattle.live_layer.proofs.Lists.{read_there}
use Rattle.live_layer.proofs.Ready.{scope_there}
use Rattle.live_layer.proofs.ReadySent.{sent_grows, local_fits}
use Rattle.live_layer.proofs.Sent.{can_pass}
use Rattle.live_layer.proofs.Tray.{tray_ready}
use Rattle.live_layer.proofs.sends.send_local.Goals as goal

pub send_message-requires-clause-room : goal.send_message-requires-clause-room
send_message-requires-clause-room g c =
    can_pass c.args.sending.now.direction (message_at c.from-place.result c.args.desk.now.tray)
    (scope_there g.K.Start.begun c.args.pool.now c.args.pool.now (stock_of c.args.desk.now) c.requires.pool
    c.requires.fits c.from-place.result
    (message_at c.from-place.result c.args.desk.now.tray)
    (read_there c.args.desk.now.tray.messages.items c.from-place.result (bodiless []) _ _ c.message.ensures
    c.in-Some.is)).2

pub send_message-requires-clause-there : goal.send_message-requires-clause-there
send_message-requires-clause-there g c =
    (scope_there g.K.Start.begun c.args.pool.now c.args.pool.now (stock_of c.args.desk.now) c.requires.pool
    c.requires.fits c.from-place.result
    (message_at c.from-place.result c.args.desk.now.tray)
    (read_there c.args.desk.now.tray.messages.items c.from-place.result (bodiless []) _ _ c.message.ensures
    c.in-Some.is)).0

pub send_message-requires-clause-keeps : goal.send_message-requires-clause-keeps
send_message-requires-clause-keeps g c =
    can_keep g.K.Start.begun c.args.pool.now c.args.desk.now c.requires
    (refs (message_at c.from-place.result c.args.desk.now.tray))

pub returns-in-Some-clause-ready : goal.returns-in-Some-clause-ready
returns-in-Some-clause-ready g c =
    let sending = c.args.sending.now in
    let places = ap (λ (l : Layout). l.places) c.requires.layout in
    let step = local_fits g.K.Start.begun c.args.pool.now (stock_of c.args.desk.now) c.requires.pool c.requires.fits
    sending.direction sending.envelope sending.header
    (omega arith) c.send_message.new.pool c.args.slot (message_at c.from-place.result c.args.desk.now.tray)
    (ap (slice_get c.args.desk.now.tray.messages.items) (sym c.from-place.ensures) ∙
    read_there c.args.desk.now.tray.messages.items c.from-place.result (bodiless []) _ _ c.message.ensures c.in-Some.is)
    c.send_message.ensures.kept in
    tray_ready g.K.Start.begun c.args.pool.now c.send_message.new.pool c.args.desk.now
    (also_sent sending.direction sending.envelope
    (Some (sent_after sending.direction sending.header (message_at c.from-place.result c.args.desk.now.tray)))
    c.args.desk.now.tray) c.send_message.new.self
    c.requires c.send_message.ensures.sent step.0 step.1 refl
    (sent_grows g.K.Start.begun.refs g.K.Start.begun.list c.args.desk.now.first c.args.desk.now.places
    c.args.desk.now.tray.sent (
      sending.direction,
      pool_event sending.envelope
          (Some (sent_after sending.direction sending.header (message_at c.from-place.result c.args.desk.now.tray))),
    )
    c.requires.sent)

pub returns-in-Some-clause-shown : goal.returns-in-Some-clause-shown
returns-in-Some-clause-shown g c =
    let sending = c.args.sending.now in
    let places = ap (λ (l : Layout). l.places) c.requires.layout in
    ap (λ t. laid c.send_message.new.pool (stock_of (record c.args.desk.now { tray = t }))) c.send_message.ensures.sent
    ∙
    (local_fits g.K.Start.begun c.args.pool.now (stock_of c.args.desk.now) c.requires.pool c.requires.fits
    sending.direction sending.envelope sending.header
    (omega arith) c.send_message.new.pool c.args.slot (message_at c.from-place.result c.args.desk.now.tray)
    (ap (slice_get c.args.desk.now.tray.messages.items) (sym c.from-place.ensures) ∙
    read_there c.args.desk.now.tray.messages.items c.from-place.result (bodiless []) _ _ c.message.ensures c.in-Some.is)
    c.send_message.ensures.kept).2
