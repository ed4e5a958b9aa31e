use Rattle.std.proofs.Common.{[], Some, refl, arith, ap, ◌∙◌}
use Rattle.layer_desk.specs.Need.{Layout}
use Rattle.pool_message.specs.Seen.{bodiless}
use Rattle.pool_message.specs.Sent.{sent_after, pool_event}
use Rattle.pool_message.specs.Tray.{also_sent}
use Rattle.live_layer.specs.Ready.{stock_of}
use Rattle.live_layer.specs.Stock.{laid}
use Rattle.live_layer.proofs.ReadySent.{sent_grows, nothing_fits}
use Rattle.live_layer.proofs.Tray.{tray_ready}
use Rattle.live_layer.proofs.sends.send_missing.Goals as goal

pub returns-clause-ready : goal.returns-clause-ready
returns-clause-ready g c =
    let sending = c.args.sending.now in
    let places = ap (λ (l : Layout). l.places) c.requires.ready.layout in let room = c.requires.places in
    let step = nothing_fits g.K.Start.begun c.args.pool.now (stock_of c.args.desk.now) c.requires.ready.pool
    c.requires.ready.fits sending.direction sending.envelope
    sending.header (omega arith) c.args.slot c.requires.none in
    tray_ready g.K.Start.begun c.args.pool.now c.args.pool.now c.args.desk.now
    (also_sent sending.direction sending.envelope (Some (sent_after sending.direction sending.header (bodiless [])))
    c.args.desk.now.tray) c.send_nothing.new.tray
    c.requires.ready c.send_nothing.ensures step.0 step.1 refl
    (sent_grows g.K.Start.begun.refs g.K.Start.begun.list c.args.desk.now.first c.args.desk.now.places
    c.args.desk.now.tray.sent
    (sending.direction, pool_event sending.envelope (Some (sent_after sending.direction sending.header (bodiless []))))
    c.requires.ready.sent)

pub returns-clause-shown : goal.returns-clause-shown
returns-clause-shown g c =
    let sending = c.args.sending.now in
    let places = ap (λ (l : Layout). l.places) c.requires.ready.layout in let room = c.requires.places in
    ap (λ t. laid c.args.pool.now (stock_of (record c.args.desk.now { tray = t }))) c.send_nothing.ensures ∙
    (nothing_fits g.K.Start.begun c.args.pool.now (stock_of c.args.desk.now) c.requires.ready.pool c.requires.ready.fits
    sending.direction sending.envelope
    sending.header (omega arith) c.args.slot c.requires.none).2
