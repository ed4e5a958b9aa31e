use Rattle.std.proofs.Common.{None, option_map, refl, arith, ap, ◌∙◌}
use Rattle.layer_desk.specs.Need.{Layout}
use Rattle.pool_message.specs.Sent.{sent_after, pool_event}
use Rattle.pool_message.specs.Tray.{OnTray, also_sent}
use Rattle.live_layer.specs.Ready.{stock_of}
use Rattle.live_layer.specs.Stock.{laid}
use Rattle.live_layer.proofs.ReadySent.{sent_grows, on_fits}
use Rattle.live_layer.proofs.Tray.{tray_ready}
use Rattle.live_layer.proofs.sends.pass_on.Goals as goal

pub returns-clause-ready : goal.returns-clause-ready
returns-clause-ready g c =
    let sending = c.args.sending.now in
    let places = ap (λ (l : Layout). l.places) c.requires.layout in
    let step = on_fits g.K.Start.begun c.args.pool.now (stock_of c.args.desk.now) c.requires.pool c.requires.fits
    sending.direction sending.envelope sending.header
    (omega arith) (option_map (sent_after sending.direction sending.header) c.args.desk.now.tray.arrived) refl in
    tray_ready g.K.Start.begun c.args.pool.now c.args.pool.now c.args.desk.now
    (record (also_sent sending.direction sending.envelope
    (option_map (sent_after sending.direction sending.header) c.args.desk.now.tray.arrived) c.args.desk.now.tray)
    { arrived = None }) c.send_arrived.new.self c.requires
    (c.send_arrived.ensures ∙
    ap (λ (t : OnTray). record (also_sent sending.direction sending.envelope t.arrived t) { arrived = None })
    c.put_after.ensures)
    step.0 step.1 refl
    (sent_grows g.K.Start.begun.refs g.K.Start.begun.list c.args.desk.now.first c.args.desk.now.places
    c.args.desk.now.tray.sent (
      sending.direction,
      pool_event sending.envelope
          (option_map (sent_after sending.direction sending.header) c.args.desk.now.tray.arrived),
    ) c.requires.sent)

pub returns-clause-shown : goal.returns-clause-shown
returns-clause-shown g c =
    let sending = c.args.sending.now in
    let places = ap (λ (l : Layout). l.places) c.requires.layout in
    ap (λ t. laid c.args.pool.now (stock_of (record c.args.desk.now { tray = t })))
    (c.send_arrived.ensures ∙
    ap (λ (t : OnTray). record (also_sent sending.direction sending.envelope t.arrived t) { arrived = None })
    c.put_after.ensures) ∙
    (on_fits g.K.Start.begun c.args.pool.now (stock_of c.args.desk.now) c.requires.pool c.requires.fits
    sending.direction sending.envelope sending.header
    (omega arith) (option_map (sent_after sending.direction sending.header) c.args.desk.now.tray.arrived) refl).2
