use Rattle.std.proofs.Common.{None, refl, arith, ap, ◌∙◌}
use Rattle.layer_desk.specs.Need.{Layout}
use Rattle.pool_message.specs.Sent.{pool_event}
use Rattle.pool_message.specs.Tray.{also_sent}
use Rattle.live_layer.specs.Ready.{stock_of}
use Rattle.live_layer.specs.Stock.{laid}
use Rattle.live_layer.proofs.ReadySent.{sent_grows, alone_fits}
use Rattle.live_layer.proofs.Tray.{tray_ready}
use Rattle.live_layer.proofs.sends.send.Goals as goal

pub returns-clause-ready : goal.returns-clause-ready
returns-clause-ready g c =
    let places = ap (λ (l : Layout). l.places) c.requires.layout in
    let step = alone_fits g.K.Start.begun c.args.pool.now (stock_of c.args.desk.now) c.requires.pool c.requires.fits
    c.args.direction c.args.envelope (omega arith) in
    tray_ready g.K.Start.begun c.args.pool.now c.args.pool.now c.args.desk.now
    (also_sent c.args.direction c.args.envelope None c.args.desk.now.tray) c.send_bare.new.self
    c.requires c.send_bare.ensures step.0 step.1 refl
    (sent_grows g.K.Start.begun.refs g.K.Start.begun.list c.args.desk.now.first c.args.desk.now.places
    c.args.desk.now.tray.sent
    (c.args.direction, pool_event c.args.envelope None) c.requires.sent)

pub returns-clause-shown : goal.returns-clause-shown
returns-clause-shown g c =
    let places = ap (λ (l : Layout). l.places) c.requires.layout in
    ap (λ t. laid c.args.pool.now (stock_of (record c.args.desk.now { tray = t }))) c.send_bare.ensures ∙
    (alone_fits g.K.Start.begun c.args.pool.now (stock_of c.args.desk.now) c.requires.pool c.requires.fits
    c.args.direction c.args.envelope (omega arith)).2
