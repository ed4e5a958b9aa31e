use Rattle.std.proofs.Common.{[], refl, ap, ◌∙◌}
use Rattle.circular_buffer.specs.Buffer.{buffer}
use Rattle.live_layer.specs.Ready.{stock_of}
use Rattle.live_layer.specs.Stock.{laid}
use Rattle.live_layer.proofs.ReadyScope.{scope_covered, messages_back}
use Rattle.live_layer.proofs.Tray.{tray_ready}
use Rattle.live_layer.proofs.leaves.forget_messages.Goals as goal

pub clear_messages-requires : goal.clear_messages-requires
clear_messages-requires g c = scope_covered g.K.Start.begun c.args.pool.now c.args.pool.now (stock_of c.args.desk.now)
    c.requires.pool c.requires.fits

pub returns-clause-ready : goal.returns-clause-ready
returns-clause-ready g c =
    let step = messages_back g.K.Start.begun c.args.pool.now c.clear_messages.new.pool (stock_of c.args.desk.now)
    c.requires.pool c.requires.fits
    c.clear_messages.ensures.returned in
    tray_ready g.K.Start.begun c.args.pool.now c.clear_messages.new.pool c.args.desk.now
    (record c.args.desk.now.tray { messages = buffer [] c.args.desk.now.tray.messages.capacity })
    c.clear_messages.new.self c.requires c.clear_messages.ensures.empty step.0 step.1 refl c.requires.sent

pub returns-clause-shown : goal.returns-clause-shown
returns-clause-shown g c =
    ap (λ t. laid c.clear_messages.new.pool (stock_of (record c.args.desk.now { tray = t })))
    c.clear_messages.ensures.empty ∙
    (messages_back g.K.Start.begun c.args.pool.now c.clear_messages.new.pool (stock_of c.args.desk.now) c.requires.pool
    c.requires.fits
    c.clear_messages.ensures.returned).2
