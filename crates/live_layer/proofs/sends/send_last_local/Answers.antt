use Rattle.std.proofs.Common.{◌≡◌, [], ◌∷◌, ◌++◌, Some, map, get_or, refl, arith, ap, subst, ◌∙◌}
use Rattle.circular_buffer.specs.Buffer.{buffer}
use Rattle.msg_core.specs.Chain.{plain}
use Rattle.layer_mean.specs.Effect.{sent_as}
use Rattle.layer_desk.specs.Laid.{sends}
use Rattle.layer_mean.specs.Envelope.{event_in}
use Rattle.layer_desk.specs.Need.{Layout}
use Rattle.pool_message.specs.Seen.{bodiless, refs, content_seen}
use Rattle.pool_message.specs.Sent.{sent_after, pool_event}
use Rattle.pool_message.specs.Tray.{message_at, also_sent}
use Rattle.live_layer.specs.Ready.{stock_of}
use Rattle.live_layer.specs.Scope.{without_messages}
use Rattle.live_layer.specs.Stock.{laid}
use Rattle.live_layer.proofs.Fits.{can_keep}
use Rattle.live_layer.proofs.Lists.{item_within}
use Rattle.live_layer.proofs.Ready.{scope_there}
use Rattle.live_layer.proofs.ReadyScope.{scope_covered}
use Rattle.live_layer.proofs.ReadySent.{sent_grows, last_fits}
use Rattle.live_layer.proofs.Sent.{can_pass}
use Rattle.live_layer.proofs.Tray.{tray_ready}
use Rattle.live_layer.proofs.sends.send_last_local.Goals as goal

pub send_and_clear-requires-clause-room : goal.send_and_clear-requires-clause-room
send_and_clear-requires-clause-room g c =
    can_pass c.args.sending.now.direction (message_at c.from.result c.args.desk.now.tray)
    (scope_there g.K.Start.begun c.args.pool.now c.args.pool.now (stock_of c.args.desk.now) c.requires.ready.pool
    c.requires.ready.fits c.from.result
    (message_at c.from.result c.args.desk.now.tray)
    (item_within c.args.desk.now.tray.messages.items c.from.result (bodiless [])
    (omega (arith, c.from.ensures, c.requires.some)))).2

pub send_and_clear-requires-clause-there : goal.send_and_clear-requires-clause-there
send_and_clear-requires-clause-there g c =
    scope_covered g.K.Start.begun c.args.pool.now c.args.pool.now (stock_of c.args.desk.now) c.requires.ready.pool
    c.requires.ready.fits

pub send_and_clear-requires-clause-keeps : goal.send_and_clear-requires-clause-keeps
send_and_clear-requires-clause-keeps g c =
    can_keep g.K.Start.begun c.args.pool.now c.args.desk.now c.requires.ready
    (refs (message_at c.from.result c.args.desk.now.tray))

pub returns-clause-ready : goal.returns-clause-ready
returns-clause-ready g c =
    let sending = c.args.sending.now in
    let places = ap (λ (l : Layout). l.places) c.requires.ready.layout in let room = c.requires.places in
    let step = last_fits g.K.Start.begun c.args.pool.now (stock_of c.args.desk.now) c.requires.ready.pool
    c.requires.ready.fits sending.direction sending.envelope
    sending.header (omega arith) c.send_and_clear.new.pool c.from.result (message_at c.from.result c.args.desk.now.tray)
    (item_within c.args.desk.now.tray.messages.items c.from.result (bodiless [])
    (omega (arith, c.from.ensures, c.requires.some))) c.send_and_clear.ensures.returned in
    tray_ready g.K.Start.begun c.args.pool.now c.send_and_clear.new.pool c.args.desk.now
    (record (also_sent sending.direction sending.envelope
    (Some (sent_after sending.direction sending.header (message_at c.from.result c.args.desk.now.tray)))
    c.args.desk.now.tray) { messages = buffer [] c.args.desk.now.tray.messages.capacity }) c.send_and_clear.new.self
    c.requires.ready c.send_and_clear.ensures.sent step.0 step.1 refl
    (sent_grows g.K.Start.begun.refs g.K.Start.begun.list c.args.desk.now.first c.args.desk.now.places
    c.args.desk.now.tray.sent (
      sending.direction,
      pool_event sending.envelope
          (Some (sent_after sending.direction sending.header (message_at c.from.result c.args.desk.now.tray))),
    )
    c.requires.ready.sent)

pub returns-clause-shown : goal.returns-clause-shown
returns-clause-shown g c =
    let sending = c.args.sending.now in
    let places = ap (λ (l : Layout). l.places) c.requires.ready.layout in let room = c.requires.places in
    ap (λ t. laid c.send_and_clear.new.pool (stock_of (record c.args.desk.now { tray = t })))
    c.send_and_clear.ensures.sent ∙
    subst (λ k. laid c.send_and_clear.new.pool (record (stock_of c.args.desk.now) {
      messages = [];
      sent = c.args.desk.now.tray.sent.items ++ (
        sending.direction,
        pool_event sending.envelope
            (Some (sent_after sending.direction sending.header (message_at c.from.result c.args.desk.now.tray))),
      ) ∷ [];
    }) ≡ without_messages (sends sending.direction
    (event_in sending.envelope
    (Some (sent_as sending.direction sending.header
    (get_or (map (content_seen c.args.pool.now) c.args.desk.now.tray.messages.items) k (plain [])))))
    (laid c.args.pool.now (stock_of c.args.desk.now)))) c.from.ensures
    (last_fits g.K.Start.begun c.args.pool.now (stock_of c.args.desk.now) c.requires.ready.pool c.requires.ready.fits
    sending.direction sending.envelope
    sending.header (omega arith) c.send_and_clear.new.pool c.from.result (message_at c.from.result c.args.desk.now.tray)
    (item_within c.args.desk.now.tray.messages.items c.from.result (bodiless [])
    (omega (arith, c.from.ensures, c.requires.some))) c.send_and_clear.ensures.returned).2
