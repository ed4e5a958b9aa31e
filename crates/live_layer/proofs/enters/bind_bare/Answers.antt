use Rattle.std.proofs.Common.{◌≡◌, [], ◌∷◌, suc, ◌+◌, ◌-◌, length, refl, arith, sym, ap, ◌∙◌}
use Rattle.std.proofs.lemmas.List.{length-append}
use Rattle.layer_desk.specs.Need.{Layout}
use Rattle.pool_message.specs.Seen.{bodiless}
use Rattle.pool_message.specs.Tray.{OnTray}
use Rattle.live_layer.specs.Entered.{with_bare}
use Rattle.live_layer.specs.Ready.{stock_of, room_of}
use Rattle.live_layer.specs.Stock.{laid}
use Rattle.live_layer.proofs.ReadyScope.{bare_more}
use Rattle.live_layer.proofs.Tray.{tray_ready}
use Rattle.live_layer.proofs.enters.bind_bare.Goals as goal

pub loop-preserved : goal.loop-preserved
loop-preserved g c =
    let below = c.loop-test.true in
    let left : c.args.count - c.loop.counter ≡ suc (c.args.count - (c.loop.counter + 1)) = omega arith in
    let ready = c.loop.invariant.0 in let room = c.loop.invariant.2 in
    let long = ap (λ (t : OnTray). length t.messages.items) c.push_message.ensures ∙
    length-append c.loop.desk.tray.messages.items (bodiless [] ∷ []) in
    let kept = ap (λ (t : OnTray). t.messages.capacity) c.push_message.ensures in
    let places = ap (λ (l : Layout). l.messages) ready.layout in let some = ready.messages in
    let step = bare_more g.K.Start.begun c.args.pool.now (stock_of c.loop.desk) ready.pool ready.fits (omega arith) in (
      tray_ready g.K.Start.begun c.args.pool.now c.args.pool.now c.loop.desk _ _ ready c.push_message.ensures step.0
          step.1 refl ready.sent,
      ap (λ t. with_bare (c.args.count - (c.loop.counter + 1))
          (laid c.args.pool.now (stock_of (record c.loop.desk { tray = t })))) c.push_message.ensures ∙
          step.2 (c.args.count - (c.loop.counter + 1)) ∙
          ap (λ k. with_bare k (laid c.args.pool.now (stock_of c.loop.desk))) (sym left) ∙ c.loop.invariant.1,
      omega arith,
      ap (λ t. room_of c.args.pool.now (record c.loop.desk { tray = t })) c.push_message.ensures ∙ c.loop.invariant.3,
    )
