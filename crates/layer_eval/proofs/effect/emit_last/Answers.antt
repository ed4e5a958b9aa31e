use Rattle.std.proofs.Common.{◌≡◌, OnOk, subst}
use Rattle.typed_layer.specs.View.{emission_tree}
use Rattle.layer_desk.specs.Laid.{sends, left}
use Rattle.layer_eval.specs.Worth.{message_sent}
use Rattle.layer_eval.proofs.effect.emit_last.Goals as goal

pub returns-clause-shown : goal.returns-clause-shown
returns-clause-shown g c =
    subst (λ event. OnOk c.send_last.result (g.D.Desk.shown c.send_last.new.pool c.send_last.new.desk ≡
    left (sends c.args.emission.now.direction event (g.D.Desk.shown c.args.pool.now c.args.desk.now))))
    (c.envelope-envelope.ensures
    (message_sent c.args.place (emission_tree c.args.emission.now)
    (g.D.Desk.shown c.args.pool.now c.args.desk.now)))
    c.send_last.ensures.shown
