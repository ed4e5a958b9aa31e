use Rattle.family_world.proofs.Judged.{sent_so}
use Rattle.family_world.proofs.scene.SceneTrial.sent.Goals as goal

pub returns : goal.returns
returns c =
    sent_so c.self.inside.acts c.self.inside.bounds c.args.past.now c.self.inside.play c.sent_after.new.play _
    c.self.view_is c.sent_after.result _ c.sent_after.ensures c.packets.ensures
