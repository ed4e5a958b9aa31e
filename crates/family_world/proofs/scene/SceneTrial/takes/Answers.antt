use Rattle.family_world.proofs.Judged.{takes_so}
use Rattle.family_world.proofs.scene.SceneTrial.takes.Goals as goal

pub returns : goal.returns
returns c =
    takes_so c.self.inside.acts c.self.inside.bounds c.args.past.now c.self.inside.play c.takes.new.play _
    c.self.view_is c.args.choice c.takes.result _ c.takes.ensures c.passed.ensures
