use Rattle.family_world.proofs.Judged.{keeps_so, runs_so}
use Rattle.family_world.proofs.scene.SceneTrial.keeps.Goals as goal

pub keeps-requires-clause-runs : goal.keeps-requires-clause-runs
keeps-requires-clause-runs c =
    runs_so c.self.inside.acts c.self.inside.bounds c.args.past.now c.self.inside.play c.self.inside.play _
    c.self.view_is c.self.invariant.1 c.requires

pub returns : goal.returns
returns c =
    keeps_so c.self.inside.acts c.self.inside.bounds c.args.past.now c.self.inside.play c.keeps.new.play _
    c.self.view_is c.keeps.result _ c.keeps.ensures c.passed.ensures
