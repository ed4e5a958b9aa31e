use Rattle.family_world.proofs.Judged.{runs_so}
use Rattle.family_world.proofs.scene.Scene.report.Goals as goal

pub report-requires-clause-runs : goal.report-requires-clause-runs
report-requires-clause-runs c =
    runs_so c.self.inside.acts c.self.inside.bounds c.args.past.now c.self.inside.play c.self.inside.play _
    c.self.view_is c.self.invariant.1 c.requires
