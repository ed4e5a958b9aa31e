use Rattle.std.proofs.Common.{◌∙◌}
use Rattle.family_search.specs.Trying.{events_of}
use Rattle.bound_run.proofs.Answered.{find}
use Rattle.bound_run.proofs.breach.broken.Goals as goal

pub report-requires : goal.report-requires
report-requires c = c.requires.of.follow

pub returns-in-Some : goal.returns-in-Some
returns-in-Some c =
    find c.args.scene.now (events_of c.args.scene.now c.args.past.now) _ _ _ _ c.requires c.bounds-law.ensures.law
    (c.deref.ensures.value ∙ c.in_ok-report.ensures.is) c.in_ok-script.ensures
    (rw c.in-Some.is at c.in_ok-text.ensures)
