use Rattle.std.proofs.Common.{◌∙◌, sym, ap}
use Rattle.step_outputs.specs.Gathered.{Gathered}
use Rattle.step_outputs.specs.Kept.{announced_by}
use Rattle.step_outputs.specs.declared.kept.Kept.{Kept}
use Rattle.step_outputs.proofs.Announced.{first_told, none_told, none_more}
use Rattle.step_outputs.proofs.outputs.Outputs.first_announced.Goals as goal

pub returns-in-Some : goal.returns-in-Some
returns-in-Some c =
    first_told _ _ _ _ _ _ c.kept-item.result _ (ap (λ (g : Gathered). g.outputs) c.self.view_is)
    c.slice-kept-items.ensures
    c.loop-kept-test.true c.loop-kept.invariant c.kept-item.is (sym c.announces.ensures ∙ c.in-Some.is)

pub loop-kept-preserved : goal.loop-kept-preserved
loop-kept-preserved c =
    none_more _ _ c.kept-item.result c.loop-kept-test.true c.loop-kept.invariant
    (ap (λ (k : Kept). announced_by k.what) (sym c.kept-item.is) ∙ sym c.announces.ensures ∙ c.in_default.is)

pub returns : goal.returns
returns c =
    none_told _ _ _ _ _ _ (ap (λ (g : Gathered). g.outputs) c.self.view_is) c.slice-kept-items.ensures
    c.loop-kept-test.false
    c.loop-kept.invariant
