use Rattle.std.proofs.Common.{ap, ◌∙◌}
use Rattle.stack_judge.specs.Answer.{stack_tree}
use Rattle.report_lines.proofs.Nones.{cut}
use Rattle.report_lines.proofs.named.NamedStack.nones.Goals as goal

pub part-requires : goal.part-requires
part-requires c =
    let facts = cut _ (stack_tree c.args.self.now) _ _ c.args.first c.args.count _ _ (ap stack_tree c.self.view_is)
    c.self.invariant.0 c.requires
    c.begin-from.ensures c.begin-to.ensures in
    (facts.ordered, rw c.as_slice.ensures.value facts.inside)

pub returns : goal.returns
returns c =
    let facts = cut _ (stack_tree c.args.self.now) _ _ c.args.first c.args.count _ _ (ap stack_tree c.self.view_is)
    c.self.invariant.0 c.requires
    c.begin-from.ensures c.begin-to.ensures in
    c.part.ensures ∙ rw c.as_slice.ensures.value facts.is
