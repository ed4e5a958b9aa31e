use Rattle.std.proofs.Common.{arith, ap, ◌∙◌, length}
use Rattle.stack_judge.specs.Answer.{stack_tree}
use Rattle.report_lines.specs.Nones.{first_nones}
use Rattle.report_lines.proofs.Nones.{begins, within}
use Rattle.report_lines.proofs.named.NamedStack.begin.Goals as goal

pub index-requires : goal.index-requires
index-requires c =
    let below = within _ (stack_tree c.args.self.now) _ _ c.from.result (ap stack_tree c.self.view_is)
    c.self.invariant.0 (rw c.from.ensures c.requires) in
    omega (arith, below, c.self.inside.places.ok)

pub returns : goal.returns
returns c =
    c.index.ensures ∙ begins _ (stack_tree c.args.self.now) _ _ _ _ (ap stack_tree c.self.view_is) c.self.invariant.0
    (rw c.from.ensures c.requires)
    ∙ ap (λ k. length (first_nones (stack_tree c.args.self.now) k)) c.from.ensures
