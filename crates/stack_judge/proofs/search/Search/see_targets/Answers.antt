use Rattle.std.proofs.Common.{◌+◌, ◌∙◌, sym}
use Rattle.weight_laws.specs.Search.{see}
use Rattle.stack_judge.specs.Searches.{search_tree}
use Rattle.stack_judge.proofs.Steps.{fold_more}
use Rattle.stack_judge.proofs.search.Search.see_targets.Goals as goal

pub loop-k-preserved : goal.loop-k-preserved
loop-k-preserved c =
    c.in_ok-see.ensures ∙ (λ i. see (c.loop-k.invariant i) (c.args.edge.first + c.from.ensures i))
    ∙ sym (fold_more see (search_tree c.args.self.now) c.args.edge.first c.loop-k.k)
