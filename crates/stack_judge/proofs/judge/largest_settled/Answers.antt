use Rattle.std.proofs.Common.{◌∙◌, sym}
use Rattle.std.specs.List.{list_all}
use Rattle.stack_judge.specs.Measures.{own_of}
use Rattle.stack_judge.specs.Steady.{is_steady_at}
use Rattle.typed_layer.specs.Places.{typed_tree}
use Rattle.stack_judge.proofs.Judged.{few_headers}
use Rattle.stack_judge.proofs.Settled.{settled_told}
use Rattle.stack_judge.proofs.judge.largest_settled.Goals as goal

pub returns : goal.returns
returns c =
    let few = few_headers c.args.graph.now.stack.now.layers.items c.args.graph.now.stack.now.few_headers in
    c.largest_of_entries.ensures
    ∙ settled_told (typed_tree c.args.graph.now.stack.now) c.requires.orderly few c.args.costs.now c.args._measure
    (sym c.requires.free)
    ((λ i. list_all (is_steady_at (own_of c.args._measure) (sym c.requires.table i) c.args.costs.now)
    (sym c.requires.nodes i)) ∙ c.requires.steady)
