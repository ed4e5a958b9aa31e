use Rattle.std.proofs.Common.{◌∙◌, sym}
use Rattle.std.specs.List.{list_all}
use Rattle.weight_laws.specs.Rounds.{one_task}
use Rattle.stack_judge.specs.Steady.{is_steady_at, falls_at}
use Rattle.typed_layer.specs.Places.{typed_tree}
use Rattle.stack_judge.proofs.Judged.{few_headers}
use Rattle.stack_judge.proofs.Settled.{free_told}
use Rattle.stack_judge.proofs.judge.is_free.Goals as goal

pub returns : goal.returns
returns c yes_it_is =
    let few = few_headers c.args.graph.now.stack.now.layers.items c.args.graph.now.stack.now.few_headers in
    free_told (typed_tree c.args.graph.now.stack.now) c.requires.orderly few c.args.weights.now
    ((λ i. list_all (is_steady_at one_task (sym c.requires.table i) c.args.weights.now) (sym c.requires.nodes i)) ∙
    c.requires.steady)
    ((λ i. list_all (falls_at (sym c.requires.table i) c.args.weights.now) (sym c.requires.nodes i)) ∙
    c.all_fall.ensures yes_it_is)
