use Rattle.std.proofs.Common.{◌≡◌, ◌∙◌, ap, sym, subst, IfOk, Option, option_map, length}
use Rattle.std.specs.List.{find}
use Rattle.std.proofs.lemmas.List.{length-map}
use Rattle.stack_mean.specs.Graph as graph
use Rattle.stack_judge.specs.Edges.{node_tree}
use Rattle.typed_layer.specs.Places.{typed_tree}
use Rattle.stack_judge.specs.Searches.{meets_itself}
use Rattle.stack_judge.proofs.Judged.{cycles_tell, few_headers}
use Rattle.stack_judge.proofs.judge.first_on_cycle.Goals as goal

pub returns : goal.returns
returns c =
    let stack = typed_tree c.args.graph.now.stack.now in
    let count = sym (length-map c.args.graph.now.nodes.now node_tree) ∙ ap length c.requires.nodes in
    let few = few_headers c.args.graph.now.stack.now.layers.items c.args.graph.now.stack.now.few_headers in
    subst (λ (o : Option graph.Node). IfOk c.first_met.result (λ found. option_map node_tree found ≡ o))
    ((λ i. find (meets_itself (c.requires.table i) (count i)) (c.requires.nodes i)) ∙
    cycles_tell stack c.requires.orderly few)
    c.first_met.ensures
