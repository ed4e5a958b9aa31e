use Rattle.std.proofs.Common.{◌∙◌, ap, sym, length}
use Rattle.std.proofs.lemmas.List.{length-map}
use Rattle.weight_laws.specs.Rounds.{largest_entry, rounds}
use Rattle.stack_judge.specs.Edges.{node_tree}
use Rattle.typed_layer.specs.Places.{typed_tree}
use Rattle.stack_judge.specs.Measures.{own_of}
use Rattle.stack_judge.proofs.Judged.{costs_tell, few_headers}
use Rattle.stack_judge.proofs.judge.largest_in_rounds.Goals as goal

pub returns : goal.returns
returns c =
    let stack = typed_tree c.args.graph.now.stack.now in
    let count = sym (length-map c.args.graph.now.nodes.now node_tree) ∙ ap length c.requires.nodes in
    let few = few_headers c.args.graph.now.stack.now.layers.items c.args.graph.now.stack.now.few_headers in
    c.largest_of_entries.ensures
    ∙ ap (largest_entry stack) (c.deref.ensures.value ∙ c.in_ok-costs.ensures
    ∙ (λ i. rounds (own_of c.args.measure) (c.requires.table i) (count i)))
    ∙ costs_tell stack c.args.measure c.requires.orderly few
