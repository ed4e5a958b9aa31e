use Rattle.typed_layer.specs.Places.{typed_tree}
use Rattle.stack_judge.proofs.Judged.{entries_largest}
use Rattle.stack_judge.proofs.judge.largest_of_entries.Goals as goal

pub returns : goal.returns
returns c =
    entries_largest (typed_tree c.args.stack.now) c.args.costs.now c.places-top.result c.largest_of_kind.result
    c.largest_of_kind-2.result c.largest_of_kind-3.result c.largest_of_kind-4.result c.largest_of_kind-5.result
    c.largest_of_kind-6.result c.max.result c.max-2.result c.max-3.result c.max-4.result c.max-5.result
    c.places-top.ensures.is
    c.largest_of_kind.ensures c.largest_of_kind-2.ensures c.largest_of_kind-3.ensures c.largest_of_kind-4.ensures
    c.largest_of_kind-5.ensures c.largest_of_kind-6.ensures c.max.ensures c.max-2.ensures c.max-3.ensures
    c.max-4.ensures
    c.max-5.ensures
