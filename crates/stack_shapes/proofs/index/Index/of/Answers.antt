use Rattle.std.proofs.Common.{◌∙◌, None, arith}
use Rattle.std.proofs.lemmas.List.{get_or_read, length-map}
use Rattle.stack_shapes.specs.Lists.{plan_tree}
use Rattle.stack_shapes.proofs.Indexing.{indexed_on, printed_at}
use Rattle.stack_shapes.proofs.index.Index.of.Goals as goal

pub loop-number-preserved : goal.loop-number-preserved
loop-number-preserved c =
    let size = length-map c.args.plans.now plan_tree in
    let print = c.from-print.ensures ∙ c.print_of.ensures ∙ printed_at c.args.plans.now _ c.index-plans-number.result
    (omega arith) c.index-plans-number.is in
    indexed_on _ _ _ _ _ _ _ (omega arith) (omega (arith, size)) print
    (omega (arith, c.from-print.ensures, c.print_of.type_inv))
    (get_or_read c.loop-number.first.items _ _
    (omega (arith, c.loop-number.invariant.prints, c.from-print.ensures, c.print_of.type_inv)) c.index.ensures None)
    c.loop-number.invariant
