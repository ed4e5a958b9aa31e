use Rattle.std.proofs.Common.{arith, sym, ap}
use Rattle.layer_ast.specs.declared.syntax.Item.{Item}
use Rattle.file_scope.specs.Scope.{scope_of}
use Rattle.file_types.proofs.Arguments.{item_more}
use Rattle.file_types.proofs.rows.each_item.Goals as goal

pub loop-k-preserved : goal.loop-k-preserved
loop-k-preserved c =
    item_more (scope_of c.args.scope.now) c.args.items.now c.args.all.now c.loop-k.k c.index-items-k.result _
    c.index-all-k.result
    c.args.found.now c.loop-k.found c.argument.new.found
    (let most = c.lesser-k-end.ensures in let test = c.loop-k-test.true in omega (arith, most, test))
    (let most = c.lesser-k-end.ensures in let test = c.loop-k-test.true in omega (arith, most, test))
    c.index-items-k.is c.index-all-k.is (ap (λ (i : Item). i.sort) (sym c.index-items-k.is)) c.loop-k.invariant
    c.argument.ensures
