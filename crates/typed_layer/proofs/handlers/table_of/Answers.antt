use Rattle.std.proofs.Common.{rules, arith, ◌≡◌, ◌∙◌, ap, ℕ, drop}
use Rattle.typed_layer.specs.Table.{table_from}
use Rattle.typed_layer.proofs.Table.{table_starts, table_step}
use Rattle.typed_layer.proofs.handlers.table_of.Goals as goal

pub loop-left-init : goal.loop-left-init
loop-left-init c = (search rules, table_starts c.args.handlers.now _ (search rules))

pub loop-left-preserved : goal.loop-left-preserved
loop-left-preserved c =
    table_step c.args.handlers.now c.loop-left.left c.index-handlers-left.result _ _ c.loop-left-test.true
    c.loop-left.invariant.0
    c.index-handlers-left.is c.loop-left.invariant.1 c.enter.ensures

pub returns : goal.returns
returns c = let none : c.loop-left.left ≡ 0 = omega (arith, c.loop-left-test.false) in
    c.loop-left.invariant.1 ∙ ap (λ (n : ℕ). table_from n (drop n c.args.handlers.now)) none
