use Rattle.std.proofs.Common.{arith}
use Rattle.symbol_compare.proofs.Growing.{knows_grown}
use Rattle.symbol_compare.proofs.Sent.{none_all, next_all, positive}
use Rattle.symbol_compare.proofs.Valued.{atom_meant, core_meant, form_made, form_meant, below_at, below_parts}
use Rattle.symbol_compare.specs.Walk.{meant_at}
use Rattle.symbol_compare.proofs.values.+values.Goals as goal

pub node_value-node_values-requires : goal.node_value-node_values-requires
node_value-node_values-requires t c = (
  omega (arith, c.decreases, c.len-many.ensures.few),
  (
    omega (arith, c.requires.there),
    (
      below_parts c.args.node c.node-read.result c.parts_of-parts.ensures c.node-read.ensures.before,
      (
        omega (arith, c.len-many.ensures.few, c.len-many.ensures.count),
        (omega (arith, c.len-many.ensures.count), c.requires.knows),
      ),
    ),
  ),
)

pub node_value-put-requires : goal.node_value-put-requires
node_value-put-requires t c =
    (form_made c.args.walk.now c.args.node c.len-many.result c.node-read.result c.parts_of-parts.result
    c.in_ok-made-in-Parts.made c.form_of-form.result
    c.requires.knows c.node-read.ensures.stands c.node-read.ensures.well c.in-Parts.ensures c.parts_of-parts.ensures
    c.len-many.ensures.count c.in_ok-made-in-Parts.ensures c.form_of-form.ensures).well

pub node_value-returns-in_ok-made-in-Number : goal.node_value-returns-in_ok-made-in-Number
node_value-returns-in_ok-made-in-Number t c = atom_meant c.args.walk.now c.args.node c.node-read.result c.in-Number.atom
    c.node-read.ensures.stands c.in-Number.ensures c.in_ok-made-in-Number.ensures

pub node_value-returns-in_ok-made-in-Message : goal.node_value-returns-in_ok-made-in-Message
node_value-returns-in_ok-made-in-Message t c = core_meant c.args.walk.now c.args.node c.node-read.result
    c.in-Message.core c.node-read.ensures.stands c.in-Message.ensures c.in_ok-made-in-Message.ensures

pub node_value-returns-in_ok-number-in-Parts : goal.node_value-returns-in_ok-number-in-Parts
node_value-returns-in_ok-number-in-Parts t c = form_meant c.args.walk.now c.args.node c.form_of-form.result
    c.in_ok-made-in-Parts.ensures
    (form_made c.args.walk.now c.args.node c.len-many.result c.node-read.result c.parts_of-parts.result
    c.in_ok-made-in-Parts.made c.form_of-form.result
    c.requires.knows c.node-read.ensures.stands c.node-read.ensures.well c.in-Parts.ensures c.parts_of-parts.ensures
    c.len-many.ensures.count c.in_ok-made-in-Parts.ensures c.form_of-form.ensures)
    c.in_ok-number-in-Parts.ensures

pub node_values-node_values-requires : goal.node_values-node_values-requires
node_values-node_values-requires t c = (
  omega (arith, c.decreases, positive c.args.many c.if-many-eq0.false),
  (c.requires.there, (c.requires.below, (c.requires.few, (omega (arith, c.requires.many), c.requires.knows)))),
)

pub node_values-node_value-requires : goal.node_values-node_value-requires
node_values-node_value-requires t c =
    let pos = positive c.args.many c.if-many-eq0.false in
    let lt = below_at c.args.above c.args.parts.now _ c.at.result c.requires.below (omega (arith, pos, c.requires.many))
    c.at.ensures in (
      omega (arith, c.decreases, lt, pos),
      (omega (arith, lt, c.requires.there), knows_grown c.in_ok-made.ensures.grows c.requires.knows),
    )

pub node_values-push-requires : goal.node_values-push-requires
node_values-push-requires t c =
    omega (arith, c.in_ok-made.ensures.long, positive c.args.many c.if-many-eq0.false, c.requires.many, c.requires.few)

pub node_values-returns-then-many-eq0 : goal.node_values-returns-then-many-eq0
node_values-returns-then-many-eq0 t c = none_all c.args.table.now (meant_at c.args.walk.now) c.args.parts.now
    c.args.many c.if-many-eq0.true _ c.new.ensures

pub node_values-returns : goal.node_values-returns
node_values-returns t c = next_all (meant_at c.args.walk.now) c.args.parts.now c.in_ok-made.made c.push.new.self
    c.args.many c.in_ok-next.next c.at.result
    (positive c.args.many c.if-many-eq0.false) c.requires.many c.at.ensures c.in_ok-made.ensures c.in_ok-next.ensures
    c.push.ensures
