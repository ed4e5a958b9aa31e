use Rattle.std.proofs.Common.{arith}
use Rattle.step_outputs.proofs.Numbers.{all_numbered, number_more}
use Rattle.step_outputs.proofs.list.number_all.Goals as goal

pub loop-kept-preserved : goal.loop-kept-preserved
loop-kept-preserved c =
    number_more c.args.count c.loop-kept.kept-index c.loop-kept.next _ c.loop-kept.list c.kept-item.result
    c.take_number-next.new.kept _
    (omega (arith, c.loop-kept.auto.list, c.loop-kept-test.true)) c.loop-kept.invariant c.take_number-next.ensures.kept
    c.take_number-next.ensures.following

pub returns : goal.returns
returns c = all_numbered c.args.count c.loop-kept.next c.loop-kept.kept-index _ c.loop-kept.list
    (omega (arith, c.loop-kept.auto.list, c.loop-kept-test.false)) c.loop-kept.invariant
