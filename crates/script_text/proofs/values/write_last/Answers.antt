use Rattle.std.proofs.Common.{arith}
use Rattle.script_text.proofs.Hex.{goes_on}
use Rattle.script_text.proofs.values.write_last.Goals as goal

pub loop-i-preserved : goal.loop-i-preserved
loop-i-preserved c =
    goes_on c.args.digits.now c.loop-i.bytes c.loop-i.i c.loop-i.most c.digit-high.result c.digit-low.result
    c.max.result c.max-most.result _ (omega arith) (omega arith)
    c.digit-high.ensures c.digit-low.ensures c.max.ensures c.max-most.ensures c.loop-i.invariant
