use Rattle.std.proofs.Common.{arith, ◌+◌, ◌-◌, ◌∙◌}
use Rattle.std.proofs.lemmas.Grind.{common_steps}
use Rattle.packet_full.proofs.Numbers.{numbers_go_on}
use Rattle.packet_full.proofs.cursor.Cursor.numbers.Goals as goal

pub loop-place-preserved : goal.loop-place-preserved
loop-place-preserved c = record {
  reads = rw c.push.ensures
      (numbers_go_on _ _ (c.args.count - c.loop-place.place) (c.args.count - (c.loop-place.place + 1)) _ _
      (omega (arith, c.loop-place.invariant.within, c.if-place-count.false)) c.in_ok-number.ensures ∙
      c.loop-place.invariant.reads);
  count = grind (arith, common_steps);
  within = omega (arith, c.loop-place.invariant.within, c.if-place-count.false);
}
