use Rattle.std.proofs.Common.{arith, rules, ◌+◌, ◌-◌, ◌∙◌}
use Rattle.std.proofs.lemmas.Grind.{common_steps}
use Rattle.packet_short.proofs.Reading.{fields_go_on}
use Rattle.packet_short.proofs.planned.Planned.fields.Goals as goal

pub loop-preserved : goal.loop-preserved
loop-preserved c = record {
  reads = rw c.push.ensures
      (fields_go_on _ _ (c.args.count - c.loop.counter) (c.args.count - (c.loop.counter + 1)) _ _ _ _ _ (omega arith)
      (search rules) c.in-Some-field.ensures ∙ c.loop.invariant.reads);
  count = grind (arith, common_steps);
  tags = c.loop.invariant.tags;
}
