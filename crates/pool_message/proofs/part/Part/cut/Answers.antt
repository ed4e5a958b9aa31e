use Rattle.std.proofs.Common.{refl, arith}
use Rattle.pool_message.proofs.Ranges.{range_cut}
use Rattle.pool_message.proofs.part.Part.cut.Goals as goal

pub returns : goal.returns
returns c = record {
  slot = refl;
  within = omega arith;
  bytes = λ bs. range_cut c.args.self.from c.args.self.len c.args.from c.args.count _ _ bs c.min-skipped.ensures
      c.min.ensures;
}
