use Rattle.std.proofs.Common.{◌≡◌, ◌+◌, ◌∷◌, arith, drop, subst, ℕ}
use Rattle.report_lines.specs.Nones.{none_of}
use Rattle.report_lines.proofs.Nones.{nones_next}
use Rattle.report_lines.proofs.chain.count_nones.Goals as goal

pub loop-count-preserved : goal.loop-count-preserved
loop-count-preserved c = record {
  nones = nones_next c.args.headers.now c.args.k c.args.first c.loop-count.count c.loop-count.invariant.nones
      (subst (λ (n : ℕ). drop (c.args.k + n) c.args.headers.now
      ≡ none_of (c.args.first + c.loop-count.count) ∷ drop (c.args.k + n + 1) c.args.headers.now) c.from.ensures
      (c.is_none_of.ensures c.if-not-is_none_of.false));
  some = omega arith;
}
