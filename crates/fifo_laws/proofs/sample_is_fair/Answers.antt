use Rattle.std.proofs.Common.{◌<◌, [], ◌∷◌, arith}
use Rattle.member_laws.proofs.Members.{all_of}
use Rattle.fifo_laws.proofs.sample_is_fair.Goals as goal

pub returns : goal.returns
returns c = (
  record {
    group = omega arith;
    stamp = omega arith;
    members = omega arith;
    given = (
      all_of (λ b. b < 256) (97 ∷ []) (omega arith, tt),
      (all_of (λ b. b < 256) (98 ∷ []) (omega arith, tt), (tt, (tt, (tt, (tt, tt))))),
    );
    of_members = (omega arith, (omega arith, (omega arith, (omega arith, (omega arith, (omega arith, tt))))));
    few = omega arith;
  },
  ((tt, (tt, (tt, (tt, (tt, (tt, tt)))))), omega arith),
)
