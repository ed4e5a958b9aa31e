use Rattle.std.proofs.Common.{refl}
use lib.Count.{ones_in, count_trailing_zeros}
use Rattle.layer_rows.proofs.visits.numbers_end.Goals as goal

pub returns : goal.returns
unfolding ones_in count_trailing_zeros
returns c = (refl, refl, refl, refl, refl, refl, refl, refl, refl, refl, refl, refl)
