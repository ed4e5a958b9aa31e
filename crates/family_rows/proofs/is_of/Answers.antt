-- By computation.
use Rattle.std.proofs.Common.{refl, arith}
use lib.Count.{ones, ones_in}
use Rattle.layer_mean.specs.Visit.{step}
use Rattle.layer_mean.specs.Queue.{run}
use Rattle.stack_mean.specs.Shape.{drawn_shape, has_second_case}
use Rattle.packet_mean.specs.Received.{received}
use Rattle.run_mean.specs.World.{happens}
use Rattle.family_rows.proofs.is_of.Goals as goal

pub returns : goal.returns
unfolding happens received drawn_shape has_second_case run step ones ones_in
returns c = record {
  few = omega arith;
  follow = (
    record { member = omega arith; due = refl; taken = tt },
    (
      record { member = omega arith; due = refl; taken = tt },
      (
        record { member = omega arith; due = omega arith; taken = tt },
        (record { member = omega arith; due = omega arith; taken = tt }, tt),
      ),
    ),
  );
}
