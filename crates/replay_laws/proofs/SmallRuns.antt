-- Small runs, by evaluation.
use Rattle.std.specs.Prelude.{codes}
use Rattle.std.proofs.Common.{◌<◌, refl, arith}
use Rattle.layer_words.specs.Spelling.{kinds}
use Rattle.layer_mean.specs.Queue.{run}
use Rattle.layer_mean.specs.Visit.{step}
use Rattle.stack_mean.specs.Shape.{drawn_shape, has_second_case}
use Rattle.packet_mean.specs.Received.{received}
use Rattle.file_mean.specs.CounterFile as counter
use Rattle.file_laws.proofs.SmallFiles.{counter_is_typed}
use Rattle.run_mean.specs.World.{happens}
use Rattle.member_laws.proofs.Members.{all_of, first_world_is_chained}
use Rattle.member_laws.proofs.Numbered.{worlds_are_chained}
use Rattle.replay_laws.specs.Samples.{GivenTwice, two_members, one_cast, CounterWorld}

pub given_twice : GivenTwice
unfolding step run drawn_shape has_second_case received happens kinds
given_twice = (refl, refl, refl, refl, refl)

pub counter_world : CounterWorld
unfolding step run drawn_shape has_second_case happens
counter_world =
    let first = first_world_is_chained counter.stack 1 1 2 counter_is_typed.2 (omega arith) (omega arith) (omega arith)
    in (
      first,
      worlds_are_chained counter.stack two_members one_cast counter_is_typed.2
          (all_of (λ b. b < 256) (codes "hi") (omega arith, (omega arith, tt)), tt) first,
      refl,
    )
