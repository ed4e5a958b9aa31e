use Rattle.std.proofs.Common.{refl, rules}
use Rattle.layer_words.specs.Spelling.{kinds}
use Rattle.layer_mean.specs.Visit.{step}
use Rattle.layer_mean.specs.Queue.{run, starting, unstarted_work}
use Rattle.stack_mean.specs.Samples.{ordering_stack}
use Rattle.weight_laws.specs.Samples.{fresh_states, cast_at}
use Rattle.weight_laws.proofs.Turns.{known_to_the_end}
use Rattle.weight_laws.proofs.samples.ordered_run.Goals as goal

pub returns : goal.returns
unfolding kinds step run
returns c = (
  record {
    orderly = search rules;
    accepts = refl;
    enters = refl;
    known = known_to_the_end ordering_stack 7 (starting (unstarted_work (fresh_states (ordering_stack))) (cast_at 3))
        (search rules);
  },
  refl,
  refl,
  refl,
)
