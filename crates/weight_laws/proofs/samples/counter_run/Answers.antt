use Rattle.std.proofs.Common.{◌∷◌, [], refl, rules}
use Rattle.layer_words.specs.Spelling.{kinds}
use Rattle.layer_mean.specs.Visit.{step}
use Rattle.layer_mean.specs.Queue.{run, starting, unstarted_work}
use Rattle.stack_mean.specs.SampleLayers.{counter}
use Rattle.weight_laws.specs.Samples.{fresh_states, cast_at}
use Rattle.weight_laws.proofs.Turns.{known_to_the_end}
use Rattle.weight_laws.proofs.samples.counter_run.Goals as goal

pub returns : goal.returns
unfolding kinds step run
returns c = (
  record {
    orderly = search rules;
    accepts = refl;
    enters = refl;
    known = known_to_the_end (counter ∷ []) 3 (starting (unstarted_work (fresh_states (counter ∷ []))) (cast_at 1))
        (search rules);
  },
  refl,
  refl,
)
