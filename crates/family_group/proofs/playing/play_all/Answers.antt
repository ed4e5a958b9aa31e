use Rattle.std.proofs.Common.{◌≡◌, ◌<◌, ◌≤◌, ◌∙◌, length, arith}
use Rattle.family_group.proofs.Steps.{one_more, all_played}
use Rattle.family_group.proofs.playing.play_all.Goals as goal

pub loop-choice-preserved : goal.loop-choice-preserved
loop-choice-preserved g c =
    let lt : c.loop-choice.choice-index < length c.args.past.now = omega (arith, c.loop-choice-test.true) in record {
      played =
          one_more _ _ _ _ _ _ _ _ c.loop-choice.invariant.played lt c.in_ok-play_one.ensures.stays
          c.in_ok-play_one.ensures.fed;
      places_are = c.in_ok-play_one.ensures.places ∙ c.loop-choice.invariant.places_are;
    }

pub returns-clause-played : goal.returns-clause-played
returns-clause-played g c =
    let all : length c.args.past.now ≤ c.loop-choice.choice-index = omega (arith, c.loop-choice-test.false) in
    all_played _ _ _ _ _ all c.loop-choice.invariant.played
