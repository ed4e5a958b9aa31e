use Rattle.family_group.specs.Playing.{Playing}
use Rattle.family_group.proofs.playing.play_all.Given as goal

abbrev pub invariant-loop-choice : goal.invariant-loop-choice
invariant-loop-choice g l = Playing (g.G.Feed.group l.fn.group) l.acts l.past l.choice-index (g.G.Feed.group l.group)
    l.fn.outputs.places l.outputs.places
