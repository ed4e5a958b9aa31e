use Rattle.std.proofs.Common.{◌≡◌, map, take}
use Rattle.family_search.specs.Trying.{event_in}
use Rattle.family_group.proofs.copying.events_of.Given as goal

abbrev pub invariant-loop-choice : goal.invariant-loop-choice
invariant-loop-choice l = l.events.items ≡ map (event_in l.acts) (take l.choice-index l.past)
