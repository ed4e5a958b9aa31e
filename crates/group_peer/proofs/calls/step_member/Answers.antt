use Rattle.group_peer.proofs.Stepped.{still_fit}
use Rattle.group_peer.proofs.calls.step_member.Goals as goal

pub returns-clause-fit : goal.returns-clause-fit
returns-clause-fit c = still_fit _ _ _ _ _ _ _ _ c.requires c.law_given.ensures c.step.ensures.step
    c.step.ensures.places
