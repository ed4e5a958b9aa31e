use Rattle.group_world.proofs.Gives.{give_asks}
use Rattle.group_world.proofs.asked.input_of.Goals as goal

pub returns-in-Give-clause-asks : goal.returns-in-Give-clause-asks
returns-in-Give-clause-asks c = λ stack plans w same.
    give_asks stack plans w _ _ _ _ c.in-Give.is (c.given_packet.ensures.asks stack plans w same)
