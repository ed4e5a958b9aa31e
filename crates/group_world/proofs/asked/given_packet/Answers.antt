use Rattle.group_world.proofs.Stepped.{absent_is, given_is}
use Rattle.group_world.proofs.asked.given_packet.Goals as goal

pub returns-in-Some-clause-asks : goal.returns-in-Some-clause-asks
returns-in-Some-clause-asks c = λ stack plans w same.
    given_is stack plans w c.args.id c.args.number c.args.packets.now c.in-Some.datagram.now same c.in-Some.ensures

pub returns-in-None-clause-asks : goal.returns-in-None-clause-asks
returns-in-None-clause-asks c = λ stack plans w same. absent_is stack plans w c.args.id c.args.number c.args.packets.now
    same c.in-None.ensures
