use Rattle.std.proofs.Common.{sym}
use Rattle.pool_message.proofs.Slots.{number_of, number_of_none}
use Rattle.pool_message.proofs.list.first_of.Goals as goal

pub returns-in-Some : goal.returns-in-Some
returns-in-Some c = number_of c.args.order.now.items c.in-Some.k.now (sym c.in-Some.ensures)

pub returns-in-None : goal.returns-in-None
returns-in-None c = number_of_none c.args.order.now.items (sym c.in-None.ensures)
