use Rattle.std.proofs.Common.{rules}
use Rattle.pool_message.proofs.Moves.{two_joined, two_left}
use Rattle.pool_message.proofs.join.join_ranges.Goals as goal

pub returns-in-Some : goal.returns-in-Some
returns-in-Some c =
    two_joined c.args.pool.now c.args.front c.args.back c.requires.front c.requires.back c.requires.fits c.join.new.self
    c.give_back.new.pool
    c.give_back-in-Some.new.pool c.in-Some.slot _ (search rules) (search rules) (search rules) (search rules)
    (search rules) (search rules) (search rules)

pub returns-in-None : goal.returns-in-None
returns-in-None c =
    two_left c.args.pool.now c.args.front c.args.back c.requires.front c.requires.back c.requires.fits c.join.new.self
    c.give_back-in-None.new.pool
    c.give_back-in-None-2.new.pool (search rules) (search rules) (search rules) (search rules) (search rules)
    (search rules)
