use Rattle.outside.specs.Tells.{tells_of}
use Rattle.outside.proofs.Gaining.{one_put}
use Rattle.outside.proofs.puts.put_line.Goals as goal

pub returns-clause-wrote : goal.returns-clause-wrote
returns-clause-wrote g c = one_put
    (tells_of g.O.Sink c.args.out.now)
    (tells_of g.O.Sink c.put.new.self)
    c.args.line.now c.put.result c.put.ensures.put c.put.ensures.kept c.put.ensures.counted
