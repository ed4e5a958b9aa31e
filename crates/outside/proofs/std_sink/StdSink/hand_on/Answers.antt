use Rattle.outside.proofs.Gathered.{gathered_moved, take_rest}
use Rattle.outside.proofs.std_sink.StdSink.hand_on.Goals as goal

pub returns-in-Err-clause-kept : goal.returns-in-Err-clause-kept
returns-in-Err-clause-kept g c =
    gathered_moved (g.W.Write.contents c.args.self.now.stream) (g.W.Write.contents c.write_through.new.stream)
    c.args.self.now.done c.in-Err.count c.args.self.now.held.items
    (rw (c.deref.ensures.value, take_rest) at c.in-Err.ensures.0)
