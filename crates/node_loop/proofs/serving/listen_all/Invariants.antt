use Rattle.node_loop.proofs.Listens.{ListensSo}
use Rattle.node_loop.proofs.serving.listen_all.Given as goal

abbrev pub invariant-loop-id : goal.invariant-loop-id
invariant-loop-id g l = ListensSo (g.N.Links.listening l.links) l.peers (g.N.Links.faults l.initial.links)
    (g.N.Links.faults l.links)
    (g.N.Links.send_faults l.initial.links) (g.N.Links.send_faults l.links) (g.N.Links.told l.initial.links)
    (g.N.Links.told l.links) l.id-index l.me
