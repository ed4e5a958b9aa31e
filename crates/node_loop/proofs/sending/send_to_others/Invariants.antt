use Rattle.std.specs.Prelude.{◌≡◌, ℕ}
use Rattle.node_loop.specs.Around.{around}
use Rattle.node_loop.proofs.Datagrams.{PassesFront}
use Rattle.node_loop.proofs.sending.send_to_others.Given as goal

abbrev pub invariant-loop-to : goal.invariant-loop-to
invariant-loop-to g l = record {
  front : PassesFront l.sending.number l.sending.from l.sending.bytes.now l.view l.to
      (around g.O.Sink g.N.Links l.initial.out l.initial.links)
      (around g.O.Sink g.N.Links l.out l.links);
  listening : (m : ℕ) → g.N.Links.listening l.links m ≡ g.N.Links.listening l.initial.links m;
}
