use Rattle.std.specs.Prelude.{◌≡◌, ℕ, ◌+◌, ◌≤◌, take}
use Rattle.report_text.specs.Numbered.{number_after}
use Rattle.node_loop.specs.Around.{around}
use Rattle.node_loop.specs.Passing.{PassesAll}
use Rattle.node_loop.specs.Source.{acts_of_outputs}
use Rattle.node_loop.proofs.outputs.pass_outputs.Given as goal

abbrev pub invariant-loop-k : goal.invariant-loop-k
invariant-loop-k g l = record {
  passed : PassesAll (acts_of_outputs l.source (take l.k l.outputs.outputs))
      (around g.O.Sink g.N.Links l.initial.out l.initial.links)
      (around g.O.Sink g.N.Links l.out l.links);
  numbered : l.number ≡ number_after l.source.number (take l.k l.outputs.outputs);
  few : l.number ≤ l.source.number + l.k;
  listening : (m : ℕ) → g.N.Links.listening l.links m ≡ g.N.Links.listening l.initial.links m;
}
