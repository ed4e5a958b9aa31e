use Rattle.std.proofs.Common.{◌≡◌, ◌+◌, ◌<◌, ◌++◌, drop}
use Rattle.report_lines.specs.Nones.{nones}
use Rattle.report_lines.proofs.chain.count_nones.Given as goal

abbrev pub invariant-loop-count : goal.invariant-loop-count
invariant-loop-count l = record {
  nones : drop l.k l.headers ≡ nones l.first l.count ++ drop (l.k + l.count) l.headers;
  some : 0 < l.count;
}
