use Rattle.std.proofs.Common.{◌≤◌, length, take}
use Rattle.std.specs.Io.KnownBytes.{Appends}
use Rattle.outside.proofs.std_sink.write_through.Given as goal

-- what was written stands in the stream
abbrev pub invariant-loop : goal.invariant-loop
invariant-loop g l = record {
  in_range : l.written ≤ length l.bytes;
  written : Appends (g.W.Write.contents l.initial.stream) (g.W.Write.contents l.stream) (take l.written l.bytes);
}
