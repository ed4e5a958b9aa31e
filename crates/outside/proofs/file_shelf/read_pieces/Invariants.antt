use Rattle.std.proofs.Common.{◌≤◌, length}
use Rattle.std.specs.Io.KnownBytes.{Consumes}
use Rattle.outside.proofs.file_shelf.read_pieces.Given as goal

-- what was read stands in the buffer
abbrev pub invariant-loop : goal.invariant-loop
invariant-loop g l = record {
  in_range : length l.into.items ≤ l.most;
  read : Consumes (g.S.Read.remaining l.initial.stream) (g.S.Read.remaining l.stream) l.into.items;
}
