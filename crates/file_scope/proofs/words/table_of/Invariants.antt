use Rattle.std.proofs.Common.{take}
use Rattle.file_scope.specs.Words.{IsTable}
use Rattle.file_scope.proofs.words.table_of.Given as goal

abbrev pub invariant-loop-place : goal.invariant-loop-place
invariant-loop-place l = IsTable l.table (take l.place l.words)
