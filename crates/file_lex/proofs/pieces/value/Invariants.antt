use Rattle.std.proofs.Common.{◌≡◌, ◌≤◌, take}
use Rattle.layer_ast.specs.Cut.{number_of}
use Rattle.file_lex.proofs.pieces.value.Given as goal

abbrev pub invariant-loop-digit : goal.invariant-loop-digit
invariant-loop-digit l = (l.value ≡ number_of (take l.digit-index l.digits)) × (l.value ≤ 4294967295)
