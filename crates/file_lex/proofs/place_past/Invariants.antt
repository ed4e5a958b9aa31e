use Rattle.std.proofs.Common.{◌≡◌, ◌+◌, ◌≤◌, take}
use Rattle.file_lex.specs.Pieces.{past}
use Rattle.file_lex.proofs.place_past.Given as goal

abbrev pub invariant-loop-byte : goal.invariant-loop-byte
invariant-loop-byte l =
    (l.at ≡ past (take l.byte-index l.bytes) l.initial.at) × (l.at.line ≤ l.initial.at.line + l.byte-index)
    × (l.at.col ≤ l.initial.at.col + l.byte-index)
