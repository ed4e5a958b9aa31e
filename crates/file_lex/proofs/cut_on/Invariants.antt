use Rattle.std.proofs.Common.{◌+◌, length}
use Rattle.file_lex.specs.Pieces.{with_front, left_of}
use Rattle.file_lex.proofs.Cutting.{Cutting}
use Rattle.file_lex.proofs.Parting.{InPart}
use Rattle.file_lex.proofs.cut_on.Given as goal

abbrev pub invariant-loop-first : goal.invariant-loop-first
invariant-loop-first l =
    Cutting (with_front l.initial.tokens.items (left_of l.initial.left)) 4294967295
    (length l.initial.left.text.now + length l.initial.tokens.items) l.rest l.after_number l.at l.tokens.items
    × InPart l.initial.to_end l.initial.tokens.items l.tokens.items

abbrev pub decreases-loop-first : goal.decreases-loop-first
decreases-loop-first l = length l.rest
