use Rattle.std.proofs.Common.{rules}
use Rattle.file_scope.proofs.Tables.{table_next}
use Rattle.file_scope.proofs.words.table_of.Goals as goal

pub loop-place-preserved : goal.loop-place-preserved
loop-place-preserved c =
    table_next c.loop-place.table c.note_first.new.first c.args.words.now c.loop-place.place c.index-words-place.result
    (search rules)
    (search rules) c.loop-place.invariant c.in_ok-note_first.ensures.noted
