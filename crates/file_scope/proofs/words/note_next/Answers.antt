use Rattle.std.proofs.Common.{rules, refl, subst}
use Rattle.std.proofs.lemmas.Result.{on_ok_weaker}
use Rattle.file_scope.specs.Words.{HasTable}
use Rattle.file_scope.proofs.Tables.{on_err_weaker, table_more, table_same}
use Rattle.file_scope.proofs.words.note_next.Goals as goal

pub returns-in-Some-clause-noted : goal.returns-in-Some-clause-noted
returns-in-Some-clause-noted c =
    on_ok_weaker c.note_first.result
    (table_more c.in-Some.table c.note_first.new.first c.args.words.now.items _ c.args.word.now c.len.result refl
    (search rules)
    (subst (λ first. HasTable first c.args.words.now.items) c.in-Some.is c.requires))
    c.note_first.ensures.noted

pub returns-in-Some-clause-failed : goal.returns-in-Some-clause-failed
returns-in-Some-clause-failed c =
    on_err_weaker c.note_first.result
    (table_same c.in-Some.table c.note_first.new.first c.args.words.now.items
    (subst (λ first. HasTable first c.args.words.now.items) c.in-Some.is c.requires))
    c.note_first.ensures.failed

pub returns-in_ok-note_first-in-None-clause-noted :
    goal.returns-in_ok-note_first-in-None-clause-noted
returns-in_ok-note_first-in-None-clause-noted c =
    table_more c.in_ok-table-in-None.table c.note_first-in-None.new.first c.args.words.now.items _ c.args.word.now
    c.len-in-None-2.result refl
    (search rules) (search rules) c.in_ok-note_first-in-None.ensures.noted
