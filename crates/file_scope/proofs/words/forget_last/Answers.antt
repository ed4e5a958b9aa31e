use Rattle.std.proofs.Common.{rules, refl, subst, ◌++◌, ◌∷◌, []}
use Rattle.file_scope.specs.Words.{HasTable}
use Rattle.file_scope.proofs.Tables.{table_less}
use Rattle.file_scope.proofs.words.forget_last.Goals as goal

pub returns-in-Some : goal.returns-in-Some
returns-in-Some c =
    table_less c.in-Some.table c.forget_at.new.first _ c.args.words.now.items c.args.word.now c.len.result refl
    (search rules)
    (subst (λ first. HasTable first (c.args.words.now.items ++ c.args.word.now ∷ [])) c.in-Some.is c.requires)
    c.forget_at.ensures
