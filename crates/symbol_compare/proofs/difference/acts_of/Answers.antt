use Rattle.std.proofs.Common.{List, rules, subst, sym}
use Rattle.symbol_compare.specs.Steps.{Walked}
use Rattle.symbol_compare.specs.declared.form.ActForm.{ActForm}
use Rattle.symbol_compare.proofs.difference.acts_of.Goals as goal

pub go-requires-clause-walked : goal.go-requires-clause-walked
go-requires-clause-walked c = subst (λ (l : List ActForm). Walked c.args.table.now c.begin-walk.result l)
    (sym (search rules)) (c.begin-walk.ensures.walked c.args.table.now)
