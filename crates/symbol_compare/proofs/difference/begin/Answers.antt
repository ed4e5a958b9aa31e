use Rattle.std.proofs.Common.{refl, rules}
use Rattle.symbol_compare.proofs.Learning.{begun}
use Rattle.symbol_compare.proofs.difference.begin.Goals as goal

pub returns-clause-walked : goal.returns-clause-walked
returns-clause-walked c = λ fs. begun fs _ refl (search rules) (search rules) refl (search rules)
