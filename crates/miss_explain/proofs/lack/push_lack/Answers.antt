use Rattle.std.proofs.Common.{◌≡◌, List, ◌++◌, ℕ, subst}
use Rattle.std.specs.Prelude.{OnOk}
use Rattle.stack_judge.specs.Answer.{stack_tree}
use Rattle.layer_ast.specs.View.{file_tree}
use Rattle.stack_shapes.specs.Trees.{plans_tree}
use Rattle.miss_explain.proofs.Spots.{told_text}
use Rattle.miss_explain.proofs.lack.push_lack.Goals as goal

pub returns-in-Check : goal.returns-in-Check
returns-in-Check c =
    let texts = c.args.texts in
    subst (λ (words : List ℕ). OnOk c.push_found.result (c.push_found.new.line ≡ c.args.line.now ++ words))
    (told_text c.args.case (file_tree texts.file.now) (stack_tree texts.stack.now) (plans_tree texts.plans.now)
    texts.entries.now c.args.entry c.args.lack
    c.in-Check.number c.kept_spot.result c.requires.entries c.in-Check.is c.requires.told c.kept_spot.ensures)
    c.push_found.ensures
