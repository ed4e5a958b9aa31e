use Rattle.std.proofs.Common.{◌≡◌, List, ℕ, subst}
use Rattle.std.specs.Prelude.{OnOk}
use Rattle.stack_judge.specs.Answer.{stack_tree}
use Rattle.layer_ast.specs.View.{file_tree}
use Rattle.stack_shapes.specs.Trees.{plans_tree}
use Rattle.step_misses.specs.Misses.{miss_meant}
use Rattle.miss_explain.proofs.Words.{line_is}
use Rattle.miss_explain.proofs.miss.build_miss.Goals as goal

pub returns : goal.returns
returns c =
    let texts = c.args.texts in
    subst (λ (words : List ℕ). OnOk c.text.result (c.text.new.self ≡ words))
    (line_is (file_tree texts.file.now) (stack_tree texts.stack.now) (plans_tree texts.plans.now) c.args.step.event
    c.args.step.member (miss_meant c.args.miss.now)
    c.args.line.now c.push_front.new.line c.push_lack.new.line c.push_second.new.line
    c.in_ok-push_front.ensures c.in_ok-push_lack.ensures c.in_ok-push_second.ensures)
    c.text.ensures
