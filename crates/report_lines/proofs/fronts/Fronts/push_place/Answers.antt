use Rattle.std.proofs.Common.{◌≡◌, ◌++◌, ◌∷◌, ◌-◌, ◌∙◌, [], ap, arith, length}
use Rattle.stack_judge.specs.Answer.{stack_tree}
use Rattle.report_lines.proofs.LaidOut.{place_more}
use Rattle.report_lines.proofs.fronts.Fronts.push_place.Goals as goal

pub returns : goal.returns
returns c = λ are.
    let all : c.loop-number.number ≡ c.tags_of-number-end.result =
    omega (arith, c.loop-number-test.false, c.loop-number.auto.number-end) in
    let counted : c.saturating_sub.result ≡ length c.loop-number.self.begins.items - 1 =
    omega (arith, c.saturating_sub.ensures, c.len.ensures, c.loop-number.self.begins.ok) in
    let pushed : c.push-2.new.self.items ≡ c.args.self.now.firsts.items ++ c.saturating_sub.result ∷ [] =
    c.in_ok-push-2.ensures.items ∙ ap (λ xs. xs ++ c.saturating_sub.result ∷ []) c.loop-number.invariant.firsts in
    place_more (stack_tree c.args.stack.now) c.args.place c.loop-number.number c.args.self.now.texts
    c.args.self.now.begins.items
    c.args.self.now.firsts.items _ _ _ c.saturating_sub.result (all ∙ c.tags_of-number-end.ensures)
    c.loop-number.invariant.fronts counted
    pushed are
