use Rattle.std.proofs.Common.{◌+◌, ◌-◌, ◌∙◌, ap, arith, length}
use Rattle.stack_judge.specs.Answer.{stack_tree}
use Rattle.report_lines.specs.Fronts.{declared_headers}
use Rattle.report_lines.proofs.LaidOut.{first_at, firsts_count, firsts_ordered, number_is, seen}
use Rattle.report_lines.proofs.named.NamedStack.number_of.Goals as goal

pub index-first-requires : goal.index-first-requires
index-first-requires c =
    let stack = stack_tree c.args.self.now in
    let fronts = c.self.inside.fronts in
    let are = seen _ stack fronts.texts fronts.begins.items fronts.firsts.items (ap stack_tree c.self.view_is)
    c.self.invariant.1 in
    let count = firsts_count stack (length stack) fronts.texts fronts.begins.items fronts.firsts.items are in
    omega (arith, count, c.self.inside.fronts.firsts.ok, c.from.ensures, c.if-place-places.false, c.places.ensures)

pub index-next-requires : goal.index-next-requires
index-next-requires c =
    let stack = stack_tree c.args.self.now in
    let fronts = c.self.inside.fronts in
    let are = seen _ stack fronts.texts fronts.begins.items fronts.firsts.items (ap stack_tree c.self.view_is)
    c.self.invariant.1 in
    let count = firsts_count stack (length stack) fronts.texts fronts.begins.items fronts.firsts.items are in
    omega (arith, count, c.self.inside.fronts.firsts.ok, c.from-2.ensures, c.if-place-places.false, c.places.ensures)

pub overflow_sub-next : goal.overflow_sub-next
overflow_sub-next c =
    let stack = stack_tree c.args.self.now in
    let are = seen _ stack _ _ _ (ap stack_tree c.self.view_is) c.self.invariant.1 in
    firsts_ordered stack c.args.place c.index-first.result.now c.index-next.result.now
    (c.index-first.ensures ∙ first_at stack (length stack) _ _ _ are c.from.result _
    (omega (arith, c.from.ensures, c.if-place-places.false, c.places.ensures)) ∙
    ap (λ k. length (declared_headers stack k)) c.from.ensures)
    (c.index-next.ensures ∙ first_at stack (length stack) _ _ _ are (c.from-2.result + 1) _
    (omega (arith, c.from-2.ensures, c.if-place-places.false, c.places.ensures)) ∙
    ap (λ k. length (declared_headers stack (k + 1))) c.from-2.ensures)

pub returns-then-following-next : goal.returns-then-following-next
returns-then-following-next c =
    let stack = stack_tree c.args.self.now in
    let are = seen _ stack _ _ _ (ap stack_tree c.self.view_is) c.self.invariant.1 in
    number_is stack (length stack) c.args.place c.args.tag c.index-first.result.now c.index-next.result.now
    (c.from-following.result - 1)
    (omega (arith, c.if-place-places.false, c.places.ensures)) c.if-tag-eq0.false
    (c.index-first.ensures ∙ first_at stack (length stack) _ _ _ are c.from.result _
    (omega (arith, c.from.ensures, c.if-place-places.false, c.places.ensures)) ∙
    ap (λ k. length (declared_headers stack k)) c.from.ensures)
    (c.index-next.ensures ∙ first_at stack (length stack) _ _ _ are (c.from-2.result + 1) _
    (omega (arith, c.from-2.ensures, c.if-place-places.false, c.places.ensures)) ∙
    ap (λ k. length (declared_headers stack (k + 1))) c.from-2.ensures)
    (ap (λ tag. tag - 1) c.from-following.ensures) c.if-following-next.true
