use Rattle.std.proofs.Common.{ap, arith, length, ◌∙◌}
use Rattle.stack_judge.specs.Answer.{stack_tree}
use Rattle.report_lines.proofs.LaidOut.{begins_count, front_at, seen}
use Rattle.report_lines.proofs.named.NamedStack.front_numbered.Goals as goal

pub index-requires : goal.index-requires
index-requires c =
    let stack = stack_tree c.args.self.now in
    let fronts = c.self.inside.fronts in
    let are = seen _ stack fronts.texts fronts.begins.items fronts.firsts.items (ap stack_tree c.self.view_is)
    c.self.invariant.1 in
    let count = begins_count stack (length stack) fronts.texts fronts.begins.items fronts.firsts.items are in
    omega (arith, count, c.self.inside.fronts.begins.ok, c.requires)

pub overflow_add-number : goal.overflow_add-number
overflow_add-number c =
    let stack = stack_tree c.args.self.now in
    let fronts = c.self.inside.fronts in
    let are = seen _ stack fronts.texts fronts.begins.items fronts.firsts.items (ap stack_tree c.self.view_is)
    c.self.invariant.1 in
    let count = begins_count stack (length stack) fronts.texts fronts.begins.items fronts.firsts.items are in
    omega (arith, count, c.self.inside.fronts.begins.ok, c.self.inside.fronts.begins.small, c.requires)

pub index-requires-2 : goal.index-requires-2
index-requires-2 c =
    let stack = stack_tree c.args.self.now in
    let fronts = c.self.inside.fronts in
    let are = seen _ stack fronts.texts fronts.begins.items fronts.firsts.items (ap stack_tree c.self.view_is)
    c.self.invariant.1 in
    let count = begins_count stack (length stack) fronts.texts fronts.begins.items fronts.firsts.items are in
    omega (arith, count, c.self.inside.fronts.begins.ok, c.requires)

pub part-requires : goal.part-requires
part-requires c =
    let stack = stack_tree c.args.self.now in
    let are = seen _ stack _ _ _ (ap stack_tree c.self.view_is) c.self.invariant.1 in
    let piece = front_at stack (length stack) _ _ _ are c.args.number _ _ _ _ c.requires c.index.ensures
    c.index-2.ensures in
    (piece.ordered, rw c.slice.ensures piece.inside)

pub returns : goal.returns
returns c =
    let stack = stack_tree c.args.self.now in
    let are = seen _ stack _ _ _ (ap stack_tree c.self.view_is) c.self.invariant.1 in
    let piece = front_at stack (length stack) _ _ _ are c.args.number _ _ _ _ c.requires c.index.ensures
    c.index-2.ensures in
    c.part.ensures ∙ rw c.slice.ensures piece.is
