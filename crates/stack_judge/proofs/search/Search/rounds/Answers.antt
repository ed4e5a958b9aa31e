use Rattle.std.proofs.Common.{◌≡◌, ◌∙◌, [], ap, map, sym, eqb-true, arith}
use Rattle.weight_laws.specs.Search as search
use Rattle.weight_laws.proofs.Search.{search_settles}
use Rattle.stack_judge.specs.Vertices.{vertex_tree}
use Rattle.stack_judge.specs.Searches.{search_tree}
use Rattle.stack_judge.proofs.Steps.{empty_is}
use Rattle.stack_judge.proofs.search.Search.rounds.Goals as goal

pub returns-then-is_empty : goal.returns-then-is_empty
returns-then-is_empty c =
    let none : c.loop-done.self.last.items ≡ [] = empty_is c.loop-done.self.last.items
    (omega (arith, c.loop-done.self.last.ok, eqb-true _ _ (sym c.is_empty.ensures ∙ c.if-is_empty.true))) in
    c.loop-done.invariant
    ∙ sym (search_settles (map vertex_tree c.args.vertices.now) c.loop-done._done c.args.most
    (search_tree c.args.self.now)
    (omega (arith, c.loop-done-test.true)) (ap (λ (s : search.Search). s.last) (sym c.loop-done.invariant) ∙ none))
