use Rattle.std.proofs.Common.{◌∙◌, ap, map, sym, arith}
use Rattle.std.proofs.lemmas.Slice.Eq.{bytes_eq-Decides}
use Rattle.weight_laws.specs.Rounds.{round}
use Rattle.weight_laws.proofs.Rounds.{rounds_settle}
use Rattle.stack_judge.specs.Vertices.{vertex_tree}
use Rattle.stack_judge.specs.Measures.{own_of}
use Rattle.stack_judge.proofs.rounds.costs_in.Goals as goal

pub returns-then-eq : goal.returns-then-eq
returns-then-eq c =
    let own = own_of c.args.measure in
    let vertices = map vertex_tree c.args.vertices.now in
    let same = (bytes_eq-Decides c.as_slice.result.now c.as_slice-in-loop-done.result.now).0
    (sym c.eq.ensures ∙ c.if-eq.true) in
    let settled = ap (round own vertices) (sym c.loop-done.invariant ∙ sym c.deref.ensures.value) ∙
    sym c.in_ok-next.ensures
    ∙ sym c.as_slice.ensures.value ∙ same ∙ c.as_slice-in-loop-done.ensures.value ∙ c.loop-done.invariant in
    c.loop-done.invariant
    ∙ sym (rounds_settle own vertices c.loop-done._done c.args.most (omega (arith, c.loop-done-test.true)) settled)
