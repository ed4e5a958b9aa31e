use Rattle.std.proofs.Common.{arith}
use Rattle.std.proofs.lemmas.List.{length-map}
use Rattle.std.proofs.lemmas.Result.{err_from_is_err_and}
use Rattle.outside.proofs.Turns.{turns_cut, turns_done, turns_more}
use Rattle.synth_print.specs.Lines.{conjunct_turn, numbers_of}
use Rattle.synth_print.specs.Texts.{layers_in, terms_in}
use Rattle.synth_print.proofs.Joins.{node_at}
use Rattle.synth_print.proofs.handler.write_conjuncts.Goals as goal
use Rattle.trace_core.specs.View.{number_in}

pub loop-k-preserved : goal.loop-k-preserved
loop-k-preserved g c =
    let s = c.args.scope.now in
    let x = number_in (terms_in s) c.node_of-conjunct.result in
    turns_more (conjunct_turn (layers_in s)) (numbers_of s.source.now c.args.conjuncts.now) c.loop-k.k x x _ _ _
    c.loop-k.invariant c.in_ok-write_conjunct.ensures
    (omega (arith, c.loop-k-test.true, length-map c.args.conjuncts.now (number_in (terms_in s))))
    (node_at (terms_in s) c.args.conjuncts.now c.loop-k.k c.node_of-conjunct.result x c.node_of-conjunct.ensures)

pub returns-in_err-write_conjunct : goal.returns-in_err-write_conjunct
returns-in_err-write_conjunct g c =
    let p = err_from_is_err_and c.from_residual.result c.from_residual.ensures.1 in
    let s = c.args.scope.now in
    let x = number_in (terms_in s) c.node_of-conjunct.result in
    rw (p.1, p.2) (turns_cut (conjunct_turn (layers_in s)) (numbers_of s.source.now c.args.conjuncts.now) c.loop-k.k x x
    _ _ _ _
    c.loop-k.invariant c.in_err-write_conjunct.ensures
    (omega (arith, c.loop-k-test.true, length-map c.args.conjuncts.now (number_in (terms_in s))))
    (node_at (terms_in s) c.args.conjuncts.now c.loop-k.k c.node_of-conjunct.result x c.node_of-conjunct.ensures))

pub returns : goal.returns
returns g c =
    let s = c.args.scope.now in
    turns_done (conjunct_turn (layers_in s)) (numbers_of s.source.now c.args.conjuncts.now) c.loop-k.k _ _
    c.loop-k.invariant
    (omega (arith, c.loop-k-test.false, length-map c.args.conjuncts.now (number_in (terms_in s))))
