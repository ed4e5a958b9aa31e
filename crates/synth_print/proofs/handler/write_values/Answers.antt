use Rattle.std.proofs.Common.{arith}
use Rattle.std.proofs.lemmas.List.{length-map}
use Rattle.std.proofs.lemmas.Result.{err_from_is_err_and}
use Rattle.outside.proofs.Turns.{turns_cut, turns_done, turns_more}
use Rattle.synth_print.specs.Lines.{value_turn, numbers_of}
use Rattle.synth_print.specs.Texts.{layers_in, terms_in}
use Rattle.synth_print.proofs.Joins.{node_at}
use Rattle.synth_print.proofs.handler.write_values.Goals as goal
use Rattle.trace_core.specs.View.{number_in}

pub loop-k-preserved : goal.loop-k-preserved
loop-k-preserved g c =
    let s = c.args.scope.now in
    let x = number_in (terms_in s) c.node_of-value.result in
    turns_more (value_turn (layers_in s)) (numbers_of s.source.now c.args.values.now) c.loop-k.k x x _ _ _
    c.loop-k.invariant c.in_ok-write_value.ensures
    (omega (arith, c.loop-k-test.true, length-map c.args.values.now (number_in (terms_in s))))
    (node_at (terms_in s) c.args.values.now c.loop-k.k c.node_of-value.result x c.node_of-value.ensures)

pub returns-in_err-write_value : goal.returns-in_err-write_value
returns-in_err-write_value g c =
    let p = err_from_is_err_and c.from_residual.result c.from_residual.ensures.1 in
    let s = c.args.scope.now in
    let x = number_in (terms_in s) c.node_of-value.result in
    rw (p.1, p.2) (turns_cut (value_turn (layers_in s)) (numbers_of s.source.now c.args.values.now) c.loop-k.k x x _ _ _
    _
    c.loop-k.invariant c.in_err-write_value.ensures
    (omega (arith, c.loop-k-test.true, length-map c.args.values.now (number_in (terms_in s))))
    (node_at (terms_in s) c.args.values.now c.loop-k.k c.node_of-value.result x c.node_of-value.ensures))

pub returns : goal.returns
returns g c =
    let s = c.args.scope.now in
    turns_done (value_turn (layers_in s)) (numbers_of s.source.now c.args.values.now) c.loop-k.k _ _ c.loop-k.invariant
    (omega (arith, c.loop-k-test.false, length-map c.args.values.now (number_in (terms_in s))))
