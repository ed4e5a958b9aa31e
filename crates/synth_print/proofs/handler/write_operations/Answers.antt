use Rattle.std.proofs.Common.{arith}
use Rattle.std.proofs.lemmas.List.{length-map}
use Rattle.std.proofs.lemmas.Result.{err_from_is_err_and}
use Rattle.stack_judge.specs.Answer.{stack_tree}
use Rattle.synth_print.specs.Source.{nodes_in, operations_in}
use Rattle.synth_print.specs.Texts.{written_of}
use Rattle.synth_print.proofs.Joins.{operation_at}
use Rattle.synth_print.proofs.Loops.{operations_cut, operations_done, operations_more, written_next}
use Rattle.synth_print.proofs.handler.write_operations.Goals as goal
use Rattle.trace_core.specs.Links.{chains}
use Rattle.trace_core.specs.Operations.{operation_in}
use Rattle.trace_core.specs.View.{terms}

pub loop-k-preserved : goal.loop-k-preserved
loop-k-preserved g c =
    let s = c.args.stacked.source.now in
    let stack = stack_tree c.args.stacked.stack.now in
    let ts = terms (nodes_in s.nodes) in
    let cs = chains s.links.now in
    let o = operation_in ts cs c.operation_at-operation.result in
    record {
      gained = operations_more s.noting stack (operations_in s) c.loop-k.k o o
          (omega (arith, c.loop-k-test.true, length-map s.operations.now (operation_in ts cs)))
          (operation_at ts cs s.operations.now c.loop-k.k c.operation_at-operation.result o
          c.operation_at-operation.ensures.is)
          (written_of c.args.stacked.stack.now s c.loop-k.written) c.loop-k.invariant.written
          _ _ _ c.loop-k.invariant.gained c.in_ok-write_operation.ensures.wrote;
      written = written_next s.noting stack (operations_in s) c.loop-k.k o o
          (omega (arith, c.loop-k-test.true, length-map s.operations.now (operation_in ts cs)))
          (operation_at ts cs s.operations.now c.loop-k.k c.operation_at-operation.result o
          c.operation_at-operation.ensures.is)
          (written_of c.args.stacked.stack.now s c.loop-k.written) c.loop-k.invariant.written
          _ c.in_ok-write_operation.ensures.written;
      few = omega (arith, c.in_ok-write_operation.ensures.few, c.loop-k.invariant.few);
    }

pub returns-in_err-write_operation : goal.returns-in_err-write_operation
returns-in_err-write_operation g c =
    let p = err_from_is_err_and c.from_residual.result c.from_residual.ensures.1 in
    let s = c.args.stacked.source.now in
    let ts = terms (nodes_in s.nodes) in
    let cs = chains s.links.now in
    let o = operation_in ts cs c.operation_at-operation.result in
    rw (p.1, p.2) (operations_cut s.noting (stack_tree c.args.stacked.stack.now) (operations_in s) c.loop-k.k o o
    (omega (arith, c.loop-k-test.true, length-map s.operations.now (operation_in ts cs)))
    (operation_at ts cs s.operations.now c.loop-k.k c.operation_at-operation.result o
    c.operation_at-operation.ensures.is)
    (written_of c.args.stacked.stack.now s c.loop-k.written) c.loop-k.invariant.written
    _ _ _ _ c.loop-k.invariant.gained c.in_err-write_operation.ensures.wrote)

pub returns : goal.returns
returns g c =
    let s = c.args.stacked.source.now in
    operations_done s.noting (stack_tree c.args.stacked.stack.now) (operations_in s) c.loop-k.k _ _
    c.loop-k.invariant.gained
    (omega (
      arith,
      c.loop-k-test.false,
      length-map s.operations.now (operation_in (terms (nodes_in s.nodes)) (chains s.links.now)),
    ))
