use Rattle.std.proofs.Common.{arith}
use Rattle.layer_ast.specs.View.{file_tree}
use Rattle.file_laws.proofs.HeldHeaders.{typed_have_few_headers}
use Rattle.file_lower.proofs.Stacks.{stack_count}
use Rattle.file_lower.proofs.stack.numbered.Goals as goal

pub of-requires-clause-some : goal.of-requires-clause-some
of-requires-clause-some c =
    let count = stack_count (file_tree c.args.file.now) c.in_ok-layers.layers.items c.in_ok-layers.ensures in
    omega (arith, c.in_ok-layers.layers.ok, count, c.requires.some)

pub of-requires-clause-few : goal.of-requires-clause-few
of-requires-clause-few c =
    let count = stack_count (file_tree c.args.file.now) c.in_ok-layers.layers.items c.in_ok-layers.ensures in
    omega (arith, c.in_ok-layers.layers.ok, count, c.requires.few)

pub of-requires-clause-few_headers : goal.of-requires-clause-few_headers
of-requires-clause-few_headers c =
    typed_have_few_headers (file_tree c.args.file.now) c.in_ok-layers.layers.items c.requires c.in_ok-layers.ensures
