use Rattle.std.proofs.Common.{rules, ◌≡◌, List, map, subst, IfOk, Vec, Global}
use Rattle.layer_ast.specs.Tree.{ArgumentTree}
use Rattle.layer_ast.specs.View as written
use Rattle.file_mean.specs.Values as spec
use Rattle.typed_layer.specs.View.{expression_tree}
use Rattle.typed_layer.specs.declared.tree.Expression.{Expression}
use Rattle.file_slots.specs.Scope.{names_of}
use Rattle.file_slots.proofs.Lists.{front_more}
use Rattle.file_slots.proofs.argument.front.Goals as goal

pub returns : goal.returns
returns c =
    subst (λ (l : List ArgumentTree).
    IfOk c.each_number.result (λ (all : Vec Expression Global). map expression_tree all.items ≡
    map (spec.argument_number (names_of c.args.names.now)) l))
    (front_more written.argument_tree c.args.arguments.now.first c.args.arguments.now.rest.items _ (search rules)
    (search rules))
    c.each_number.ensures
