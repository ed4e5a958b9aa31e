use Rattle.std.proofs.Common.{◌≡◌, ◌∷◌, map, take}
use Rattle.layer_ast.specs.View as written
use Rattle.file_mean.specs.Values as spec
use Rattle.typed_layer.specs.View.{expression_tree}
use Rattle.file_slots.specs.Scope.{names_of}
use Rattle.file_slots.proofs.argument.each_number.Given as goal

abbrev pub invariant-loop-argument : goal.invariant-loop-argument
invariant-loop-argument l =
    map expression_tree l.all.items ≡ map (spec.argument_number (names_of l.names))
    (written.argument_tree l.first ∷ map written.argument_tree (take l.argument-index l.rest))
