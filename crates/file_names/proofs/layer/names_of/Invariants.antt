use Rattle.std.proofs.Common.{◌≡◌, filter, map, take}
use Rattle.layer_ast.specs.View.{declaration_tree}
use Rattle.fault_mean.specs.Declared.{declared_name}
use Rattle.file_names.specs.Layers.{test_of}
use Rattle.file_names.proofs.layer.names_of.Given as goal

abbrev pub invariant-loop-declaration : goal.invariant-loop-declaration
invariant-loop-declaration l =
    l.all.items ≡ map declared_name
    (filter (test_of l.form) (map declaration_tree (take l.declaration-index l.declarations)))
