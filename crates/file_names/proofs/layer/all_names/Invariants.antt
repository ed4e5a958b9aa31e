use Rattle.std.proofs.Common.{◌≡◌, map, take}
use Rattle.layer_ast.specs.View.{declaration_tree}
use Rattle.fault_mean.specs.Declared.{declared_name}
use Rattle.file_names.proofs.layer.all_names.Given as goal

abbrev pub invariant-loop-declaration : goal.invariant-loop-declaration
invariant-loop-declaration l =
    l.all.items ≡ map declared_name (map declaration_tree (take l.declaration-index l.declarations))
