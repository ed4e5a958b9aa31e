use Rattle.std.proofs.Common.{◌≡◌, map, take}
use Rattle.layer_ast.specs.Tree.{ItemTree}
use Rattle.layer_ast.specs.View.{declaration_tree}
use Rattle.fault_mean.specs.Forms.{items_of}
use Rattle.fault_mean.specs.Scope as names
use Rattle.file_scope.specs.Scope.{locals_of}
use Rattle.file_scope.proofs.locals.row_sorted.Given as goal

abbrev pub invariant-loop-name : goal.invariant-loop-name
invariant-loop-name l =
    locals_of l.all.items ≡ names.locals_as (map (λ (i : ItemTree). i.sort) (items_of (declaration_tree l.d)))
    (take l.name-index l.names)
