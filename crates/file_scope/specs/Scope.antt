-- The scope that a value of the program shows.
use Rattle.std.specs.Prelude.{List, fold, map}
use Rattle.layer_ast.specs.Tree.{StatementTree}
use Rattle.layer_ast.specs.View.{layer_tree}
use Rattle.fault_mean.specs.Scope as names
use Rattle.file_scope.specs.declared.scope.Local.{Local}
use Rattle.file_scope.specs.declared.scope.Scope.{Scope}

-- Local names.
abbrev pub local_of : Local → names.Local
local_of l = record { name = l.name; sort = l.sort }

abbrev pub locals_of : List Local → List names.Local
locals_of = map local_of

-- A layer's own names, and the locals.
abbrev pub scope_of : Scope → names.Scope
scope_of s = record { layer = layer_tree s.layer.now; locals = locals_of s.locals.items }

-- The scope after statements that stand one after the other.
abbrev pub scope_after_all : names.Scope → List StatementTree → names.Scope
scope_after_all = fold names.scope_after
