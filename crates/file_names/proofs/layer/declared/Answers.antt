use Rattle.std.proofs.Common.{List, flat_map, map, subst}
use Rattle.layer_ast.specs.View.{declaration_tree, layer_tree}
use Rattle.layer_ast.specs.declared.syntax.Declaration.{Declaration}
use Rattle.file_scope.specs.Scope.{scope_of}
use Rattle.file_names.specs.Declarations.{declaration_faults}
use Rattle.file_names.specs.Found.{Finds}
use Rattle.file_names.proofs.Layers.{declared_parts}
use Rattle.file_names.proofs.layer.declared.Goals as goal

pub returns : goal.returns
returns c =
    let s = scope_of c.of-scope.result in
    declared_parts (layer_tree c.args.worded.now.layer.now) s c.args.found.now c.each_once.new.found c.few.new.found
    c.few-2.new.found c.few-3.new.found
    c.declarations.new.found c.of-scope.ensures c.in_ok-each_once.ensures c.in_ok-few.ensures c.in_ok-few-2.ensures
    c.in_ok-few-3.ensures
    (subst (λ (l : List Declaration). Finds c.few-3.new.found (flat_map (declaration_faults s) (map declaration_tree l))
    c.declarations.new.found)
    c.deref.ensures.value c.in_ok-declarations.ensures)
