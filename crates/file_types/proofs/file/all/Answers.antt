use Rattle.std.proofs.Common.{List, filter_map, flat_map, map, subst}
use Rattle.layer_ast.specs.View.{file_tree, layer_tree, place_tree}
use Rattle.layer_ast.specs.declared.syntax.File.{File}
use Rattle.layer_ast.specs.declared.syntax.Layer.{Layer}
use Rattle.layer_ast.specs.declared.syntax.Place.{Place}
use Rattle.fault_mean.specs.Faults.{type_fault_at}
use Rattle.fault_mean.specs.Places.{called_at, faults_of_judged}
use Rattle.fault_mean.specs.TypeFaults.{layer_type_faults}
use Rattle.file_expressions.specs.Found.{Finds}
use Rattle.file_types.proofs.Files.{file_parts}
use Rattle.file_types.proofs.file.all.Goals as goal

pub returns : goal.returns
returns c =
    let file = c.args.file.now in
    file_parts (file_tree file) c.args.found.now c.written.new.found c.calls.new.found
    (subst (λ (l : List Layer). Finds c.args.found.now (flat_map layer_type_faults (map layer_tree l))
    c.written.new.found)
    c.deref.ensures.value c.in_ok-written.ensures)
    (subst (λ (x : File). Finds c.written.new.found
    (flat_map (faults_of_judged type_fault_at layer_type_faults)
    (filter_map (called_at (file_tree x)) (map place_tree file.places.items)))
    c.calls.new.found) c.in_ok-library.ensures
    (subst (λ (l : List Place). Finds c.written.new.found
    (flat_map (faults_of_judged type_fault_at layer_type_faults)
    (filter_map (called_at (file_tree c.in_ok-library.library.file.now)) (map place_tree l))) c.calls.new.found)
    c.deref-2.ensures.value c.calls.ensures))
