use Rattle.std.proofs.Common.{List, ◌++◌, [], filter_map, flat_map, map, subst}
use Rattle.layer_ast.specs.Tree.{LayerTree, PlaceTree}
use Rattle.layer_ast.specs.View.{file_tree, layer_tree, place_tree}
use Rattle.layer_ast.specs.declared.syntax.File.{File}
use Rattle.layer_ast.specs.declared.syntax.Layer.{Layer}
use Rattle.layer_ast.specs.declared.syntax.Place.{Place}
use Rattle.fault_mean.specs.Faults.{name_fault_at}
use Rattle.fault_mean.specs.NameFaults.{layer_name_faults, place_faults, too_many_of, twice_among}
use Rattle.fault_mean.specs.Places.{called_at, faults_of_judged}
use Rattle.file_names.specs.Found.{Finds}
use Rattle.file_names.proofs.Files.{file_parts}
use Rattle.file_names.proofs.file.all.Goals as goal

pub returns : goal.returns
returns c =
    let file = c.args.file.now in
    let same = c.in_ok-judged.ensures.file in
    file_parts (file_tree file) c.args.found.now c.names.new.found c.judge.new.found c.calls.new.found c.few.new.found
    c.places.new.found
    (subst (λ (l : List Layer). Finds c.args.found.now
    (twice_among [] (map (λ (x : LayerTree). x.name) (map layer_tree l)) ++
    too_many_of 64 (map (λ (x : LayerTree). x.name) (map layer_tree l)))
    c.names.new.found) c.deref.ensures.value c.in_ok-names.ensures)
    c.in_ok-judged.ensures.finds
    (subst (λ (x : File). Finds c.judge.new.found
    (flat_map (faults_of_judged name_fault_at layer_name_faults)
    (filter_map (called_at (file_tree x)) (map place_tree file.places.items)))
    c.calls.new.found) same
    (subst (λ (l : List Place). Finds c.judge.new.found
    (flat_map (faults_of_judged name_fault_at layer_name_faults)
    (filter_map (called_at (file_tree c.in_ok-judged.judged.file.now)) (map place_tree l))) c.calls.new.found)
    c.deref-2.ensures.value c.calls.ensures))
    (subst (λ (l : List Place).
    Finds c.calls.new.found (too_many_of 24 (map (λ (x : PlaceTree). x.name) (map place_tree l))) c.few.new.found)
    c.deref-3.ensures.value c.in_ok-few.ensures)
    (subst (λ (x : File).
    Finds c.few.new.found (flat_map (place_faults (file_tree x)) (map place_tree file.places.items))
    c.places.new.found) same
    (subst (λ (l : List Place).
    Finds c.few.new.found (flat_map (place_faults (file_tree c.in_ok-judged.judged.file.now)) (map place_tree l))
    c.places.new.found) c.deref-4.ensures.value c.in_ok-places.ensures))
