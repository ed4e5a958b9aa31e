-- A file, part by part.
use Rattle.std.proofs.Common.{◌≡◌, List, [], ◌++◌, map, flat_map, filter_map, Option, Some, None, option_map, refl, sym}
use Rattle.std.proofs.Common.{ap, ◌∙◌, subst}
use Rattle.std.proofs.lemmas.Grind.{flat_map-append}
use Rattle.layer_ast.specs.Tree.{FileTree, LayerTree, PlaceTree}
use Rattle.fault_mean.specs.Earliest.{earliest}
use Rattle.fault_mean.specs.Faults.{NameFault, unknown, twice, too_many, name_key, name_fault_at}
use Rattle.fault_mean.specs.NameFaults.{layer_name_faults, name_fault, name_faults, place_faults, too_many_of}
use Rattle.fault_mean.specs.NameFaults.{twice_among}
use Rattle.fault_mean.specs.Places.{Judged, called_at, faults_of_judged, faults_of_layers, written}
use Rattle.file_scope.specs.Found.{fault_key}
use Rattle.file_scope.specs.declared.found.Found.{Found}
use Rattle.file_scope.proofs.Finds.{finds_both}
use Rattle.file_scope.proofs.Firsts.{first_is}
use Rattle.file_names.specs.Found.{Finds, name_shown, shown_name_fault}
use Rattle.file_scope.proofs.Layers.{mapped}

pub file_parts : (file : FileTree) (a b c d e f : Found) →
    Finds a (twice_among [] (map (λ (layer : LayerTree). layer.name) file.layers) ++
    too_many_of 64 (map (λ (layer : LayerTree). layer.name) file.layers)) b →
    Finds b (flat_map layer_name_faults file.layers) c →
    Finds c (flat_map (faults_of_judged name_fault_at layer_name_faults) (filter_map (called_at file) file.places)) d →
    Finds d (too_many_of 24 (map (λ (place : PlaceTree). place.name) file.places)) e →
    Finds e (flat_map (place_faults file) file.places) f → Finds a (name_faults file) f
file_parts file a b c d e f names layers called few places =
    let j : Judged → List NameFault = faults_of_judged name_fault_at layer_name_faults in
    let both : Finds b (faults_of_layers name_fault_at layer_name_faults file) d =
    subst (λ l. Finds b l d)
    (ap (λ l. l ++ flat_map j (filter_map (called_at file) file.places)) (sym (mapped j written file.layers))
    ∙ sym (flat_map-append j (map written file.layers) (filter_map (called_at file) file.places)))
    (finds_both name_shown b c d (flat_map layer_name_faults file.layers) _ layers called) in
    finds_both name_shown a e f _ _ (finds_both name_shown a d e _ _ (finds_both name_shown a b d _ _ names both) few)
    places

shown_key : (f : NameFault) → name_key f ≡ fault_key (name_shown f)
shown_key (unknown at) = refl
shown_key (twice at) = refl
shown_key (too_many at) = refl

shown_back : (o : Option NameFault) → option_map shown_name_fault (option_map name_shown o) ≡ o
shown_back None = refl
shown_back (Some (unknown at)) = refl
shown_back (Some (twice at)) = refl
shown_back (Some (too_many at)) = refl

pub first_named : (file : FileTree) (start judged : Found) → start.first ≡ None → start.moved ≡ None →
    Finds start (name_faults file) judged →
    option_map shown_name_fault judged.first ≡ name_fault file
first_named file start judged first moved finds =
    ap (option_map shown_name_fault)
    (first_is name_shown name_key start judged (name_faults file) shown_key first moved finds)
    ∙ shown_back (earliest name_key (name_faults file))
