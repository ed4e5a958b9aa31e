-- A file, part by part.
use Rattle.std.proofs.Common.{◌≡◌, List, ◌++◌, map, flat_map, filter_map, Option, Some, None, option_map, refl, sym, ap}
use Rattle.std.proofs.Common.{◌∙◌, subst}
use Rattle.std.proofs.lemmas.Grind.{flat_map-append}
use Rattle.layer_ast.specs.Tree.{FileTree}
use Rattle.fault_mean.specs.Earliest.{earliest}
use Rattle.fault_mean.specs.Faults.{TypeFault, kind, arity, direction, header, initial, type_key, type_fault_at}
use Rattle.fault_mean.specs.TypeFaults.{layer_type_faults, type_fault}
use Rattle.fault_mean.specs.Places.{Judged, called_at, faults_of_judged, faults_of_layers, written}
use Rattle.file_scope.specs.Found.{fault_key}
use Rattle.file_scope.specs.declared.found.Found.{Found}
use Rattle.file_scope.proofs.Finds.{finds_both}
use Rattle.file_scope.proofs.Firsts.{first_is}
use Rattle.file_expressions.specs.Found.{Finds, type_shown}
use Rattle.file_scope.proofs.Layers.{mapped}
use Rattle.file_types.specs.Files.{shown_type_fault}

pub file_parts : (file : FileTree) (a b c : Found) → Finds a (flat_map layer_type_faults file.layers) b →
    Finds b (flat_map (faults_of_judged type_fault_at layer_type_faults) (filter_map (called_at file) file.places)) c →
    Finds a (faults_of_layers type_fault_at layer_type_faults file) c
file_parts file a b c layers called =
    let j : Judged → List TypeFault = faults_of_judged type_fault_at layer_type_faults in
    subst (λ l. Finds a l c)
    (ap (λ l. l ++ flat_map j (filter_map (called_at file) file.places)) (sym (mapped j written file.layers))
    ∙ sym (flat_map-append j (map written file.layers) (filter_map (called_at file) file.places)))
    (finds_both type_shown a b c (flat_map layer_type_faults file.layers) _ layers called)

shown_key : (f : TypeFault) → type_key f ≡ fault_key (type_shown f)
shown_key (kind at) = refl
shown_key (arity at) = refl
shown_key (direction at) = refl
shown_key (header at) = refl
shown_key (initial at) = refl

shown_back : (o : Option TypeFault) → option_map shown_type_fault (option_map type_shown o) ≡ o
shown_back None = refl
shown_back (Some (kind at)) = refl
shown_back (Some (arity at)) = refl
shown_back (Some (direction at)) = refl
shown_back (Some (header at)) = refl
shown_back (Some (initial at)) = refl

pub first_typed : (file : FileTree) (start judged : Found) → start.first ≡ None → start.moved ≡ None →
    Finds start (faults_of_layers type_fault_at layer_type_faults file) judged →
    option_map shown_type_fault judged.first ≡
    type_fault file
first_typed file start judged first moved finds =
    let all = faults_of_layers type_fault_at layer_type_faults file in
    ap (option_map shown_type_fault) (first_is type_shown type_key start judged all shown_key first moved finds) ∙
    shown_back (earliest type_key all)
