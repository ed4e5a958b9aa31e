-- A file without faults is within the bounds of what members keep.
use Rattle.std.proofs.Common.{◌≡◌, Option, None, option_map, ap₂, subst, sym}
use Rattle.std.specs.Option.{option_or}
use Rattle.layer_ast.specs.Spells.{HasPlace}
use Rattle.layer_ast.specs.Tree.{FileTree}
use Rattle.fault_mean.specs.Faults.{NameFault, TypeFault, of_names, of_types}
use Rattle.fault_mean.specs.NameFaults.{name_fault}
use Rattle.fault_mean.specs.TypeFaults.{type_fault}
use Rattle.file_laws.proofs.HeldLayers.{files_are_held}
use Rattle.file_laws.specs.Bounds.{HoldsFile}

pub held : (file resolved : FileTree) → file ≡ resolved → HasPlace resolved → name_fault resolved ≡ None →
    type_fault resolved ≡ None →
    HoldsFile file
held file resolved same placed names types =
    subst HoldsFile (sym same)
    (files_are_held resolved placed
    (ap₂ (λ (n : Option NameFault) (t : Option TypeFault). option_or (option_map of_names n) (option_map of_types t))
    names types))
