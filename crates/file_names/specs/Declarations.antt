-- The faults of a declaration in a scope.
use Rattle.std.specs.Prelude.{List, [], ◌++◌, flat_map}
use Rattle.layer_ast.specs.Tree.{DeclarationTree}
use Rattle.fault_mean.specs.Faults.{NameFault}
use Rattle.fault_mean.specs.Forms.{items_of, labels_of}
use Rattle.fault_mean.specs.Limits.{capacity_in}
use Rattle.fault_mean.specs.NameFaults.{declaration_uses, row_faults, size_faults, too_many_of, twice_among}
use Rattle.fault_mean.specs.NameFaults.{uses_faults}
use Rattle.fault_mean.specs.Scope.{Scope}
use Rattle.msg_core.specs.Headers.{most_fields}

-- The faults of a declaration where these names are visible: in the scope of its layer they are its faults.
abbrev pub declaration_faults : Scope → DeclarationTree → List NameFault
declaration_faults scope declaration =
    uses_faults scope (declaration_uses declaration)
    ++ flat_map size_faults (capacity_in declaration)
    ++ row_faults (items_of declaration)
    ++ twice_among [] (labels_of declaration)
    ++ too_many_of most_fields (labels_of declaration)
