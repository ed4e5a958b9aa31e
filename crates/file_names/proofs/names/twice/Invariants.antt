use Rattle.std.proofs.Common.{◌≡◌, [], map, take}
use Rattle.layer_ast.specs.declared.names.Name.{Name}
use Rattle.fault_mean.specs.NameFaults.{twice_among}
use Rattle.file_names.specs.Found.{Finds}
use Rattle.file_names.proofs.names.twice.Given as goal

abbrev pub invariant-loop-name : goal.invariant-loop-name
invariant-loop-name l =
    Finds l.initial.found (twice_among [] (take l.name-index l.names)) l.found
    × (l.seen ≡ map (λ (n : Name). n.word) (take l.name-index l.names))
