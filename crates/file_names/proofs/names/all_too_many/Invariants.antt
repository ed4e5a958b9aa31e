use Rattle.std.proofs.Common.{map, take}
use Rattle.layer_ast.specs.declared.names.Name.{Name}
use Rattle.fault_mean.specs.Faults.{too_many}
use Rattle.file_names.specs.Found.{Finds}
use Rattle.file_names.proofs.names.all_too_many.Given as goal

abbrev pub invariant-loop-name : goal.invariant-loop-name
invariant-loop-name l = Finds l.initial.found (map (λ (n : Name). too_many n.at) (take l.name-index l.names)) l.found
