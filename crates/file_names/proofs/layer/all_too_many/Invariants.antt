use Rattle.std.proofs.Common.{map, take}
use Rattle.layer_ast.specs.Tree.{HandlerTree}
use Rattle.layer_ast.specs.View.{handler_tree}
use Rattle.fault_mean.specs.Faults.{too_many}
use Rattle.file_names.specs.Found.{Finds}
use Rattle.file_names.proofs.layer.all_too_many.Given as goal

abbrev pub invariant-loop-handler : goal.invariant-loop-handler
invariant-loop-handler l = Finds l.initial.found
    (map (λ (h : HandlerTree). too_many h.at) (map handler_tree (take l.handler-index l.handlers))) l.found
