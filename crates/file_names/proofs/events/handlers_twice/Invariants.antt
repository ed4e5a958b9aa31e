use Rattle.std.proofs.Common.{[], map, take}
use Rattle.layer_ast.specs.Tree.{HandlerTree}
use Rattle.layer_ast.specs.View.{handler_tree}
use Rattle.fault_mean.specs.Faults.{twice}
use Rattle.fault_mean.specs.NameFaults.{repetitions, same_events}
use Rattle.file_names.specs.Events.{IsSeen}
use Rattle.file_names.specs.Found.{Finds}
use Rattle.file_names.proofs.events.handlers_twice.Given as goal

abbrev pub invariant-loop-handler : goal.invariant-loop-handler
invariant-loop-handler l =
    Finds l.initial.found
    (map (λ (h : HandlerTree). twice h.at)
    (repetitions same_events [] (map handler_tree (take l.handler-index l.handlers)))) l.found
    × IsSeen l.seen (map handler_tree (take l.handler-index l.handlers))
