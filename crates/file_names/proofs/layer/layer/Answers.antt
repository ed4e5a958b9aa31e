use Rattle.std.proofs.Common.{List, [], drop, map, subst}
use Rattle.layer_ast.specs.Tree.{HandlerTree}
use Rattle.layer_ast.specs.View.{handler_tree, layer_tree}
use Rattle.layer_ast.specs.declared.syntax.Handler.{Handler}
use Rattle.fault_mean.specs.Faults.{too_many, twice}
use Rattle.fault_mean.specs.NameFaults.{repetitions, same_events}
use Rattle.file_names.specs.Found.{Finds}
use Rattle.file_names.proofs.Layers.{layer_parts}
use Rattle.file_names.proofs.layer.layer.Goals as goal

pub returns-clause-finds : goal.returns-clause-finds
returns-clause-finds c =
    layer_parts (layer_tree c.args.worded.now.layer.now) c.args.found.now c.declared.new.found
    c.handlers_twice.new.found
    c.few_handlers.new.found
    c.handlers.new.found c.in_ok-declared.ensures
    (subst (λ (l : List Handler). Finds c.declared.new.found
    (map (λ (h : HandlerTree). twice h.at) (repetitions same_events [] (map handler_tree l)))
    c.handlers_twice.new.found)
    c.deref.ensures.value c.in_ok-handlers_twice.ensures)
    (subst (λ (l : List Handler). Finds c.handlers_twice.new.found
    (map (λ (h : HandlerTree). too_many h.at) (drop 64 (map handler_tree l))) c.few_handlers.new.found)
    c.deref-2.ensures.value c.few_handlers.ensures)
    c.in_ok-maxima.ensures.0
