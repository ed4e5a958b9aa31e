use Rattle.std.proofs.Common.{[]}
use Rattle.std.proofs.Common.{rules}
use Rattle.layer_ast.specs.View.{handler_tree, layer_tree}
use Rattle.fault_mean.specs.NameFaults.{handler_name_faults}
use Rattle.file_scope.proofs.Finds.{part_more}
use Rattle.file_names.specs.Found.{name_shown}
use Rattle.file_names.specs.Gathered.{maxima_of}
use Rattle.file_names.proofs.Gathered.{words_more}
use Rattle.file_names.proofs.handler.handlers.Goals as goal

pub loop-h-preserved : goal.loop-h-preserved
loop-h-preserved c =
    let one = c.in_ok-handler.ensures in (
      part_more name_shown handler_tree (handler_name_faults (layer_tree c.args.worded.now.layer.now)) c.args.found.now
          c.loop-h.found
          c.handler.new.found c.args.worded.now.layer.now.handlers.items c.loop-h.h-index c.h-item.result (search rules)
          (search rules)
          c.loop-h.invariant.0 one.0,
      words_more handler_tree maxima_of [] c.loop-h.maxima c.handler.new.maxima
          c.args.worded.now.layer.now.handlers.items
          c.loop-h.h-index
          c.h-item.result (search rules) (search rules) c.loop-h.invariant.1 one.1,
    )
