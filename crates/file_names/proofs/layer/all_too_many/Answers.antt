use Rattle.std.proofs.Common.{rules}
use Rattle.file_names.proofs.Layers.{handler_more}
use Rattle.file_names.proofs.layer.all_too_many.Goals as goal

pub loop-handler-preserved : goal.loop-handler-preserved
loop-handler-preserved c =
    handler_more c.args.found.now c.loop-handler.found c.note.new.found c.args.handlers.now c.loop-handler.handler-index
    c.handler-item.result (search rules) (search rules) c.loop-handler.invariant c.note.ensures
