use Rattle.std.proofs.Common.{rules}
use Rattle.file_scope.proofs.Layers.{thing_more}
use Rattle.file_names.specs.Called.{called_of}
use Rattle.file_names.proofs.library.library.Goals as goal

pub loop-k-preserved : goal.loop-k-preserved
loop-k-preserved c =
    thing_more called_of c.args.layers.now c.loop-k.all.items c.push.new.self.items c.loop-k.k c.index-layers-k.result
    c.in_ok-one.one
    (search rules) (search rules) c.loop-k.invariant c.in_ok-one.ensures c.in_ok-push.ensures.items
