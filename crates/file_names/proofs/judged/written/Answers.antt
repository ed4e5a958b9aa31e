use Rattle.std.proofs.Common.{rules}
use Rattle.layer_ast.specs.View.{layer_tree}
use Rattle.fault_mean.specs.NameFaults.{layer_name_faults}
use Rattle.file_scope.proofs.Finds.{part_more}
use Rattle.file_names.specs.Found.{name_shown}
use Rattle.file_names.specs.Gathered.{sizes_of}
use Rattle.file_scope.proofs.Layers.{thing_more}
use Rattle.file_names.proofs.judged.written.Goals as goal

pub loop-k-preserved : goal.loop-k-preserved
loop-k-preserved c =
    let one = c.in_ok-sizes.ensures in (
      part_more name_shown layer_tree layer_name_faults c.args.found.now c.loop-k.found c.layer.new.found
          c.args.layers.now c.loop-k.k
          c.index-layers-k.result (search rules) (search rules) c.loop-k.invariant.0 one.finds,
      thing_more sizes_of c.args.layers.now c.loop-k.all.items c.push.new.self.items c.loop-k.k c.index-layers-k.result
          c.in_ok-sizes.sizes
          (search rules) (search rules) c.loop-k.invariant.1 one.sizes c.in_ok-push.ensures.items,
    )
