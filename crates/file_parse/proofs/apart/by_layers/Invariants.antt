use Rattle.std.proofs.Common.{◌+◌, length, map}
use Rattle.layer_ast.specs.View.{layer_tree}
use Rattle.file_parse.proofs.LayerAfterLayer.{Apart}
use Rattle.file_parse.proofs.apart.by_layers.Given as goal

abbrev pub invariant-loop-tokens : goal.invariant-loop-tokens
invariant-loop-tokens l = Apart l.fn.text (map layer_tree l.layers.items) l.tokens.items l.left

abbrev pub decreases-loop-tokens : goal.decreases-loop-tokens
decreases-loop-tokens l = length l.left.text.now + length l.tokens.items
