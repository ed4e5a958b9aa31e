use Rattle.std.proofs.Common.{refl}
use Rattle.layer_ast.specs.Reader.{file_of}
use Rattle.file_mean.specs.Layers.{handler_of, layer_of}
use Rattle.file_mean.specs.Stack.{stack_of}
use Rattle.fifo_laws.proofs.text_means.Goals as goal

pub returns : goal.returns
unfolding file_of stack_of layer_of handler_of
returns c = refl
