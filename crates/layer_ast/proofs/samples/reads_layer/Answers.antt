use Rattle.std.proofs.Common.{refl}
use Rattle.layer_ast.specs.Reader.{file_of}
use Rattle.layer_ast.proofs.samples.reads_layer.Goals as goal

pub returns : goal.returns
unfolding file_of
returns c = refl
