use Rattle.std.proofs.Common.{refl}
use Rattle.layer_ast.specs.Reader.{file_of}
use Rattle.layer_ast.proofs.Laid.{fits_laid}
use Rattle.file_library.specs.Library.{library}
use Rattle.file_mean.specs.Layers.{handler_of, layer_of}
use Rattle.file_mean.specs.Stack.{stack_of}
use Rattle.file_mean.proofs.samples.paces_file.Goals as goal

pub returns-clause-spelled : goal.returns-clause-spelled
unfolding file_of library
returns-clause-spelled c = record {
  spelled = record { good = refl; fits = fits_laid _ _ refl; within = tt; placed = λ none. cc };
  library = tt;
}

pub returns-clause-means : goal.returns-clause-means
unfolding file_of stack_of layer_of handler_of
returns-clause-means c = refl
