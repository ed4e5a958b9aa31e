use Rattle.std.proofs.Common.{refl}
use Rattle.layer_ast.specs.Reader.{file_of}
use Rattle.layer_ast.proofs.Laid.{fits_laid}
use Rattle.file_library.specs.Library.{library}
use Rattle.file_library.specs.Reliable.{bottom}
use Rattle.file_mean.specs.Layers.{handler_of, layer_of}
use Rattle.file_mean.specs.Stack.{stack_of}
use Rattle.library_rows.proofs.Texts.Bottom as bottom_text
use Rattle.library_rows.proofs.stacks.hiding_stack.Goals as goal

pub returns-clause-spelled : goal.returns-clause-spelled
unfolding file_of library
returns-clause-spelled c = record {
  spelled = record { good = refl; fits = fits_laid _ _ refl; within = tt; placed = λ none. cc };
  library = (bottom_text.spelled, tt);
}

pub returns-clause-means : goal.returns-clause-means
unfolding file_of bottom stack_of layer_of handler_of
returns-clause-means c = refl
