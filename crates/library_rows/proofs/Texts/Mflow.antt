-- The text of `mflow` spells its tree.
use Rattle.std.proofs.Common.{refl}
use Rattle.layer_ast.specs.Reader.{file_of}
use Rattle.layer_ast.proofs.Laid.{fits_laid}
use Rattle.file_library.specs.Flow.{mflow}
use Rattle.file_mean.specs.Library.{SpellsLayer}
use Rattle.library_rows.specs.Mflow.{layer}

pub spelled : SpellsLayer mflow layer
unfolding file_of mflow
spelled = record { good = refl; fits = fits_laid _ _ refl }
