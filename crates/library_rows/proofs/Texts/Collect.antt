-- The text of `collect` spells its tree.
use Rattle.std.proofs.Common.{refl}
use Rattle.layer_ast.specs.Reader.{file_of}
use Rattle.layer_ast.proofs.Laid.{fits_laid}
use Rattle.file_library.specs.Order.{collect}
use Rattle.file_mean.specs.Library.{SpellsLayer}
use Rattle.library_rows.specs.Collect.{layer}

pub spelled : SpellsLayer collect layer
unfolding file_of collect
spelled = record { good = refl; fits = fits_laid _ _ refl }
