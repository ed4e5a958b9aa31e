-- The text of `total` spells its tree.
use Rattle.std.proofs.Common.{refl}
use Rattle.layer_ast.specs.Reader.{file_of}
use Rattle.layer_ast.proofs.Laid.{fits_laid}
use Rattle.file_library.specs.Order.{total}
use Rattle.file_mean.specs.Library.{SpellsLayer}
use Rattle.library_rows.specs.Total.{layer}

pub spelled : SpellsLayer total layer
unfolding file_of total
spelled = record { good = refl; fits = fits_laid _ _ refl }
