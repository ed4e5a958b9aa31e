-- The text of `local` spells its tree.
use Rattle.std.proofs.Common.{refl}
use Rattle.layer_ast.specs.Reader.{file_of}
use Rattle.layer_ast.proofs.Laid.{fits_laid}
use Rattle.file_library.specs.Order.{local}
use Rattle.file_mean.specs.Library.{SpellsLayer}
use Rattle.library_rows.specs.Local.{layer}

pub spelled : SpellsLayer local layer
unfolding file_of local
spelled = record { good = refl; fits = fits_laid _ _ refl }
