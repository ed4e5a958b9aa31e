-- The text of `stable` spells its tree.
use Rattle.std.proofs.Common.{refl}
use Rattle.layer_ast.specs.Reader.{file_of}
use Rattle.layer_ast.proofs.Laid.{fits_laid}
use Rattle.file_library.specs.Order.{stable}
use Rattle.file_mean.specs.Library.{SpellsLayer}
use Rattle.library_rows.specs.Stable.{layer}

pub spelled : SpellsLayer stable layer
unfolding file_of stable
spelled = record { good = refl; fits = fits_laid _ _ refl }
