-- The text of `elect` spells its tree.
use Rattle.std.proofs.Common.{refl}
use Rattle.layer_ast.specs.Reader.{file_of}
use Rattle.layer_ast.proofs.Laid.{fits_laid}
use Rattle.file_library.specs.Membership.{elect}
use Rattle.file_mean.specs.Library.{SpellsLayer}
use Rattle.library_rows.specs.Elect.{layer}

pub spelled : SpellsLayer elect layer
unfolding file_of elect
spelled = record { good = refl; fits = fits_laid _ _ refl }
