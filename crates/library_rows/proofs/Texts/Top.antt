-- The text of `top` spells its tree.
use Rattle.std.proofs.Common.{refl}
use Rattle.layer_ast.specs.Reader.{file_of}
use Rattle.layer_ast.proofs.Laid.{fits_laid}
use Rattle.file_library.specs.Membership.{top}
use Rattle.file_mean.specs.Library.{SpellsLayer}
use Rattle.library_rows.specs.Top.{layer}

pub spelled : SpellsLayer top layer
unfolding file_of top
spelled = record { good = refl; fits = fits_laid _ _ refl }
