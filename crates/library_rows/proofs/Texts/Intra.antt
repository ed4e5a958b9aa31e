-- The text of `intra` spells its tree.
use Rattle.std.proofs.Common.{refl}
use Rattle.layer_ast.specs.Reader.{file_of}
use Rattle.layer_ast.proofs.Laid.{fits_laid}
use Rattle.file_library.specs.Membership.{intra}
use Rattle.file_mean.specs.Library.{SpellsLayer}
use Rattle.library_rows.specs.Intra.{layer}

pub spelled : SpellsLayer intra layer
unfolding file_of intra
spelled = record { good = refl; fits = fits_laid _ _ refl }
