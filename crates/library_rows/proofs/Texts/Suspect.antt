-- The text of `suspect` spells its tree.
use Rattle.std.proofs.Common.{refl}
use Rattle.layer_ast.specs.Reader.{file_of}
use Rattle.layer_ast.proofs.Laid.{fits_laid}
use Rattle.file_library.specs.Membership.{suspect}
use Rattle.file_mean.specs.Library.{SpellsLayer}
use Rattle.library_rows.specs.Suspect.{layer}

pub spelled : SpellsLayer suspect layer
unfolding file_of suspect
spelled = record { good = refl; fits = fits_laid _ _ refl }
