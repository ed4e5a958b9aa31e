-- The text of `frag` spells its tree.
use Rattle.std.proofs.Common.{refl}
use Rattle.layer_ast.specs.Reader.{file_of}
use Rattle.layer_ast.proofs.Laid.{fits_laid}
use Rattle.file_library.specs.Flow.{frag}
use Rattle.file_mean.specs.Library.{SpellsLayer}
use Rattle.library_rows.specs.Frag.{layer}

pub spelled : SpellsLayer frag layer
unfolding file_of frag
spelled = record { good = refl; fits = fits_laid _ _ refl }
