-- The text of `mnak` spells its tree.
use Rattle.std.proofs.Common.{refl}
use Rattle.layer_ast.specs.Reader.{file_of}
use Rattle.layer_ast.proofs.Laid.{fits_laid}
use Rattle.file_library.specs.Reliable.{mnak}
use Rattle.file_mean.specs.Library.{SpellsLayer}
use Rattle.library_rows.specs.Mnak.{layer}

pub spelled : SpellsLayer mnak layer
unfolding file_of mnak
spelled = record { good = refl; fits = fits_laid _ _ refl }
