-- The text of `pt2pt` spells its tree.
use Rattle.std.proofs.Common.{refl}
use Rattle.layer_ast.specs.Reader.{file_of}
use Rattle.layer_ast.proofs.Laid.{fits_laid}
use Rattle.file_library.specs.Reliable.{pt2pt}
use Rattle.file_mean.specs.Library.{SpellsLayer}
use Rattle.library_rows.specs.Pt2pt.{layer}

pub spelled : SpellsLayer pt2pt layer
unfolding file_of pt2pt
spelled = record { good = refl; fits = fits_laid _ _ refl }
