-- The text of `pt2ptw` spells its tree.
use Rattle.std.proofs.Common.{refl}
use Rattle.layer_ast.specs.Reader.{file_of}
use Rattle.layer_ast.proofs.Laid.{fits_laid}
use Rattle.file_library.specs.Flow.{pt2ptw}
use Rattle.file_mean.specs.Library.{SpellsLayer}
use Rattle.library_rows.specs.Pt2ptw.{layer}

pub spelled : SpellsLayer pt2ptw layer
unfolding file_of pt2ptw
spelled = record { good = refl; fits = fits_laid _ _ refl }
