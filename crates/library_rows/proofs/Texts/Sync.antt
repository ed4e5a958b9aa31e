-- The text of `sync` spells its tree.
use Rattle.std.proofs.Common.{refl}
use Rattle.layer_ast.specs.Reader.{file_of}
use Rattle.layer_ast.proofs.Laid.{fits_laid}
use Rattle.file_library.specs.Membership.{sync}
use Rattle.file_mean.specs.Library.{SpellsLayer}
use Rattle.library_rows.specs.Sync.{layer}

pub spelled : SpellsLayer sync layer
unfolding file_of sync
spelled = record { good = refl; fits = fits_laid _ _ refl }
