use Rattle.std.proofs.Common.{refl}
use Rattle.file_library.specs.Flow.{pt2ptw, mflow, frag}
use Rattle.file_library.specs.Library.{library}
use Rattle.file_library.specs.Membership.{suspect, elect, sync, intra, top}
use Rattle.file_library.specs.Order.{collect, stable, local, total}
use Rattle.file_library.specs.Reliable.{bottom, mnak, pt2pt}
use Rattle.format_mean.proofs.library_stays.Goals as goal

pub returns : goal.returns
unfolding library bottom mnak pt2pt pt2ptw mflow frag collect stable local total suspect elect sync intra top
returns c = refl
