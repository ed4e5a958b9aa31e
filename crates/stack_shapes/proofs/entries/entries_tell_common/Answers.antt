use Rattle.stack_shapes.proofs.Common.{entries_tell_common}
use Rattle.stack_shapes.proofs.entries.entries_tell_common.Goals as goal

pub returns : goal.returns
returns c = entries_tell_common
