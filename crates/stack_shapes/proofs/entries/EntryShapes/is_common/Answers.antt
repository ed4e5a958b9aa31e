use Rattle.std.proofs.Common.{rules}
use Rattle.stack_shapes.proofs.Common.{common_at}
use Rattle.stack_shapes.proofs.entries.EntryShapes.is_common.Goals as goal

pub returns-in-Some-clause-common : goal.returns-in-Some-clause-common
returns-in-Some-clause-common c = common_at _ _ _ _ _ (search rules)

pub returns-in-None-clause-common : goal.returns-in-None-clause-common
returns-in-None-clause-common c = common_at _ _ _ _ _ (search rules)
