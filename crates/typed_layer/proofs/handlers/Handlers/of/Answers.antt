use Rattle.std.proofs.Common.{rules}
use Rattle.typed_layer.proofs.handlers.Handlers.of.Goals as goal

pub invariant_of-result : goal.invariant_of-result
invariant_of-result c = (search rules, c.requires.tagged, search rules)
