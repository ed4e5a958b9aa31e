use Rattle.std.proofs.Common.{◌≡◌, ◌++◌, take}
use Rattle.stack_shapes.proofs.plan.add_fields.Given as goal

abbrev pub invariant-loop-field : goal.invariant-loop-field
invariant-loop-field l = l.fields.items ≡ l.fn.fields.items ++ take l.field-index l.more
