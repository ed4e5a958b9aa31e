use Rattle.std.proofs.Common.{◌≡◌, take}
use Rattle.msg_core.proofs.fields.Fields.of.Given as goal

abbrev pub invariant-loop-number : goal.invariant-loop-number
invariant-loop-number l = l.fields ≡ take l.number-index l.numbers
