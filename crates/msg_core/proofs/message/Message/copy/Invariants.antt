use Rattle.std.proofs.Common.{◌≡◌, take}
use Rattle.msg_core.proofs.message.Message.copy.Given as goal

abbrev pub invariant-loop-header : goal.invariant-loop-header
invariant-loop-header l = l.headers.items ≡ take l.header-index l.header-items
