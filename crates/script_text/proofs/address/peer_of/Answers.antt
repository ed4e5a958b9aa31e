use Rattle.std.proofs.Common.{sym}
use Rattle.script_text.proofs.Addresses.{three}
use Rattle.script_text.proofs.address.peer_of.Goals as goal

pub returns-then-is_some : goal.returns-then-is_some
returns-then-is_some c =
    rw (c.cut.ensures, c.in_ok-following.was, c.cut-2.ensures)
    (three c.cut.result.0.now c.cut-2.result.0.now 58 c.cut-2.result.1 (sym c.if-is_some.ensures))
