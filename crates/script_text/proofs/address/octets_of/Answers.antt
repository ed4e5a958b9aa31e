use Rattle.std.proofs.Common.{sym}
use Rattle.script_text.proofs.Addresses.{five}
use Rattle.script_text.proofs.address.octets_of.Goals as goal

pub returns-then-is_some : goal.returns-then-is_some
returns-then-is_some c =
    rw (
      c.cut.ensures,
      c.in_ok-following.was,
      c.cut-2.ensures,
      c.in_ok-following-2.was,
      c.cut-3.ensures,
      c.in_ok-following-3.was,
      c.cut-4.ensures,
    )
    (five c.cut.result.0.now c.cut-2.result.0.now c.cut-3.result.0.now c.cut-4.result.0.now 46 c.cut-4.result.1
    (sym c.if-is_some.ensures))
