use Rattle.std.proofs.Common.{refl, arith}
use Rattle.script_text.proofs.Lanes.{begins}
use Rattle.script_text.proofs.values.write_bytes.Goals as goal

pub loop-bytes-init : goal.loop-bytes-init
loop-bytes-init c = (refl, omega arith, begins c.args.digits.now c.args.bytes.now)
