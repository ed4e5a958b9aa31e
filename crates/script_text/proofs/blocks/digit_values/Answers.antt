use Rattle.std.proofs.Common.{arith}
use Rattle.std.proofs.lemmas.Bool.Decides.{nat_tests}
use Rattle.script_text.proofs.Lanes.{lanes_are}
use Rattle.script_text.proofs.blocks.digit_values.Goals as goal

pub returns : goal.returns
returns c = lanes_are _ _ _ 16 c.args.digits c.fits-digits.0 c.fits-digits.1 (λ x small. grind (arith, nat_tests))
