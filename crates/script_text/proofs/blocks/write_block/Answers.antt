use Rattle.std.proofs.Common.{◌+◌, ◌*◌, cond, arith, ap, ◌∙◌}
use Rattle.std.proofs.lemmas.Bool.Decides.{nat_tests}
use Rattle.std.proofs.lemmas.List.{length-map}
use Rattle.std.proofs.lemmas.Simd.{length-chunk}
use Rattle.std.specs.Prelude.{length, nat_le, nat_lt}
use Rattle.script_text.specs.Blocks.{digit_value}
use Rattle.script_text.proofs.Lanes.{none_high, writes}
use Rattle.script_text.proofs.blocks.write_block.Goals as goal

pub returns : goal.returns
returns c =
    let front = ap length c.digit_values-front.ensures ∙ length-map _ digit_value ∙
    length-chunk (2 * c.args.at) 16 c.args.digits.now (omega (arith, c.requires.0)) in
    let back = ap length c.digit_values-back.ensures ∙ length-map _ digit_value ∙
    length-chunk (2 * c.args.at + 16) 16 c.args.digits.now (omega (arith, c.requires.0)) in
    writes c.args.at c.args.digits.now c.args.bytes.now _ _ _ c.requires.0 c.requires.1 c.digit_values-front.ensures
    c.digit_values-back.ensures
    (none_high (λ a b. cond (nat_lt a b) 255 0) (λ a b. cond (nat_le a b) 255 0) _ _ front back
    (λ f b. grind (arith, nat_tests)))
