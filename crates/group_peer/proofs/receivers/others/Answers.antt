use Rattle.std.proofs.Common.{◌≡◌, ℕ, ◌∙◌, sym, ap, ◌+◌, ◌<◌, ◌*◌, ◌^◌, ◌%◌, arith, add-one, zero-add}
use Rattle.std.proofs.Math.Nat.{pow-suc, mod-eq_of_lt}
use Rattle.std.proofs.Math.Pow.{pow-lt}
use Rattle.group_peer.proofs.Others.{bits_from, bits_begin, bits_end, bits_set, bits_unset}
use Rattle.group_peer.proofs.receivers.others.Goals as goal
use Rattle.group_peer.proofs.receivers.others.Goals.{then-is_other, else-is_other}

doubled : (at : ℕ) → 2 ^ (at + 1) ≡ 2 ^ at * 2
doubled at = ap (λ n. 2 ^ n) (add-one at) ∙ pow-suc 2 at

bit_of : (at : ℕ) → at < 32 → (1 * 2 ^ at) % 4294967296 ≡ 2 ^ at
bit_of at small =
    let below : 2 ^ at < 4294967296 = pow-lt {i = at} {j = 32} small in
    let once : 1 * 2 ^ at ≡ 2 ^ at = omega arith in ap (λ n. n % 4294967296) once ∙ mod-eq_of_lt below

pub loop-id-init : goal.loop-id-init
loop-id-init c =
    (omega arith, bits_begin c.args.view c.args.from ∙ sym (zero-add (bits_from c.args.view c.args.from 0)))

pub loop-id-preserved : goal.loop-id-preserved
loop-id-preserved c =
    let view = c.args.view in
    let from = c.args.from in
    let at = c.loop-id.id in
    let more = doubled at in
    let old = c.loop-id.invariant in elim c.if-is_other.branch [
      | then-is_other w ↦ (
        omega (arith, w.mask-is, more, old.0),
        omega (
          arith,
          old.1,
          w.mask-is,
          bit_of at c.loop-id-test.true,
          bits_set view from at c.loop-id-test.true
              (sym c.is_other.ensures ∙ w.if-is_other.true),
        ),
      )
      | else-is_other w ↦ (
        omega (arith, w.mask-is, more, old.0),
        omega (
          arith,
          old.1,
          w.mask-is,
          bits_unset view from at c.loop-id-test.true
              (sym c.is_other.ensures ∙ w.if-is_other.false),
        ),
      )
    ]

pub returns : goal.returns
returns c =
    let none = bits_end c.args.view c.args.from c.loop-id.id (omega (arith, c.loop-id-test.false)) in
    omega (arith, c.loop-id.invariant.1, none)
