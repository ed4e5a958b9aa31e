use Rattle.std.proofs.Common.{◌≡◌, ℕ, ◌∙◌, sym, ap, ◌+◌, ◌<◌, ◌*◌, ◌^◌, ◌%◌, arith, add-one, zero-add}
use Rattle.std.proofs.Math.Nat.{pow-suc, mod-eq_of_lt}
use Rattle.std.proofs.Math.Pow.{pow-lt}
use Rattle.view_masks.proofs.Ids.{mask_from, mask_begins, mask_ends, mask_set, mask_unset, mask_without}
use Rattle.view_masks.proofs.masks.mask_of.Goals as goal
use Rattle.view_masks.proofs.masks.mask_of.Goals.{then-has, then-has-2, else-has-2, else-has}

doubled : (at : ℕ) → 2 ^ (at + 1) ≡ 2 ^ at * 2
doubled at = ap (λ n. 2 ^ n) (add-one at) ∙ pow-suc 2 at

bit_of : (at : ℕ) → at < 32 → (1 * 2 ^ at) % 4294967296 ≡ 2 ^ at
bit_of at small =
    let below : 2 ^ at < 4294967296 = pow-lt {i = at} {j = 32} small in
    let once : 1 * 2 ^ at ≡ 2 ^ at = omega arith in ap (λ n. n % 4294967296) once ∙ mod-eq_of_lt below

pub loop-id-init : goal.loop-id-init
loop-id-init c =
    let begins = mask_begins c.args.view c.args.ranks in
    (omega arith, omega arith, begins ∙ sym (zero-add (mask_from c.args.view c.args.ranks 0 0)))

pub loop-id-preserved : goal.loop-id-preserved
loop-id-preserved c =
    let view = c.args.view in
    let ranks = c.args.ranks in
    let rank = c.loop-id.rank in
    let at = c.loop-id.id in
    let more = doubled at in
    let old = c.loop-id.invariant in elim c.if-has.branch [
      | then-has w ↦ elim w.if-has-2.branch [
        | then-has-2 x ↦ (
          omega (arith, w.rank-is, old.0),
          omega (arith, w.mask-is, x.mask-is, more, old.1),
          omega (
            arith,
            old.2,
            w.mask-is,
            x.mask-is,
            bit_of at c.loop-id-test.true,
            ap (λ r. mask_from view ranks r (at + 1)) w.rank-is,
            mask_set view ranks rank at c.loop-id-test.true (sym c.has.ensures ∙ w.if-has.true)
                (sym w.has-then-has.ensures ∙ x.if-has-2.true),
          ),
        )
        | else-has-2 x ↦ (
          omega (arith, w.rank-is, old.0),
          omega (arith, w.mask-is, x.mask-is, more, old.1),
          omega (
            arith,
            old.2,
            w.mask-is,
            x.mask-is,
            ap (λ r. mask_from view ranks r (at + 1)) w.rank-is,
            mask_unset view ranks rank at c.loop-id-test.true (sym c.has.ensures ∙ w.if-has.true)
                (sym w.has-then-has.ensures ∙ x.if-has-2.false),
          ),
        )
      ]
      | else-has w ↦ (
        omega (arith, w.rank-is, old.0),
        omega (arith, w.mask-is, more, old.1),
        old.2 ∙ ap (λ rest. c.loop-id.mask + rest)
            (mask_without view ranks rank at c.loop-id-test.true (sym c.has.ensures ∙ w.if-has.false))
            ∙ ap (λ m. m + mask_from view ranks rank (at + 1)) (sym w.mask-is)
            ∙ ap (λ r. c.if-has.mask + mask_from view ranks r (at + 1)) (sym w.rank-is),
      )
    ]

pub returns : goal.returns
returns c =
    let none = mask_ends c.args.view c.args.ranks c.loop-id.rank c.loop-id.id (omega (arith, c.loop-id-test.false)) in
    omega (arith, c.loop-id.invariant.2, none)
