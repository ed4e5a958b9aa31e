-- What stands in for a missing message, and can't.
use Rattle.std.proofs.Common.{◌≡◌, ℕ, zero, suc, ◌+◌, ◌<◌, ◌≤◌, Bool, true, false, not, ◌&&◌, nat_lt, nat_le, List, map}
use Rattle.std.proofs.Common.{length, refl, sym, ap, subst, ◌∙◌, arith}
use Rattle.std.specs.List.{list_all, range_with_len}
use Rattle.std.proofs.lemmas.Bool.{lt-leb, le-ltb}
use Rattle.std.proofs.lemmas.List.FromFn.{length-map-range_with_len}
use Rattle.msg_core.specs.declared.message.Header.{Header}
use Rattle.layer_mean.specs.Visit.{none_header}
use Rattle.layer_desk.specs.Need.{are_above, one_if, too_wide}
use Rattle.layer_desk.specs.Spent.{Short}
use Rattle.layer_mean.specs.Tree.{whole}
use Rattle.typed_layer.specs.View.{carried_tree}
use Rattle.typed_layer.specs.declared.tree.Blank.{Blank}
use Rattle.typed_layer.specs.declared.tree.Carried.{Carried}
use Rattle.typed_layer.specs.declared.tree.Carried.TheVariants.{Whole}
use Rattle.pool_message.specs.Seen.{bodiless}
use Rattle.pool_message.specs.declared.message.PoolMessage.{PoolMessage}
use Rattle.live_layer.specs.Taken.{CanStandIn, StandsIn}

neither : (a : Bool) → (a && false) ≡ false
neither true = refl
neither false = refl

-- Places from a first on, some of which are none above a layer.
beyond : (n a : ℕ) → 24 < a + suc n →
    list_all (λ (h : Header). nat_lt h.layer 24) (map none_header (range_with_len a (suc n))) ≡ false
beyond zero a past = let one : nat_lt a 24 ≡ false = le-ltb a 24 (omega arith) in ap (λ b. b && true) one
beyond (suc n) a past =
    ap (λ b. nat_lt a 24 && b) (beyond n (a + 1) (omega arith)) ∙ neither (nat_lt a 24)

wide : (blank : List Header) → are_above blank ≡ false → Short 0 (too_wide (whole blank))
wide blank not_above = let one = ap (λ b. one_if (not b)) not_above in record { short = omega arith }

pub too_many : (first count : ℕ) → 23 < count →
    Short 0 (too_wide (whole (map none_header (range_with_len first count))))
too_many first count many =
    let blank = map none_header (range_with_len first count) in
    let long = length-map-range_with_len none_header first count in
    let is : nat_le (length blank) 23 ≡ false = lt-leb (length blank) 23 (omega arith) in
    wide blank (ap (λ b. b && list_all (λ (h : Header). nat_lt h.layer 24) blank) is)

pub too_high : (first count : ℕ) → 256 < first + count → first ≤ 255 →
    Short 0 (too_wide (whole (map none_header (range_with_len first count))))
too_high first zero past low = absurd (omega arith)
too_high first (suc n) past low =
    let blank = map none_header (range_with_len first (suc n)) in
    wide blank (ap (λ b. nat_le (length blank) 23 && b) (beyond n first (omega arith)) ∙
    neither (nat_le (length blank) 23))

-- A message without bytes stands in for a missing one, if its headers can.
pub blank_stands : (carried : Carried) (blank : Blank) (m : PoolMessage) → carried ≡ Whole blank → CanStandIn carried →
    m ≡ bodiless (map none_header (range_with_len blank.first blank.count)) → StandsIn (carried_tree carried) m
blank_stands carried blank m at can is =
    let few = (subst CanStandIn at can).0 in let long = length-map-range_with_len none_header blank.first blank.count in
    let same = ap (λ (x : PoolMessage). length x.headers) is in
    let stands : StandsIn (whole (map none_header (range_with_len blank.first blank.count))) m =
    record { is = is; short = omega arith } in
    subst (λ x. StandsIn (carried_tree x) m) (sym at) stands
