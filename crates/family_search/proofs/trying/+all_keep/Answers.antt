use Rattle.std.proofs.Common.{arith, rules, ap, length, ◌≡◌}
use Rattle.family_search.proofs.Tried.{begins, may_go_on, goes_on, all_gone}
use Rattle.family_search.proofs.trying.+all_keep.Goals as goal

pub loop-choice-init : goal.loop-choice-init
loop-choice-init g t c =
    let deep : c.len-depth.result ≡ length c.args.past.now.items =
    omega (arith, c.len-depth.ensures, c.as_slice-2.ensures.len, ap length c.as_slice-2.ensures.value) in
    begins _ _ _ _ _ _ _ c.as_slice-2.ensures.value c.in_ok-next.ensures deep (omega arith) c.requires

pub all_keep-requires : goal.all_keep-requires
all_keep-requires g t c κs within = (
  omega arith,
  (
    search (rules, within),
    (
      search (rules, within),
      may_go_on _ _ _ _ _ _ _ _ _ _ c.loop-choice.invariant c.in-Some.ensures.items c.in_ok-push.ensures.items,
    ),
  ),
)

pub loop-choice-preserved : goal.loop-choice-preserved
loop-choice-preserved g t c =
    goes_on _ _ _ _ _ _ _ _ _ _ _ _ _ _ c.loop-choice.invariant c.in-Some.ensures.items c.in_ok-push.ensures.items
    c.if-not-keep.false c.in_ok-keep-2.ensures c.truncate.ensures.items

pub returns : goal.returns
returns g t c =
    let gone = c.in_default.ensures.cases in
    all_gone _ _ _ _ _ _ _ c.loop-choice.invariant (omega (arith, gone))
