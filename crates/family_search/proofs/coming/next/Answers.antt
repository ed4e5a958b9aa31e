use Rattle.std.proofs.Common.{arith}
use Rattle.family_search.proofs.Dues.{sorted_first, sorted_on, sorted_all, follow_still}
use Rattle.family_search.proofs.coming.next.Goals as goal

pub loop-choice-init : goal.loop-choice-init
loop-choice-init g c =
    sorted_first _ _ _ _ _ _ _ _ c.requires c.in_ok-sent.ensures c.in_ok-acts.ensures c.members-members.ensures
    c.in_ok-all.ensures c.new-next.ensures.items

pub may_come-requires : goal.may_come-requires
may_come-requires g c = follow_still _ _ _ _ _ c.loop-choice.invariant

pub loop-choice-preserved : goal.loop-choice-preserved
loop-choice-preserved g c =
    sorted_on _ _ _ _ _ _ _ _ _ _ c.loop-choice.invariant c.in-Some.ensures.items c.in_ok-may.ensures
    c.in_ok-put_if.ensures

pub returns : goal.returns
returns g c =
    let gone = c.in_default.ensures.cases in
    sorted_all _ _ _ _ _ c.loop-choice.invariant (omega (arith, gone))
