use Rattle.std.proofs.Common.{arith, subst}
use Rattle.std.specs.HashMap as hash
use Rattle.audit_judge.specs.Lacks.{OneMore, same_content_key}
use Rattle.audit_judge.specs.declared.contents.Content.{Content}
use Rattle.audit_judge.proofs.Ranks.{answers, few_ranked, count_further, all_counted}
use Rattle.audit_judge.proofs.contents.count.Goals as goal

pub next_rank-requires : goal.next_rank-requires
next_rank-requires c =
    few_ranked (hash.get same_content_key c.loop-delivery.counts) c.args.deliveries.now c.loop-delivery.delivery-index _
    _ (omega arith) (omega arith) c.loop-delivery.invariant c.content_of.ensures

pub loop-delivery-preserved : goal.loop-delivery-preserved
loop-delivery-preserved c =
    let f = hash.get same_content_key c.loop-delivery.counts in
    let g = hash.get same_content_key c.next_rank.new.counts in
    count_further f g c.args.deliveries.now c.loop-delivery.delivery-index _ (omega arith)
    (answers c.loop-delivery.counts) c.loop-delivery.invariant
    (subst (λ (k : Content). OneMore f g k) c.content_of.ensures c.in_ok-next_rank.ensures.1)

pub returns : goal.returns
returns c = all_counted (hash.get same_content_key c.loop-delivery.counts) c.args.deliveries.now
    c.loop-delivery.delivery-index (omega arith) c.loop-delivery.invariant
