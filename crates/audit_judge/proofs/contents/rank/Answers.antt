use Rattle.std.proofs.Common.{arith, ap, ◌∙◌, subst}
use Rattle.std.specs.Prelude.{unwrap_or}
use Rattle.std.specs.HashMap as hash
use Rattle.audit_judge.specs.Lacks.{OneMore, same_content_key}
use Rattle.audit_judge.specs.declared.contents.Content.{Content}
use Rattle.audit_judge.proofs.Ranks.{answers, few_placed, ranks_on, all_ranked}
use Rattle.audit_judge.proofs.contents.rank.Goals as goal

pub next_rank-requires : goal.next_rank-requires
next_rank-requires c =
    few_placed (hash.get same_content_key c.loop-entry.counts) c.loop-entry.ranked.items c.args.entries.now
    c.loop-entry.entry-index _ _ (omega arith) (omega arith) c.loop-entry.invariant c.content_of.ensures

pub loop-entry-preserved : goal.loop-entry-preserved
loop-entry-preserved c =
    let f = hash.get same_content_key c.loop-entry.counts in
    let g = hash.get same_content_key c.next_rank.new.counts in
    rw c.in_ok-push.ensures.items (
    ranks_on f g c.loop-entry.ranked.items c.in_ok-place.place c.args.entries.now c.loop-entry.entry-index _
    (omega arith) (answers c.loop-entry.counts) c.loop-entry.invariant
    (c.in_ok-place.ensures.0 ∙ ap (λ k. unwrap_or (f k) 0) c.content_of.ensures)
    (subst (λ (k : Content). OneMore f g k) c.content_of.ensures c.in_ok-place.ensures.1)
    )

pub returns : goal.returns
returns c = all_ranked (hash.get same_content_key c.loop-entry.counts) c.loop-entry.ranked.items c.args.entries.now
    c.loop-entry.entry-index (omega arith) c.loop-entry.invariant
