use Rattle.std.proofs.Common.{◌+◌, refl}
use Rattle.std.specs.Prelude.{nat_eq}
use Rattle.std.specs.HashMap as hash
use Rattle.audit_judge.proofs.Endings.{none_led, leads_on, all_led}
use Rattle.audit_judge.proofs.ended.ended_segments.Goals as goal

pub loop-index-init : goal.loop-index-init
loop-index-init c = none_led c.first-segments.result (hash.get nat_eq c.new-held.result) c.new-all.result.items
    c.first-segments.ensures (λ member. rw c.new-held.ensures.empty refl) c.new-all.ensures.items

pub loop-index-preserved : goal.loop-index-preserved
loop-index-preserved c =
    rw c.in_ok-push_some.ensures
    (leads_on c.loop-index.segments c.advance.new.self (hash.get nat_eq c.loop-index.held)
    (hash.get nat_eq c.follow.new.held) c.loop-index.all.items c.in_ok-ended.ended c.entry.result c.args.lines.now
    c.loop-index.index _ _ c.loop-index-test.true refl c.loop-index.invariant c.in_ok-ended.ensures c.entry.ensures
    c.in_ok-follow.ensures c.advance.ensures.this)

pub returns : goal.returns
returns c = all_led (c.loop-index.index + 1) c.loop-index.segments (hash.get nat_eq c.loop-index.held)
    c.loop-index.all.items c.args.lines.now c.loop-index.index c.loop-index-test.false c.loop-index.invariant
