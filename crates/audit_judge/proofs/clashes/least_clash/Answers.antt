use Rattle.std.proofs.Common.{◌∙◌, refl}
use Rattle.std.specs.HashMap as hash
use Rattle.audit_judge.specs.Clashes.{same_place_key}
use Rattle.audit_judge.specs.Places.{lists_shown}
use Rattle.audit_judge.proofs.Agree.{nothing_seen, agrees_further, clash_found, no_clash}
use Rattle.audit_judge.proofs.clashes.least_clash.Goals as goal

pub loop-index-init : goal.loop-index-init
loop-index-init c = nothing_seen (lists_shown c.args.lists) (hash.get same_place_key c.new-agreed.result)
    (λ q. rw c.new-agreed.ensures.empty refl)

pub returns-then-disagrees : goal.returns-then-disagrees
returns-then-disagrees c =
    c.earliest.ensures
    ∙ clash_found (lists_shown c.args.lists) (hash.get same_place_key c.loop-index.agreed) c.args.placed.now
    c.loop-index.index _ c.place_key-key.result c.seen_at-seen.result _ c.loop-index-test.true c.requires
    c.loop-index.invariant c.place_key-key.ensures c.seen_at-seen.ensures c.if-disagrees.ensures refl

pub loop-index-preserved : goal.loop-index-preserved
loop-index-preserved c =
    agrees_further (lists_shown c.args.lists) (hash.get same_place_key c.loop-index.agreed)
    (hash.get same_place_key c.insert.new.self) c.args.placed.now c.loop-index.index _ c.place_key-key.result
    c.seen_at-seen.result c.seen_with.result c.loop-index-test.true c.loop-index.invariant c.place_key-key.ensures
    c.seen_at-seen.ensures c.if-disagrees.ensures c.seen_with.ensures c.in_ok-insert.ensures.updates.0

pub returns : goal.returns
returns c = no_clash (lists_shown c.args.lists) (hash.get same_place_key c.loop-index.agreed) c.args.placed.now
    c.loop-index.index c.loop-index-test.false c.loop-index.invariant
