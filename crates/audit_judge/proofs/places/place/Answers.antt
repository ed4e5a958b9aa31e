use Rattle.std.proofs.Common.{arith, ap, ◌∙◌, subst}
use Rattle.std.specs.Prelude.{unwrap_or}
use Rattle.std.specs.HashMap as hash
use Rattle.audit_judge.specs.Places.{Lengthens, lists_shown, same_key}
use Rattle.audit_judge.specs.declared.places.ListKey.{ListKey}
use Rattle.audit_judge.proofs.Counts.{few, places_on, all_placed}
use Rattle.audit_judge.proofs.places.place.Goals as goal

pub next_place-requires : goal.next_place-requires
next_place-requires c =
    rw c.list_key.ensures
    (few (lists_shown c.args.lists) (hash.get same_key c.loop-entry.counts) c.loop-entry.placed.items c.args.entries.now
    c.loop-entry.entry-index _ (omega arith) (omega (arith, c.requires)) c.loop-entry.invariant)

pub loop-entry-preserved : goal.loop-entry-preserved
loop-entry-preserved c =
    let f = hash.get same_key c.loop-entry.counts in
    let g = hash.get same_key c.next_place.new.counts in
    rw c.in_ok-push.ensures.items (
    places_on (lists_shown c.args.lists) f g c.loop-entry.placed.items c.in_ok-place.place c.args.entries.now
    c.loop-entry.entry-index _ (omega arith) c.loop-entry.invariant
    (c.in_ok-place.ensures.0 ∙ ap (λ k. unwrap_or (f k) 0) c.list_key.ensures)
    (subst (λ (k : ListKey). Lengthens f g k) c.list_key.ensures c.in_ok-place.ensures.1)
    )

pub returns : goal.returns
returns c = all_placed (lists_shown c.args.lists) (hash.get same_key c.loop-entry.counts) c.loop-entry.placed.items
    c.args.entries.now c.loop-entry.entry-index (omega arith) c.loop-entry.invariant
