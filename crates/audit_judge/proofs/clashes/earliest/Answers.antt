use Rattle.std.proofs.Common.{sym, ap, ◌∙◌}
use Rattle.std.specs.Prelude.{option_map}
use Rattle.audit_mean.specs.Clash as spec
use Rattle.audit_judge.specs.Places.{lists_shown, placed_shown}
use Rattle.audit_judge.proofs.Agree.{found_here, found_later, found_none}
use Rattle.audit_judge.proofs.clashes.earliest.Goals as goal

pub returns-then-clashes : goal.returns-then-clashes
returns-then-clashes c =
    let here = found_here (spec.clashes (lists_shown c.args.lists) (placed_shown c.args.entry.now)) placed_shown
    c.args.front.now c.loop-other.other-index _ c.loop-other-test.true (sym c.if-clashes.ensures) in
    sym (ap (option_map (spec.lines_at (placed_shown c.args.entry.now))) (sym c.loop-other.invariant ∙ here))

pub loop-other-preserved : goal.loop-other-preserved
loop-other-preserved c =
    found_later (spec.clashes (lists_shown c.args.lists) (placed_shown c.args.entry.now)) placed_shown c.args.front.now
    c.loop-other.other-index _ c.loop-other-test.true (sym c.if-clashes.ensures) ∙ c.loop-other.invariant

pub returns : goal.returns
returns c =
    let none = found_none (spec.clashes (lists_shown c.args.lists) (placed_shown c.args.entry.now)) placed_shown
    c.args.front.now c.loop-other.other-index c.loop-other-test.false in
    sym (ap (option_map (spec.lines_at (placed_shown c.args.entry.now))) (sym c.loop-other.invariant ∙ none))
