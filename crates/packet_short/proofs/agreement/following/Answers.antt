use Rattle.std.proofs.Common.{arith, sym, ◌∙◌}
use Rattle.packet_short.proofs.Alike.{none_after, empty_list}
use Rattle.packet_short.proofs.agreement.following.Goals as goal

pub returns-in_default-clause-rest : goal.returns-in_default-clause-rest
returns-in_default-clause-rest c =
    sym (sym c.loop-place.invariant.rest ∙ none_after c.loop-place.left.now c.args.fields.now c.loop-place.place
    (omega (arith, c.len-place-end.ensures.count, c.loop-place-test.true))
    (empty_list c.loop-place.left.now c.in_default.ensures.cases))
