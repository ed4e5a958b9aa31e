use Rattle.std.proofs.Common.{◌≡◌, ◌∙◌, ◌≤◌, List, Some, map, refl, sym, ap, subst, arith}
use Rattle.std.specs.List.{AllByRecursion}
use Rattle.msg_core.specs.View.{rank}
use Rattle.layer_mean.specs.State.{State}
use Rattle.stack_judge.specs.Answer.{stack_tree}
use Rattle.live_layer.specs.Layer.{state_in}
use Rattle.live_layer.specs.declared.layer.FileLayer.{FileLayer}
use Rattle.group_member.proofs.Restarting.{anew_in}
use Rattle.group_member.proofs.Viewing.{rank_below}
use Rattle.group_member.proofs.restarts.restart_works.Goals as goal

pub reset_all-requires-clause-member : goal.reset_all-requires-clause-member
reset_all-requires-clause-member c =
    let seat = c.args.seat in
    let at : rank seat.view seat.id ≡ Some c.in-Some.me = sym c.rank.ensures ∙ c.in-Some.is in
    omega (
      arith,
      rank_below seat.view seat.id c.in-Some.me at,
      c.from-then-are_among.ensures,
      c.member_count-count.ensures.count,
    )

pub reset_all-requires-clause-room : goal.reset_all-requires-clause-room
reset_all-requires-clause-room c =
    subst (λ (layers : List FileLayer).
    AllByRecursion (λ (s : State). c.member_count-count.result ≤ s.count) (map (state_in c.args.works.now.pool) layers))
    c.as_slice.ensures.value
    (c.if-are_among.ensures.counts c.args.works.now.pool)

pub returns-then-are_among : goal.returns-then-are_among
returns-then-are_among c =
    let seat = c.args.seat in
    let at : rank seat.view seat.id ≡ Some c.from-then-are_among.result = sym c.rank.ensures ∙ c.in-Some.is ∙
    ap Some (sym c.from-then-are_among.ensures) in
    anew_in (stack_tree seat.stack.now) seat.most seat.view seat.id c.from-then-are_among.result
    c.member_count-count.result c.args.works.now
    _ at c.member_count-count.ensures.count (omega arith) c.requires c.reset_all.ensures refl refl
