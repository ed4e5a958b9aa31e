use Rattle.std.proofs.Common.{◌≡◌, ◌∙◌, Some, refl, sym, ap, arith}
use Rattle.msg_core.specs.View.{rank, next_view}
use Rattle.stack_judge.specs.Answer.{stack_tree}
use Rattle.group_member.specs.Viewing.{input_at}
use Rattle.group_member.proofs.Members.{counts_are}
use Rattle.group_member.proofs.Viewing.{rank_below, fewer_now, comes_into}
use Rattle.group_member.proofs.views.install.Goals as goal

pub reset_all-requires-clause-member : goal.reset_all-requires-clause-member
reset_all-requires-clause-member c =
    let seat = c.args.seat in
    let at : rank c.in-Some.next seat.id ≡ Some c.in-Some-rank.me = sym c.rank.ensures ∙ c.in-Some-rank.is in
    omega (
      arith,
      rank_below c.in-Some.next seat.id c.in-Some-rank.me at,
      c.from.ensures,
      c.member_count.ensures.count,
    )

pub reset_all-requires-clause-room : goal.reset_all-requires-clause-room
reset_all-requires-clause-room c =
    let seat = c.args.seat in
    let following : next_view seat.view c.args.ranks ≡ Some c.in-Some.next = sym c.next_view.ensures ∙
    c.in-Some.is in
    fewer_now seat.view c.in-Some.next c.args.ranks _ _ following c.member_count.ensures.count
    (counts_are (input_at seat.view seat.id) (stack_tree seat.stack.now) _ c.requires.members.own)

pub returns : goal.returns
returns c =
    let seat = c.args.seat in
    let following : next_view seat.view c.args.ranks ≡ Some c.in-Some.next = sym c.next_view.ensures ∙
    c.in-Some.is in
    let at : rank c.in-Some.next seat.id ≡ Some c.from.result = sym c.rank.ensures ∙ c.in-Some-rank.is ∙
    ap Some (sym c.from.ensures) in
    comes_into (stack_tree seat.stack.now) seat.most seat.view c.in-Some.next seat.id c.args.ranks
    c.from.result c.member_count.result
    c.args.works.now _ following at c.member_count.ensures.count c.requires.ready c.requires.members
    c.reset_all.ensures refl refl
