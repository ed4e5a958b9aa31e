use Rattle.std.proofs.Common.{◌<◌}
use Rattle.std.proofs.lemmas.List.Elements.{All-push}
use Rattle.script_mean.specs.Event.{member_of}
use Rattle.script_mean.specs.NodePlan.{turns_of}
use Rattle.script_text.specs.Reading.{lines_left, numbered_line}
use Rattle.script_text.proofs.Plans.{one_more_turn}
use Rattle.script_text.proofs.plan.turns.Goals as goal

pub loop-line-preserved : goal.loop-line-preserved
loop-line-preserved c =
    let members = c.args.members in
    let turns = c.loop-line.turns.items in
    let turn = c.in_ok-turn.turn in
    rw c.in_ok-push.ensures.items (
      one_more_turn members c.loop-line.earliest turns (numbered_line c.in-Some.line) turn
          (lines_left c.loop-line.line-iterator) (lines_left c.next.new.self)
          (turns_of members 0 (lines_left c.args.lines))
          c.in-Some.ensures.steps c.in_ok-turn.ensures.said c.loop-line.invariant.0,
      All-push (λ turn. member_of turn.1 < members) turns turn c.loop-line.invariant.1 c.in_ok-turn.ensures.of_member,
    )
