use Rattle.std.proofs.Common.{◌≡◌, ◌<◌}
use Rattle.std.specs.List.{All}
use Rattle.script_mean.specs.Event.{member_of}
use Rattle.script_mean.specs.NodePlan.{turns_of}
use Rattle.script_text.specs.Reading.{lines_left}
use Rattle.script_text.proofs.Faults.{with_front}
use Rattle.script_text.proofs.plan.turns.Given as goal

abbrev pub invariant-loop-line : goal.invariant-loop-line
invariant-loop-line l =
    (with_front l.turns.items (turns_of l.members l.earliest (lines_left l.line-iterator)) ≡
    turns_of l.members 0 (lines_left l.fn.lines))
    × All (λ turn. member_of turn.1 < l.members) l.turns.items
