use Rattle.std.proofs.Common.{◌≡◌, ◌<◌}
use Rattle.std.specs.List.{All}
use Rattle.script_mean.specs.Event.{member_of}
use Rattle.script_mean.specs.Script.{events_of}
use Rattle.script_text.specs.Reading.{lines_left}
use Rattle.script_text.proofs.Faults.{with_front}
use Rattle.script_text.proofs.reading.events.Given as goal

abbrev pub invariant-loop-line : goal.invariant-loop-line
invariant-loop-line l =
    (with_front l.events.items (events_of l.members (lines_left l.line-iterator)) ≡
    events_of l.members (lines_left l.fn.lines))
    × All (λ event. member_of event < l.members) l.events.items
