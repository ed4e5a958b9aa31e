use Rattle.std.proofs.Common.{◌<◌}
use Rattle.std.proofs.lemmas.List.Elements.{All-push}
use Rattle.script_mean.specs.Event.{member_of}
use Rattle.script_mean.specs.Script.{events_of}
use Rattle.script_text.specs.Reading.{lines_left, numbered_line}
use Rattle.script_text.proofs.Faults.{goes_on}
use Rattle.script_text.proofs.reading.events.Goals as goal

pub loop-line-preserved : goal.loop-line-preserved
loop-line-preserved c =
    let members = c.args.members in
    let events = c.loop-line.events.items in
    let event = c.in_ok-event_on.field-0 in
    let all = lines_left c.loop-line.line-iterator in
    rw c.in_ok-push.ensures.items (
      goes_on members events (numbered_line c.in-Some.line) event all (lines_left c.next.new.self)
          (events_of members (lines_left c.args.lines)) c.in-Some.ensures.steps c.in_ok-event_on.ensures.said
          c.loop-line.invariant.0,
      All-push (λ event. member_of event < members) events event c.loop-line.invariant.1
          c.in_ok-event_on.ensures.of_member,
    )
