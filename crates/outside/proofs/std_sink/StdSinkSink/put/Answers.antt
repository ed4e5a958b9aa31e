use Rattle.std.proofs.Common.{arith, take}
use Rattle.std.proofs.lemmas.Grind.{common_steps}
use Rattle.outside.specs.StdSink.{gathered_bytes}
use Rattle.outside.proofs.Gathered.{gathered_past}
use Rattle.outside.proofs.std_sink.StdSinkSink.put.Goals as goal
use Rattle.outside.proofs.std_sink.StdSinkSink.put.Goals.{else-not-has_room_for-via-then-not-has_room_for+else-not-hand_on}
use Rattle.outside.proofs.std_sink.StdSinkSink.put.Goals.{else-not-has_room_for-via-else-not-has_room_for}

-- what the stream took before it failed
pub returns-in-Err-clause-put : goal.returns-in-Err-clause-put
returns-in-Err-clause-put g c =
    elim c.else-not-has_room_for.branch [
      | else-not-has_room_for-via-then-not-has_room_for+else-not-hand_on w ↦
          rw w.self-is (
            c.in-Err.field-0,
            gathered_past (gathered_bytes (g.W.Write.contents c.args.self.now.stream) c.args.self.now.done
                c.args.self.now.held.items) (g.W.Write.contents w.hand_on.new.self.stream)
                (g.W.Write.contents c.write_through.new.stream) w.hand_on.new.self.done w.hand_on.new.self.held.items
                (take c.in-Err.field-0 c.args.bytes.now) w.if-not-hand_on.ensures.kept
                w.if-not-hand_on.ensures.emptied.0 w.if-not-hand_on.ensures.emptied.1
                (rw w.self-is at c.in-Err.ensures.0),
            tt,
          )
      | else-not-has_room_for-via-else-not-has_room_for w ↦ absurd (grind (arith, common_steps))
    ]
