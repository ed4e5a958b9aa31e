use Rattle.script_text.specs.Reading.{lines_left}
use Rattle.script_text.proofs.Plans.{PeersSoFar}
use Rattle.script_text.proofs.plan.peers.Given as goal

abbrev pub invariant-loop-member : goal.invariant-loop-member
invariant-loop-member l = PeersSoFar l.members l.member (lines_left l.fn.lines) (lines_left l.lines) l.peers.items
