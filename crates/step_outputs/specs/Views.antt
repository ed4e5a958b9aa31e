-- What is told of outputs.
use Rattle.std.specs.Prelude.{ℕ, Option, None}
use Rattle.layer_mean.specs.declared.run.Event.{Event}
use Rattle.packet_full.specs.Sent.{sent_packet}
use Rattle.packet_mean.specs.declared.here.Here.{Here}
use Rattle.run_mean.specs.Member as member
use Rattle.step_outputs.specs.declared.view.OutputView.{OutputView}
use Rattle.step_outputs.specs.declared.view.OutputView.TheVariants.{Cast, Send, Block, Announce, Timer, Packet, Nowhere}
use Rattle.step_outputs.specs.declared.view.OutputView.TheVariants.{Quiet}
use Rattle.step_outputs.specs.declared.view.Signal.{Signal}

-- The event that a signal is: it has no message.
abbrev pub signal_meant : Signal → Event
signal_meant s = record { kind = s.kind; peer = s.peer; a = s.a; b = s.b; message = None }

-- The output that is told, from a member that is here, with its plan.
abbrev pub output_meant : Here → OutputView → member.Output × Option ℕ
output_meant here (Cast peer body) = (member.deliver_cast peer body.now, None)
output_meant here (Send peer body) = (member.deliver_send peer body.now, None)
output_meant here (Block a) = (member.block a, None)
output_meant here (Announce ranks) = (member.announce ranks, None)
output_meant here (Timer moment) = (member.timer moment, None)
output_meant here (Packet p) = (member.packet (sent_packet here p.dest p.headers.now p.body.now), p.plan)
output_meant here (Nowhere plan) = (member.nowhere, plan)
output_meant here (Quiet dir signal) = (member.quiet dir (signal_meant signal), None)
