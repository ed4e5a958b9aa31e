-- Inputs, and where members are after a step, as the definitions have them.
use Rattle.std.specs.Prelude.{Option, option_map}
use Rattle.run_mean.specs.Member as member
use Rattle.run_mean.specs.Member.{Member, inside, out}
use Rattle.view_core.specs.declared.step.Change.{Change}
use Rattle.view_core.specs.declared.step.Change.TheVariants.{Into, Out}
use Rattle.view_core.specs.declared.step.Input.{Input}
use Rattle.view_core.specs.declared.step.Input.TheVariants.{Cast, Send, Leave, Tick, Datagram}

abbrev pub input_meant : Input → member.Input
input_meant (Cast body) = member.cast body.now
input_meant (Send to body) = member.send to body.now
input_meant Leave = member.leave
input_meant (Tick moment) = member.tick moment
input_meant (Datagram bytes) = member.datagram bytes.now

-- Where a member is.
abbrev pub change_to : Member → Change
change_to (inside view states) = Into view
change_to out = Out

-- Where it is after a step that installed something.
abbrev pub installed_change : Option Member → Option Change
installed_change installs = option_map change_to installs
