use Rattle.std.proofs.Common.{sym}
use Rattle.family_world.proofs.playground.sent_after.Goals as goal

pub returns : goal.returns
returns c = record {
  left = c.in_ok-go_to.ensures.left;
  sent_are = sym (c.sent.ensures _ c.in_ok-go_to.ensures.stands);
}
