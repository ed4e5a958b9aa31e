use Rattle.std.proofs.Common.{◌+◌, ◌<◌, sym, subst}
use Rattle.script_text.proofs.Made.{course_of, is_next, one_further}
use Rattle.script_text.specs.Course.{Course, IsNext}
use Rattle.script_text.proofs.generating.Generation.next.Goals as goal

pub invariant_of-self : goal.invariant_of-self
invariant_of-self c =
    let held = c.self.invariant in
    let old = c.self.inside.maker in
    let is = c.in-Ok.ensures in (
      one_further c.self.inside.seed c.self.inside.made old c.event.new.self c.in-Ok.event held.0 is.made is.raw
          is.members is.cursors is.within,
      held.1,
    )

pub returns-in-Ok : goal.returns-in-Ok
returns-in-Ok c =
    let seed = c.self.inside.seed in
    let events = c.self.inside.events in
    let k = c.self.inside.made in
    let is = c.in-Ok.ensures in
    let more : k < events = subst (λ (o : Course). o.made < o.workload.events) (sym c.self.view_is) c.requires.more in
    subst (λ o. IsNext o (course_of seed events (k + 1) c.event.new.self) c.in-Ok.event) c.self.view_is
    (is_next seed events k c.self.inside.maker c.event.new.self c.in-Ok.event c.self.invariant.0 more is.made
    is.of_member is.raw is.members)
