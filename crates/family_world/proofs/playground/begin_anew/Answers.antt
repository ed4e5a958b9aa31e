use Rattle.std.proofs.Common.{refl, sym, subst, true}
use Rattle.group_ground.specs.Grounds.{HasBegun}
use Rattle.family_world.proofs.Kept.{anew}
use Rattle.family_world.proofs.playground.begin_anew.Goals as goal

pub returns-in-Ok : goal.returns-in-Ok
returns-in-Ok c =
    let old = c.args.play.now in
    anew c.args.acts.now old
    (record { ground = c.begin.new.self; world = c.replace-old.new.dest; gear = old.gear; is_named = true })
    c.line_of.result c.requires.kept c.begin.ensures.kept refl
    c.line_of.ensures.group c.line_of.ensures.stamp c.line_of.ensures.members
    (subst (HasBegun old.ground c.line_of.result) (sym c.replace-old.ensures.after) c.in-Ok.ensures.begins)
