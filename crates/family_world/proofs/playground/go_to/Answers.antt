use Rattle.std.proofs.Common.{refl, sym}
use Rattle.family_world.proofs.Kept.{room_kept, went}
use Rattle.family_world.proofs.playground.go_to.Goals as goal

pub play_all-requires-clause-members : goal.play_all-requires-clause-members
play_all-requires-clause-members c = sym c.in_ok-begin.ensures.left.kept.count

pub play_all-requires-clause-out : goal.play_all-requires-clause-out
play_all-requires-clause-out c = room_kept c.args.acts.now _ c.in_ok-begin.ensures.left.kept

pub returns : goal.returns
returns c =
    went c.args.acts.now c.args.play.now c.begin.new.play _ c.args.past.now tt _ c.slice.ensures c.in_ok-begin.ensures
    refl
    c.in_ok-play_all.ensures.stays c.in_ok-play_all.ensures.places c.in_ok-play_all.ensures.played
