use Rattle.std.proofs.Common.{refl, sym}
use Rattle.family_world.proofs.Kept.{room_kept, told}
use Rattle.family_world.proofs.playground.takes.Goals as goal

pub play_one-requires-clause-members : goal.play_one-requires-clause-members
play_one-requires-clause-members c = sym c.in_ok-go_to.ensures.left.kept.count

pub play_one-requires-clause-out : goal.play_one-requires-clause-out
play_one-requires-clause-out c = room_kept c.args.acts.now _ c.in_ok-go_to.ensures.left.kept

pub returns : goal.returns
returns c =
    told c.args.acts.now c.args.play.now c.go_to.new.play _ c.args.past.now c.args.choice c.in_ok-taken.taken
    _ c.slice.ensures c.in_ok-go_to.ensures refl c.in_ok-taken.ensures.stays c.in_ok-taken.ensures.places
    c.in_ok-taken.ensures.fed
