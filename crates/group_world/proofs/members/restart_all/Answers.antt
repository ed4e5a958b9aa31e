use Rattle.std.proofs.Common.{◌≡◌, ◌<◌, ◌≤◌, length, arith, add-one, subst}
use Rattle.group_member.specs.Restarting.{Restarts}
use Rattle.group_world.proofs.Restarting.{again_next, seats_left, all_again, none_again}
use Rattle.group_world.proofs.members.restart_all.Goals as goal

pub loop-id-init : goal.loop-id-init
loop-id-init c = none_again _ _

pub loop-id-preserved : goal.loop-id-preserved
loop-id-preserved c =
    let within : c.loop-id.id < length c.args.members.now.items =
    omega (arith, c.loop-id-test.true, c.len-count.ensures) in
    rw add-one
    (again_next _ c.loop-id.id _ _ c.index_mut-member.result.now c.loop-id.invariant within
    c.index_mut-member.ensures.value _
    (subst (Restarts _ _ _) c.if-not-restart.false c.restart.ensures))

pub returns-then-not-restart : goal.returns-then-not-restart
returns-then-not-restart c =
    let within : c.loop-id.id < length c.args.members.now.items =
    omega (arith, c.loop-id-test.true, c.len-count.ensures) in
    seats_left _ c.loop-id.id _ _ c.index_mut-member.result.now c.loop-id.invariant within
    c.index_mut-member.ensures.value _
    (subst (Restarts _ _ _) c.if-not-restart.true c.restart.ensures)

pub returns : goal.returns
returns c =
    let past : length c.args.members.now.items ≤ c.loop-id.id =
    omega (arith, c.loop-id-test.false, c.len-count.ensures) in
    let same : c.len-count.result ≡ length c.args.members.now.items = omega (arith, c.len-count.ensures) in
    all_again _ _ c.loop-id.id _ _ c.loop-id.invariant past c.first_view-view.ensures same
