use Rattle.std.proofs.Common.{arith}
use Rattle.group_member.proofs.Restarting.{again_is, restarted}
use Rattle.group_member.proofs.member.Member.restart.Goals as goal

pub invariant_of-self : goal.invariant_of-self
invariant_of-self c = again_is c.self.inside c.deref.result.now c.args.view c.restart_works.new.works
    c.rank_in-self-inside.result c.member_count-self-inside.result c.self.invariant c.deref.ensures
    (record { ltime = omega arith; mask = omega arith }) c.if-restart_works.ensures
    (c.rank_in-self-inside.ensures.rank, c.rank_in-self-inside.ensures.few)
    (c.member_count-self-inside.ensures.count, c.member_count-self-inside.ensures.few)

pub returns-then-restart_works : goal.returns-then-restart_works
returns-then-restart_works c = restarted c.self.inside c.deref.result.now c.args.view c.restart_works.new.works
    c.rank_in-self-inside.result c.member_count-self-inside.result _
    c.self.view_is c.deref.ensures c.if-restart_works.ensures
