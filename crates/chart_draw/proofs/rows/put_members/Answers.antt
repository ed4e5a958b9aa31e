use Rattle.chart_draw.proofs.Stays.{members_more}
use Rattle.chart_draw.proofs.rows.put_members.Goals as goal

pub loop-id-preserved : goal.loop-id-preserved
loop-id-preserved c =
    members_more c.args.view c.loop-id.id c.args.text.now _ _ c.loop-id.invariant c.in_ok-put_member.ensures
