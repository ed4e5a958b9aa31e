use Rattle.std.proofs.Common.{◌∙◌, ap}
use Rattle.std.specs.Prelude.{Ok, [], option_to_list}
use Rattle.node_loop.proofs.Datagrams.{handles_to, ranked_receivers}
use Rattle.node_loop.proofs.Passing.{passes_none}
use Rattle.node_loop.proofs.sending.send_to_all_of.Goals as goal

pub returns-in-Some-clause-handed : goal.returns-in-Some-clause-handed
returns-in-Some-clause-handed g c =
    handles_to c.args.sending.number c.args.sending.from c.args.sending.bytes.now _ _ _ _ _
    (ranked_receivers c.args.sending.from c.args.view c.args.dest c.in-Rank.rank c.member_at.result c.in-Rank.is
    c.member_at.ensures
    ∙ ap option_to_list c.in-Some.is) c.send_to.ensures.handed

pub returns-in-None-clause-handed : goal.returns-in-None-clause-handed
returns-in-None-clause-handed g c =
    handles_to c.args.sending.number c.args.sending.from c.args.sending.bytes.now _ [] _ _ (Ok tt)
    (ranked_receivers c.args.sending.from c.args.view c.args.dest c.in-Rank.rank c.member_at.result c.in-Rank.is
    c.member_at.ensures
    ∙ ap option_to_list c.in-None.is) record { failed = []; passed = passes_none _ }
