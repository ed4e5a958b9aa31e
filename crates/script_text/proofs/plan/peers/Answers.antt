use Rattle.std.proofs.lemmas.Result.{err_from_is_err_and}
use Rattle.script_mean.specs.Event.{said_by}
use Rattle.script_mean.specs.PlanLine.{peer_line}
use Rattle.script_mean.specs.Script.{in_form}
use Rattle.script_text.specs.Plan.{first_peers}
use Rattle.script_text.specs.Reading.{lines_left, numbered_line}
use Rattle.script_text.proofs.Plans.{bad_peer, no_peers, one_more_peer, passed_on}
use Rattle.script_text.proofs.plan.peers.Goals as goal

pub loop-member-init : goal.loop-member-init
loop-member-init c = rw c.new-peers.ensures.items (no_peers c.args.members (lines_left c.args.lines.now))

pub loop-member-preserved : goal.loop-member-preserved
loop-member-preserved c =
    rw c.in_ok-push.ensures.items
    (one_more_peer c.args.members c.loop-member.member (lines_left c.args.lines.now) (lines_left c.loop-member.lines)
    (lines_left c.next.new.self) (numbered_line c.in-Some.line) c.loop-member.peers.items c.in_ok-peer_on.field-0
    c.loop-member-test.true c.loop-member.invariant c.in-Some.ensures.steps c.in_ok-peer_on.ensures)

pub returns-in_err-peer_on-clause-spelled : goal.returns-in_err-peer_on-clause-spelled
returns-in_err-peer_on-clause-spelled c =
    let p = err_from_is_err_and c.from_residual.result c.from_residual.ensures.1 in
    let line = numbered_line c.in-Some.line in
    let lines = lines_left c.args.lines.now in
    rw (p.1, p.2)
    (passed_on (in_form line.0 (said_by (peer_line c.loop-member.member) line.1))
    (first_peers c.args.members c.args.following lines) c.in_err-peer_on.field-0.0 c.in_err-peer_on.ensures
    (λ fault reads. bad_peer c.args.members c.args.following c.loop-member.member lines (lines_left c.loop-member.lines)
    (lines_left c.next.new.self) line c.loop-member.peers.items fault c.loop-member-test.true
    c.loop-member.invariant c.in-Some.ensures.steps reads))
