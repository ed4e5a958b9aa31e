use Rattle.std.proofs.Common.{arith}
use Rattle.std.proofs.lemmas.Result.{err_from_is_err_and}
use Rattle.node_loop.specs.Around.{around}
use Rattle.node_loop.specs.Course.{course_of, now, plans_in, stack_in}
use Rattle.node_loop.proofs.AllTurns.{turn_not, turn_so, turns_made}
use Rattle.node_loop.proofs.serving.make_turns.Goals as goal

pub returns-in_err-turn-clause-told : goal.returns-in_err-turn-clause-told
returns-in_err-turn-clause-told g c =
    let stack = stack_in c.args.course in
    let plans = plans_in c.args.course in
    let course = course_of c.args.course in
    let start = now (g.F.Feed.group c.args.feed.now) c.args.desk.now
    (around g.O.Sink g.N.Links c.args.out.now c.args.links.now) (g.C.Clock.told c.args.clock.now) in
    let at = now (g.F.Feed.group c.loop-t.feed) c.loop-t.desk
    (around g.O.Sink g.N.Links c.loop-t.out c.loop-t.links) (g.C.Clock.told c.loop-t.clock) in
    let on = c.turn.new in
    let following = now (g.F.Feed.group on.feed) on.desk
    (around g.O.Sink g.N.Links on.out on.links) (g.C.Clock.told on.clock) in
    let p = err_from_is_err_and c.from_residual.result c.from_residual.ensures.1 in
    rw (p.1, p.2) (turn_not stack plans course c.args.patience start (g.N.Links.listening c.args.links.now) c.loop-t.t
    c.loop-t.progress on.progress at following
    (g.N.Links.listening c.loop-t.links) (g.N.Links.listening on.links) c.loop-t.invariant c.in_err-turn.field-0.0
    c.loop-t-test.true
    c.in_err-turn.ensures.told)

pub loop-t-preserved : goal.loop-t-preserved
loop-t-preserved g c =
    let stack = stack_in c.args.course in
    let plans = plans_in c.args.course in
    let course = course_of c.args.course in
    let start = now (g.F.Feed.group c.args.feed.now) c.args.desk.now
    (around g.O.Sink g.N.Links c.args.out.now c.args.links.now) (g.C.Clock.told c.args.clock.now) in
    let at = now (g.F.Feed.group c.loop-t.feed) c.loop-t.desk
    (around g.O.Sink g.N.Links c.loop-t.out c.loop-t.links) (g.C.Clock.told c.loop-t.clock) in
    let on = c.turn.new in
    let following = now (g.F.Feed.group on.feed) on.desk
    (around g.O.Sink g.N.Links on.out on.links) (g.C.Clock.told on.clock) in
    turn_so stack plans course c.args.patience start (g.N.Links.listening c.args.links.now) c.loop-t.t c.loop-t.progress
    on.progress at following
    (g.N.Links.listening c.loop-t.links) (g.N.Links.listening on.links) c.loop-t.invariant c.in_ok-turn.ensures.told
    c.in_ok-turn.ensures.rests
    c.in_ok-turn.ensures.passed c.in_ok-turn.ensures.due c.in_ok-turn.ensures.within
    c.in_ok-turn.ensures.few c.in_ok-turn.ensures.listening

pub returns-clause-told : goal.returns-clause-told
returns-clause-told g c =
    let stack = stack_in c.args.course in
    let plans = plans_in c.args.course in
    let course = course_of c.args.course in
    let start = now (g.F.Feed.group c.args.feed.now) c.args.desk.now
    (around g.O.Sink g.N.Links c.args.out.now c.args.links.now) (g.C.Clock.told c.args.clock.now) in
    let at = now (g.F.Feed.group c.loop-t.feed) c.loop-t.desk
    (around g.O.Sink g.N.Links c.loop-t.out c.loop-t.links) (g.C.Clock.told c.loop-t.clock) in
    turns_made stack plans course c.args.patience start (g.N.Links.listening c.args.links.now) c.loop-t.t
    c.loop-t.progress at
    (g.N.Links.listening c.loop-t.links) (omega (arith, c.loop-t-test.false, c.loop-t.auto.t-end)) c.loop-t.invariant
