use Rattle.std.proofs.Common.{◌≡◌, ◌<◌, Some, length, refl, sym, subst}
use Rattle.std.specs.List.{AllByRecursion}
use Rattle.std.specs.Prelude.{Ok, Err}
use Rattle.std.proofs.lemmas.Result.{err_from_is_err_and}
use Rattle.packet_laws.specs.Strays.{AreNumbered}
use Rattle.member_laws.proofs.Numbered.{plans_are_numbered}
use Rattle.outside.specs.Tells.{tells_of}
use Rattle.node_loop.specs.Around.{around}
use Rattle.node_loop.specs.Course.{now, plans_in, stack_in}
use Rattle.node_loop.specs.Listening.{ListensAll}
use Rattle.node_loop.specs.Serve.{whereabouts}
use Rattle.node_loop.proofs.Ends.{all_served, made_first, not_all_listen, not_all_made, not_begun, reached, rests_first}
use Rattle.node_loop.proofs.Ends.{up_first}
use Rattle.node_loop.proofs.serving.serve.Goals as goal

pub returns-in_err-desk : goal.returns-in_err-desk
returns-in_err-desk g c =
    let p = err_from_is_err_and c.from_residual.result c.from_residual.ensures.1 in
    rw (p.1, p.2) (not_begun (stack_in c.args.course) c.args.course.plan.now c.args.course.me.now c.args.course.turns
    c.args.patience
    (g.F.Feed.group c.args.feed.now).mode c.law_stopped_goes_on.ensures
    (whereabouts (around g.O.Sink g.N.Links c.args.out.now c.args.links.now) (g.C.Clock.told c.args.clock.now)))

pub returns-in_err-asking : goal.returns-in_err-asking
returns-in_err-asking g c =
    let p = err_from_is_err_and c.from_residual-in_err-asking.result c.from_residual-in_err-asking.ensures.1 in
    rw (p.1, p.2) (not_begun (stack_in c.args.course) c.args.course.plan.now c.args.course.me.now c.args.course.turns
    c.args.patience
    (g.F.Feed.group c.args.feed.now).mode c.law_stopped_goes_on.ensures
    (whereabouts (around g.O.Sink g.N.Links c.args.out.now c.args.links.now) (g.C.Clock.told c.args.clock.now)))

pub listen_all-requires-clause-members : goal.listen_all-requires-clause-members
listen_all-requires-clause-members g c =
    subst (λ peers. AllByRecursion (λ id. id < length peers) c.args.course.me.now) (sym c.slice.ensures)
    c.requires.members

pub returns-in_err-listen_all : goal.returns-in_err-listen_all
returns-in_err-listen_all g c =
    let p = err_from_is_err_and c.from_residual-in_err-listen_all.result c.from_residual-in_err-listen_all.ensures.1 in
    let links = c.args.links.now in
    let listening = c.listen_all.new.links in
    rw (p.1, p.2) (not_all_listen (stack_in c.args.course) c.args.course.plan.now c.args.course.me.now
    c.args.course.turns c.args.patience
    (g.F.Feed.group c.args.feed.now).mode c.law_stopped_goes_on.ensures (tells_of g.O.Sink c.args.out.now)
    (g.C.Clock.told c.args.clock.now) (g.N.Links.faults links) (g.N.Links.faults listening)
    (g.N.Links.send_faults links) (g.N.Links.send_faults listening)
    (g.N.Links.told links) (g.N.Links.told listening) c.in_err-listen_all.field-0.0
    (subst (λ peers. ListensAll peers c.args.course.me.now (g.N.Links.faults links) (g.N.Links.faults listening)
    (g.N.Links.told links)
    (g.N.Links.told listening) (Err c.in_err-listen_all.field-0.0)) c.slice.ensures c.in_err-listen_all.ensures.told)
    c.in_err-listen_all.ensures.sends)

pub make_turns-requires-clause-up : goal.make_turns-requires-clause-up
make_turns-requires-clause-up g c =
    let stack = stack_in c.args.course in
    let plan = c.args.course.plan.now in
    let me = c.args.course.me.now in
    let turns = c.args.course.turns in
    let patience = c.args.patience in
    let plans = plans_in c.args.course in
    let group = g.F.Feed.group c.args.feed.now in
    let mode = group.mode in
    let desk = c.in_ok-desk.desk in
    up_first stack plan me turns patience mode plans group desk (g.N.Links.listening c.listen_all.new.links)
    c.requires.typed
    (subst AreNumbered (sym c.requires.plans) (plans_are_numbered stack c.requires.typed))
    (rests_first stack plan me turns patience mode plans group desk c.requires.typed c.law_number_fits.ensures
    c.law_number_fits-2.ensures c.requires.few_peers
    refl c.requires.stack c.requires.group_plans c.requires.group
    (rw (c.deref.ensures, c.stack.ensures) at c.in_ok-desk.ensures.places)) c.requires.members
    (subst (λ peers. AllByRecursion (λ id. g.N.Links.listening c.listen_all.new.links id ≡ Some (length peers)) me)
    c.slice.ensures
    c.in_ok-listen_all.ensures.listening)

pub returns-in_err-make_turns : goal.returns-in_err-make_turns
returns-in_err-make_turns g c =
    let stack = stack_in c.args.course in
    let plan = c.args.course.plan.now in
    let me = c.args.course.me.now in
    let turns = c.args.course.turns in
    let patience = c.args.patience in
    let plans = plans_in c.args.course in
    let group = g.F.Feed.group c.args.feed.now in
    let mode = group.mode in
    let desk = c.in_ok-desk.desk in
    let out = c.args.out.now in
    let links = c.args.links.now in
    let listening = c.listen_all.new.links in
    let before = around g.O.Sink g.N.Links out links in
    let from = around g.O.Sink g.N.Links out listening in
    let clock = g.C.Clock.told c.args.clock.now in
    let on = c.make_turns.new in
    let at = now (g.F.Feed.group on.feed) on.desk
    (around g.O.Sink g.N.Links on.out on.links) (g.C.Clock.told on.clock) in
    let p = err_from_is_err_and c.from_residual-in_err-make_turns.result c.from_residual-in_err-make_turns.ensures.1 in
    rw (p.1, p.2) (not_all_made stack plan me turns patience mode c.law_stopped_goes_on.ensures
    (whereabouts before clock)
    from
    (reached before.output plan.peers me (g.N.Links.faults links) (g.N.Links.faults listening)
    (g.N.Links.send_faults links) (g.N.Links.send_faults listening)
    (g.N.Links.told links) (g.N.Links.told listening)
    (subst (λ peers. ListensAll peers me (g.N.Links.faults links) (g.N.Links.faults listening) (g.N.Links.told links)
    (g.N.Links.told listening) (Ok tt)) c.slice.ensures c.in_ok-listen_all.ensures.told)
    c.in_ok-listen_all.ensures.sends) at
    c.in_err-make_turns.field-0.0
    (made_first stack plan me turns patience mode plans group desk
    (rests_first stack plan me turns patience mode plans group desk c.requires.typed c.law_number_fits.ensures
    c.law_number_fits-2.ensures c.requires.few_peers
    refl c.requires.stack c.requires.group_plans c.requires.group
    (rw (c.deref.ensures, c.stack.ensures) at c.in_ok-desk.ensures.places)) c.in_ok-desk.ensures.none c.requires.plans
    from
    clock at
    (Err c.in_err-make_turns.field-0.0) c.in_err-make_turns.ensures.told))

pub returns-in_err-write_end : goal.returns-in_err-write_end
returns-in_err-write_end g c =
    let stack = stack_in c.args.course in
    let plan = c.args.course.plan.now in
    let me = c.args.course.me.now in
    let turns = c.args.course.turns in
    let patience = c.args.patience in
    let plans = plans_in c.args.course in
    let group = g.F.Feed.group c.args.feed.now in
    let mode = group.mode in
    let desk = c.in_ok-desk.desk in
    let out = c.args.out.now in
    let links = c.args.links.now in
    let listening = c.listen_all.new.links in
    let before = around g.O.Sink g.N.Links out links in
    let from = around g.O.Sink g.N.Links out listening in
    let clock = g.C.Clock.told c.args.clock.now in
    let on = c.make_turns.new in
    let at = now (g.F.Feed.group on.feed) on.desk
    (around g.O.Sink g.N.Links on.out on.links) (g.C.Clock.told on.clock) in
    let last = tells_of g.O.Sink c.write_end.new.out in
    let p = err_from_is_err_and c.from_residual-in_err-write_end.result c.from_residual-in_err-write_end.ensures.1 in
    rw (p.1, p.2) (all_served stack plan me turns patience mode c.law_stopped_goes_on.ensures (whereabouts before clock)
    from
    (reached before.output plan.peers me (g.N.Links.faults links) (g.N.Links.faults listening)
    (g.N.Links.send_faults links) (g.N.Links.send_faults listening)
    (g.N.Links.told links) (g.N.Links.told listening)
    (subst (λ peers. ListensAll peers me (g.N.Links.faults links) (g.N.Links.faults listening) (g.N.Links.told links)
    (g.N.Links.told listening) (Ok tt)) c.slice.ensures c.in_ok-listen_all.ensures.told)
    c.in_ok-listen_all.ensures.sends) at
    (made_first stack plan me turns patience mode plans group desk
    (rests_first stack plan me turns patience mode plans group desk c.requires.typed c.law_number_fits.ensures
    c.law_number_fits-2.ensures c.requires.few_peers
    refl c.requires.stack c.requires.group_plans c.requires.group
    (rw (c.deref.ensures, c.stack.ensures) at c.in_ok-desk.ensures.places)) c.in_ok-desk.ensures.none c.requires.plans
    from
    clock at (Ok tt)
    c.in_ok-make_turns.ensures.told)
    last (Err c.in_err-write_end.field-0.0) c.in_err-write_end.ensures)

pub returns : goal.returns
returns g c =
    let stack = stack_in c.args.course in
    let plan = c.args.course.plan.now in
    let me = c.args.course.me.now in
    let turns = c.args.course.turns in
    let patience = c.args.patience in
    let plans = plans_in c.args.course in
    let group = g.F.Feed.group c.args.feed.now in
    let mode = group.mode in
    let desk = c.in_ok-desk.desk in
    let out = c.args.out.now in
    let links = c.args.links.now in
    let listening = c.listen_all.new.links in
    let before = around g.O.Sink g.N.Links out links in
    let from = around g.O.Sink g.N.Links out listening in
    let clock = g.C.Clock.told c.args.clock.now in
    let on = c.make_turns.new in
    let at = now (g.F.Feed.group on.feed) on.desk
    (around g.O.Sink g.N.Links on.out on.links) (g.C.Clock.told on.clock) in
    let last = tells_of g.O.Sink c.write_end.new.out in
    all_served stack plan me turns patience mode c.law_stopped_goes_on.ensures (whereabouts before clock) from
    (reached before.output plan.peers me (g.N.Links.faults links) (g.N.Links.faults listening)
    (g.N.Links.send_faults links) (g.N.Links.send_faults listening)
    (g.N.Links.told links) (g.N.Links.told listening)
    (subst (λ peers. ListensAll peers me (g.N.Links.faults links) (g.N.Links.faults listening) (g.N.Links.told links)
    (g.N.Links.told listening) (Ok tt)) c.slice.ensures c.in_ok-listen_all.ensures.told)
    c.in_ok-listen_all.ensures.sends) at
    (made_first stack plan me turns patience mode plans group desk
    (rests_first stack plan me turns patience mode plans group desk c.requires.typed c.law_number_fits.ensures
    c.law_number_fits-2.ensures c.requires.few_peers
    refl c.requires.stack c.requires.group_plans c.requires.group
    (rw (c.deref.ensures, c.stack.ensures) at c.in_ok-desk.ensures.places)) c.in_ok-desk.ensures.none c.requires.plans
    from
    clock at (Ok tt)
    c.in_ok-make_turns.ensures.told)
    last (Ok tt) c.in_ok-write_end.ensures
