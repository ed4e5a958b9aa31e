use Rattle.std.proofs.Common.{Ok, Err, ap₂, take, refl, rules}
use Rattle.std.proofs.lemmas.Result.{err_from_is_err_and}
use Rattle.node_loop.specs.Course.{FedOn, plans_in, stack_in}
use Rattle.node_loop.specs.Around.{around}
use Rattle.std_alloc.proofs.VecSteps.Gaps.{with_items_is}
use Rattle.std_alloc.specs.Vec.{with_items}
use Rattle.script_mean.specs.declared.event.ScriptEvent.TheVariants.{Raw}
use Rattle.node_loop.proofs.Asking.{again_on, came, failed, met_broke, met_came, met_quiet, quiet, wanted}
use Rattle.node_loop.proofs.turns.ask.Goals as goal

pub returns-in_err-feed_datagram-in-Ok-Some-clause-told : goal.returns-in_err-feed_datagram-in-Ok-Some-clause-told
returns-in_err-feed_datagram-in-Ok-Some-clause-told g c =
    let told : FedOn (stack_in c.args.course) (plans_in c.args.course)
    (Raw c.args.id (take _ (with_items c.args.desk.now.room c.recv.new.into).items))
    (g.F.Feed.group c.args.feed.now) (g.F.Feed.group c.feed_datagram.new.feed)
    (record c.args.desk.now { room = with_items c.args.desk.now.room c.recv.new.into; room_size = _ })
    c.feed_datagram.new.desk
    (around g.O.Sink g.N.Links c.args.out.now c.recv.new.self)
    (around g.O.Sink g.N.Links c.feed_datagram.new.out c.feed_datagram.new.links)
    (Err c.in_err-feed_datagram-in-Ok-Some.field-0.0) = c.in_err-feed_datagram-in-Ok-Some.ensures.told in
    let p = err_from_is_err_and c.from_residual.result c.from_residual.ensures.1 in
    rw (p.1, p.2) (came (stack_in c.args.course) (plans_in c.args.course) c.args.id c.args.patience.now
    (g.F.Feed.group c.args.feed.now) c.args.desk.now _
    (take c.in-Ok-Some.count c.recv.new.into) _ (g.F.Feed.group c.feed_datagram.new.feed) _
    c.feed_datagram.new.desk _ _ (Err c.in_err-feed_datagram-in-Ok-Some.field-0.0)
    (record { outputs = refl; events = refl })
    (met_came c.args.id c.recv.new.into _ _ refl c.recv.ensures.sends c.in-Ok-Some.count c.in-Ok-Some.field-0
    c.in-Ok-Some.field-0-is
    c.in-Ok-Some.ensures.counted c.in-Ok-Some.ensures.told)
    (ap₂ take c.in-Ok-Some.count-is (with_items_is c.args.desk.now.room c.recv.new.into (search rules)))
    told)

pub returns-in_ok-feed_datagram-in-Ok-Some-clause-told : goal.returns-in_ok-feed_datagram-in-Ok-Some-clause-told
returns-in_ok-feed_datagram-in-Ok-Some-clause-told g c =
    let told : FedOn (stack_in c.args.course) (plans_in c.args.course)
    (Raw c.args.id (take _ (with_items c.args.desk.now.room c.recv.new.into).items))
    (g.F.Feed.group c.args.feed.now) (g.F.Feed.group c.feed_datagram.new.feed)
    (record c.args.desk.now { room = with_items c.args.desk.now.room c.recv.new.into; room_size = _ })
    c.feed_datagram.new.desk
    (around g.O.Sink g.N.Links c.args.out.now c.recv.new.self)
    (around g.O.Sink g.N.Links c.feed_datagram.new.out c.feed_datagram.new.links)
    (Ok tt) = c.in_ok-feed_datagram-in-Ok-Some.ensures.told in
    came (stack_in c.args.course) (plans_in c.args.course) c.args.id c.args.patience.now
    (g.F.Feed.group c.args.feed.now) c.args.desk.now _
    (take c.in-Ok-Some.count c.recv.new.into) _ (g.F.Feed.group c.feed_datagram.new.feed) _
    c.feed_datagram.new.desk _ _ (Ok tt)
    (record { outputs = refl; events = refl })
    (met_came c.args.id c.recv.new.into _ _ refl c.recv.ensures.sends c.in-Ok-Some.count c.in-Ok-Some.field-0
    c.in-Ok-Some.field-0-is
    c.in-Ok-Some.ensures.counted c.in-Ok-Some.ensures.told)
    (ap₂ take c.in-Ok-Some.count-is (with_items_is c.args.desk.now.room c.recv.new.into (search rules)))
    told

pub returns-in_ok-feed_datagram-in-Ok-Some-clause-rests : goal.returns-in_ok-feed_datagram-in-Ok-Some-clause-rests
returns-in_ok-feed_datagram-in-Ok-Some-clause-rests g c =
    again_on (stack_in c.args.course) (plans_in c.args.course) _ _ _ _ _ (record { outputs = refl; events = refl })
    c.in_ok-feed_datagram-in-Ok-Some.ensures.rests

pub returns-in-Ok-None-clause-told : goal.returns-in-Ok-None-clause-told
returns-in-Ok-None-clause-told g c =
    quiet (stack_in c.args.course) (plans_in c.args.course) c.args.id c.args.patience.now _ _ _ _ _
    (record { outputs = refl; events = refl })
    (met_quiet c.args.id c.recv.new.into _ _ refl c.recv.ensures.sends c.in-Ok-None.field-0 c.in-Ok-None.field-0-is
    c.in-Ok-None.ensures.counted
    c.in-Ok-None.ensures.told)

pub returns-in-Err-Failed-clause-told : goal.returns-in-Err-Failed-clause-told
returns-in-Err-Failed-clause-told g c =
    failed (stack_in c.args.course) (plans_in c.args.course) c.args.id _ _ _ _
    (around g.O.Sink g.N.Links c.args.out.now c.recv.new.self) _
    (record { outputs = refl; events = refl })
    (met_broke c.args.id c.recv.new.into _ _ refl c.recv.ensures.sends c.in-Err-Failed.field-0
    c.in-Err-Failed.field-0-is c.in-Err-Failed.ensures.counted
    c.in-Err-Failed.ensures.told)
    refl refl refl c.args.patience.now c.bear.new.patience c.bear.result c.bear.ensures

pub returns-in-Err-Memory-clause-told : goal.returns-in-Err-Memory-clause-told
returns-in-Err-Memory-clause-told g c =
    wanted (stack_in c.args.course) (plans_in c.args.course) c.args.id c.args.patience.now _ _ _ c.recv.new.into
    c.args.desk.now _ c.in-Err-Memory.field-0 c.in-Err-Memory.field-0-is
    refl c.in-Err-Memory.ensures.counted c.recv.ensures.sends c.in-Err-Memory.ensures.told
