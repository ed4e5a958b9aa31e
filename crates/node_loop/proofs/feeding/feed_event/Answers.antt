use Rattle.std.proofs.Common.{◌∙◌, refl, arith}
use Rattle.std.proofs.lemmas.Result.{err_from_is_err_and}
use Rattle.node_loop.specs.Course.{plans_in, stack_in}
use Rattle.node_loop.proofs.Fed.{first_is, happened, journal_cut, journal_none, journal_then, own_never_absent}
use Rattle.node_loop.proofs.Fed.{own_never_shown, own_sendable, rests_again}
use Rattle.node_loop.proofs.Passing.{breaks_first, line_stops}
use Rattle.node_loop.proofs.feeding.feed_event.Goals as goal

pub returns-in_err-write_journal-clause-fed : goal.returns-in_err-write_journal-clause-fed
returns-in_err-write_journal-clause-fed g c =
    let p = err_from_is_err_and c.from_residual.result c.from_residual.ensures.1 in
    rw (p.1, p.2) (λ mode n w r. breaks_first _ _ _ _ (line_stops _ _ _ _ _ c.in_err-write_journal.ensures) refl refl
    refl)

pub pass_stepped-requires : goal.pass_stepped-requires
pass_stepped-requires g c =
    let at = c.requires.up.rests.somewhere in
    let places = c.in_ok-stepped.ensures.places ∙ c.requires.up.rests.places in
    let light = rw (c.deref-in-Stepped.ensures, c.stack-in-Stepped.ensures) at
    c.law_accepted_is_light.ensures in
    let h = happened c.requires.up.mode (stack_in c.args.course) (plans_in c.args.course) c.requires.up.world
    c.args.event.now (g.F.Feed.group c.args.feed.now)
    (g.F.Feed.group c.feed.new.self) c.feed.new.out.outputs 0 c.feed.new.visits _ _ at.mode_is at.stack_is at.plans_are
    c.in-Stepped.is (c.in_ok-stepped.ensures.fed c.requires.up.world at.stands) in
    record {
      few = omega (arith, c.next_number-number.ensures.small, c.law_places_for_all.ensures, places, light);
      sendable = own_sendable _ _ _ _ _ c.requires.up.members _ _ _ _ _ _ (g.N.Links.listening c.args.links.now)
          (record {
            places = rw (c.deref.ensures, c.stack.ensures) at c.law_within_limits.ensures.places;
            fields =
                rw (c.deref.ensures, c.stack.ensures) at c.law_within_limits.ensures.fields;
          }) c.requires.up.typed
          c.requires.up.numbered c.law_given.ensures
          at.chained at.within h c.member_of.ensures c.requires.up.listen.0.1;
    }

pub returns-in_err-pass_stepped-in-Stepped-clause-fed : goal.returns-in_err-pass_stepped-in-Stepped-clause-fed
returns-in_err-pass_stepped-in-Stepped-clause-fed g c =
    let p = err_from_is_err_and c.from_residual-in_err-pass_stepped-in-Stepped.result
    c.from_residual-in_err-pass_stepped-in-Stepped.ensures.1 in
    rw (p.1, p.2) (λ mode n w r.
    let at = r.somewhere in
    let h = happened mode (stack_in c.args.course) (plans_in c.args.course) w c.args.event.now
    (g.F.Feed.group c.args.feed.now)
    (g.F.Feed.group c.feed.new.self) c.feed.new.out.outputs 0 c.feed.new.visits _ _ at.mode_is at.stack_is at.plans_are
    c.in-Stepped.is (c.in_ok-stepped.ensures.fed w at.stands) in
    journal_cut _ _ _ w _ _ _ _ _ _ _ _ _ _ _ _ h c.member_of.ensures
    (first_is _ _ _ w (g.F.Feed.group c.args.feed.now) n _ at c.next_number-number.ensures.number)
    c.in_ok-write_journal.ensures refl refl refl
    c.in_err-pass_stepped-in-Stepped.ensures.handed)

pub returns-clause-fed : goal.returns-clause-fed
returns-clause-fed g c = λ mode n w r.
    let at = r.somewhere in
    let h = happened mode (stack_in c.args.course) (plans_in c.args.course) w c.args.event.now
    (g.F.Feed.group c.args.feed.now)
    (g.F.Feed.group c.feed.new.self) c.feed.new.out.outputs 0 c.feed.new.visits _ _ at.mode_is at.stack_is at.plans_are
    c.in-Stepped.is (c.in_ok-stepped.ensures.fed w at.stands) in
    record {
      rests = rests_again _ _ _ w _ n _ _ _ _ _ _ _ _ c.requires.up.typed c.requires.up.numbered c.law_given.ensures r
          c.in_ok-stepped.ensures.stays h
          c.in_ok-stepped.ensures.places;
      counted = refl;
      passed = journal_then _ _ _ w _ _ _ _ _ _ _ _ _ _ _ h c.member_of.ensures
          (first_is _ _ _ w (g.F.Feed.group c.args.feed.now) n _ at c.next_number-number.ensures.number)
          c.in_ok-write_journal.ensures refl refl refl
          c.in_ok-pass_stepped-in-Stepped.ensures.handed;
    }

pub unreachable-requires : goal.unreachable-requires
unreachable-requires g c =
    let at = c.requires.up.rests.somewhere in
    let h = happened c.requires.up.mode (stack_in c.args.course) (plans_in c.args.course) c.requires.up.world
    c.args.event.now (g.F.Feed.group c.args.feed.now)
    (g.F.Feed.group c.feed.new.self) c.feed.new.out.outputs 0 c.feed.new.visits _ _ at.mode_is at.stack_is at.plans_are
    c.in-Absent.is (c.in_ok-stepped.ensures.fed c.requires.up.world at.stands) in
    own_never_absent _ _ _ _ _ _ _ _ _ c.requires.own h

pub unreachable-requires-in-Shown : goal.unreachable-requires-in-Shown
unreachable-requires-in-Shown g c =
    let at = c.requires.up.rests.somewhere in
    let h = happened c.requires.up.mode (stack_in c.args.course) (plans_in c.args.course) c.requires.up.world
    c.args.event.now (g.F.Feed.group c.args.feed.now)
    (g.F.Feed.group c.feed.new.self) c.feed.new.out.outputs 0 c.feed.new.visits _ _ at.mode_is at.stack_is at.plans_are
    c.in-Shown.is (c.in_ok-stepped.ensures.fed c.requires.up.world at.stands) in
    own_never_shown _ _ _ _ _ _ _ _ _ c.requires.own h

pub returns-in_err-stepped-clause-fed : goal.returns-in_err-stepped-clause-fed
returns-in_err-stepped-clause-fed g c =
    let p = err_from_is_err_and c.from_residual-in_err-stepped.result c.from_residual-in_err-stepped.ensures.1 in
    rw (p.1, p.2) (λ mode n w r. journal_none mode _ _ w _ _ _ c.in_ok-write_journal.ensures refl refl refl)
