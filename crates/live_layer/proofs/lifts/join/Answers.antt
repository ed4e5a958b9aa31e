use Rattle.std.proofs.Common.{◌≡◌, List, [], ◌∷◌, ◌++◌, rules, ap, ◌∙◌}
use Rattle.pool_message.specs.declared.message.PoolMessage.{PoolMessage}
use Rattle.live_layer.specs.Ready.{stock_of}
use Rattle.live_layer.proofs.Lists.{items_are}
use Rattle.live_layer.proofs.Ready.{two_covered, two_lie, joined_fits, gone_fits}
use Rattle.live_layer.proofs.lifts.join.Goals as goal

-- One after the other was taken off.
both_off : (hand mid rest : List PoolMessage) (first second : PoolMessage) → hand ≡ mid ++ second ∷ [] →
    mid ≡ rest ++ first ∷ [] →
    hand ≡ (rest ++ first ∷ []) ++ second ∷ []
both_off hand mid rest first second one two = one ∙ ap (λ ms. ms ++ second ∷ []) two

pub join-requires-clause-there : goal.join-requires-clause-there
join-requires-clause-there g c =
    two_covered g.K.Start.begun c.args.pool.now c.args.pool.now (stock_of c.args.desk.now) c.requires.pool
    c.requires.fits c.take_last-2.new.hand.items
    c.in-Some-take_last.first c.in-Some.second
    (both_off _ _ _ _ _ c.in-Some.ensures.some c.in-Some-take_last.ensures.some)

pub join-requires-clause-front : goal.join-requires-clause-front
join-requires-clause-front g c =
    (two_lie g.K.Start.begun c.args.pool.now c.args.pool.now (stock_of c.args.desk.now) c.requires.pool c.requires.fits
    c.take_last-2.new.hand.items
    c.in-Some-take_last.first c.in-Some.second
    (both_off _ _ _ _ _ c.in-Some.ensures.some c.in-Some-take_last.ensures.some)).0

pub join-requires-clause-back : goal.join-requires-clause-back
join-requires-clause-back g c =
    (two_lie g.K.Start.begun c.args.pool.now c.args.pool.now (stock_of c.args.desk.now) c.requires.pool c.requires.fits
    c.take_last-2.new.hand.items
    c.in-Some-take_last.first c.in-Some.second
    (both_off _ _ _ _ _ c.in-Some.ensures.some c.in-Some-take_last.ensures.some)).1

pub returns-in-Some-join-clause-ready : goal.returns-in-Some-join-clause-ready
returns-in-Some-join-clause-ready g c =
    let step = joined_fits g.K.Start.begun c.args.pool.now c.join.new.pool (stock_of c.args.desk.now) c.requires.pool
    c.requires.fits c.take_last-2.new.hand.items
    c.in-Some-take_last.first c.in-Some.second
    (both_off _ _ _ _ _ c.in-Some.ensures.some c.in-Some-take_last.ensures.some)
    c.in-Some-join.message c.push-in-Some-join.new.self.items (items_are _ _ _ c.push-in-Some-join.ensures)
    c.in-Some-join.ensures in
    record {
      pool = step.0;
      layout = search rules;
      fits = step.1;
      numbers = search rules;
      messages =
          search rules;
      forms = search rules;
      sent = search rules;
    }

pub returns-in-Some-join-clause-shown : goal.returns-in-Some-join-clause-shown
returns-in-Some-join-clause-shown g c =
    (joined_fits g.K.Start.begun c.args.pool.now c.join.new.pool (stock_of c.args.desk.now) c.requires.pool
    c.requires.fits c.take_last-2.new.hand.items
    c.in-Some-take_last.first c.in-Some.second
    (both_off _ _ _ _ _ c.in-Some.ensures.some c.in-Some-take_last.ensures.some)
    c.in-Some-join.message c.push-in-Some-join.new.self.items (items_are _ _ _ c.push-in-Some-join.ensures)
    c.in-Some-join.ensures).2

pub returns-in-None-clause-ready : goal.returns-in-None-clause-ready
returns-in-None-clause-ready g c =
    let step = gone_fits g.K.Start.begun c.args.pool.now c.join.new.pool (stock_of c.args.desk.now) c.requires.pool
    c.requires.fits c.take_last-2.new.hand.items
    c.in-Some-take_last.first c.in-Some.second
    (both_off _ _ _ _ _ c.in-Some.ensures.some c.in-Some-take_last.ensures.some)
    c.in-None.ensures.returned in
    record {
      pool = step.0;
      layout = search rules;
      fits = step.1;
      numbers = search rules;
      messages =
          search rules;
      forms = search rules;
      sent = search rules;
    }
