use Rattle.std.proofs.Common.{◌≡◌, length, refl, ap, arith}
use Rattle.step_outputs.specs.Gathered.{Gathered}
use Rattle.group_member.specs.Working.{refs_in}
use Rattle.group_member.proofs.Playing.{has_place, has_slot, can_run, ended_so, all_bring, all_few, played}
use Rattle.group_member.proofs.Pools.{covers_back}
use Rattle.group_member.proofs.steps.play.Goals as goal

pub enter-requires-clause-room : goal.enter-requires-clause-room
enter-requires-clause-room c = has_slot _ _ c.args.ground.now.id c.args.ground.now.here.now.view c.args.works.now
    c.requires.ready c.requires.is_in

pub enter-requires-clause-places : goal.enter-requires-clause-places
enter-requires-clause-places c = has_place _ _ c.args.ground.now.id c.args.ground.now.here.now _ c.requires.ground.here
    c.requires.entered c.args.works.now c.requires.ready

pub run_layers-predicted-requires-clause-can : goal.run_layers-predicted-requires-clause-can
run_layers-predicted-requires-clause-can c =
    can_run _ _ c.args.ground.now.id c.args.ground.now.here.now _ c.requires.ground.here c.requires.entered
    c.args.works.now _ _ c.requires.ready c.requires.is_in
    c.enter.ensures.brings _ c.enter.ensures.only

pub gather-requires-clause-covers : goal.gather-requires-clause-covers
gather-requires-clause-covers c = covers_back _ (refs_in c.run_layers-predicted.new.works) _
    c.run_layers-predicted.ensures.exact

pub gather-requires-clause-bring : goal.gather-requires-clause-bring
gather-requires-clause-bring c = all_bring c.args.ground.now c.args.works.now _ _ _ _ _ _ _ c.requires.ground
    c.requires.ready c.requires.is_in
    c.requires.entered
    c.enter.ensures.brings _ c.enter.ensures.only c.run_layers-predicted.ensures

pub gather-requires-clause-room : goal.gather-requires-clause-room
gather-requires-clause-room c =
    let few = all_few c.args.ground.now c.args.works.now _ _ _ _ _ _ _ c.requires.ground c.requires.ready
    c.requires.is_in c.requires.entered
    c.enter.ensures.brings _ c.enter.ensures.only c.run_layers-predicted.ensures c.law_accepted.ensures in
    let none : length c.begin.new.self.outputs ≡ 0 = ap (λ (o : Gathered). length o.outputs) c.begin.ensures in
    let places : c.begin.new.self.places ≡ c.args.out.now.places = ap (λ (o : Gathered). o.places) c.begin.ensures in
    omega (arith, few, none, places, c.requires.out)

pub returns-clause-played : goal.returns-clause-played
returns-clause-played c =
    played c.args.ground.now c.args.works.now _ _ _ _ _ c.run_layers-predicted.new.works _ _ _ c.begin.new.self _
    c.requires.ready c.requires.is_in
    c.enter.ensures.brings c.enter.ensures.only c.run_layers-predicted.ensures
    (ended_so c.args.ground.now c.args.works.now _ _ _ _ _ _ _ c.requires.ground c.requires.ready c.requires.is_in
    c.requires.entered
    c.enter.ensures.brings _ c.enter.ensures.only c.run_layers-predicted.ensures)
    c.gather.ensures.returned refl refl c.gather.ensures.empty (ap (λ (o : Gathered). o.outputs) c.begin.ensures)
    (ap (λ (o : Gathered). o.here) c.begin.ensures) c.gather.ensures.gathered
