use Rattle.std.proofs.Common.{List, Some, refl, sym, subst, arith}
use Rattle.std_alloc.specs.Vec.{with_items}
use Rattle.std_alloc.proofs.VecSteps.Gaps.{with_items_is}
use Rattle.live_layer.specs.declared.layer.FileLayer.{FileLayer}
use Rattle.code_make.specs.Trees.{code_tree}
use Rattle.code_tests.specs.Registers.{input_of}
use Rattle.code_run.specs.Performing.{CanPerform}
use Rattle.group_member.specs.Judged.{entry_meant}
use Rattle.group_member.specs.Working.{states_in}
use Rattle.group_member.proofs.Trying.{can_perform, handled_at, kept_nothing, performs_at, places_same, serves_on}
use Rattle.group_member.proofs.Trying.{tried}
use Rattle.group_member.proofs.commons.try_case.Goals as goal

pub perform-requires : goal.perform-requires
perform-requires c =
    let handled = handled_at c.args.case c.args.ground.now (states_in c.args.works.now)
    (entry_meant c.args.ground.now.here.now c.args._entry.now)
    c.args.tried.now (Some (code_tree c.in-Some.code.now)) c.requires.tried c.requires.handles c.in-Some.ensures in
    let room = c.requires.serves.each c.args.tried.now.entry c.args.case (code_tree c.in-Some.code.now)
    (sym c.in-Some.ensures) in
    subst (λ (layers : List FileLayer). CanPerform (code_tree c.in-Some.code.now) (input_of c.args.tried.now.given)
    c.args.works.now.pool layers
    c.args.values.now c.args.out.now) (sym c.as_mut_slice-layers.ensures.value)
    (can_perform c.args.case c.args.ground.now c.args.works.now
    (entry_meant c.args.ground.now.here.now c.args._entry.now)
    (code_tree c.in-Some.code.now) (input_of c.args.tried.now.given) c.requires.tried.given c.requires.ready handled
    c.args.out.now
    c.requires.begun c.args.values.now c.requires.is_in c.law_within_limits.ensures.places c.requires.tried.members
    c.requires.tried.body room
    c.requires.serves.empty)

pub returns-clause-tries : goal.returns-clause-tries
returns-clause-tries c =
    let handled = handled_at c.args.case c.args.ground.now (states_in c.args.works.now)
    (entry_meant c.args.ground.now.here.now c.args._entry.now)
    c.args.tried.now (Some (code_tree c.in-Some.code.now)) c.requires.tried c.requires.handles c.in-Some.ensures in
    tried c.args.case c.args.ground.now c.args.works.now (entry_meant c.args.ground.now.here.now c.args._entry.now)
    (code_tree c.in-Some.code.now) (input_of c.args.tried.now.given) c.requires.tried.given c.requires.ready handled
    c.args.out.now
    c.requires.begun c.args.values.now c.perform.new.values
    (record {
      layers = with_items c.args.works.now.layers c.perform.new.layers;
      pool = c.perform.new.pool;
      tasks = c.args.works.now.tasks;
      outs = c.args.works.now.outs;
    })
    c.perform.new.out refl refl c.perform.result
    (performs_at (code_tree c.in-Some.code.now) (input_of c.args.tried.now.given) c.args.works.now.pool
    c.args.values.now c.args.out.now
    c.perform.new.pool c.perform.new.values c.perform.new.out c.perform.result c.as_mut_slice-layers.result.now
    c.args.works.now.layers.items
    c.perform.new.layers (with_items c.args.works.now.layers c.perform.new.layers).items
    c.as_mut_slice-layers.ensures.value
    (sym (with_items_is c.args.works.now.layers c.perform.new.layers (omega (
      arith,
      c.perform.auto.layers,
      c.as_mut_slice-layers.ensures.len,
    )))) c.perform.ensures)

pub returns-clause-serves : goal.returns-clause-serves
returns-clause-serves c =
    let kept = kept_nothing (code_tree c.in-Some.code.now) (input_of c.args.tried.now.given) c.args.works.now.pool
    c.as_mut_slice-layers.result.now c.args.values.now c.args.out.now c.perform.new.pool c.perform.new.layers
    c.perform.new.values
    c.perform.new.out c.perform.result c.perform.ensures in
    serves_on c.args.tried.now.codes.now c.args.values.now c.perform.new.values c.requires.serves kept.0 kept.1

pub returns-clause-places : goal.returns-clause-places
returns-clause-places c = places_same (code_tree c.in-Some.code.now) (input_of c.args.tried.now.given)
    c.args.works.now.pool
    c.as_mut_slice-layers.result.now c.args.values.now c.args.out.now c.perform.new.pool c.perform.new.layers
    c.perform.new.values
    c.perform.new.out c.perform.result c.perform.ensures
