use Rattle.std.proofs.Common.{vec_capacity}
use Rattle.stack_shapes.specs.Lists.{plan_tree}
use Rattle.stack_shapes.specs.Trees.{plans_tree}
use Rattle.packet_short.specs.Fits.{fits_headers}
use Rattle.packet_short.proofs.Keeping.{kept_first, room_first}
use Rattle.packet_short.proofs.Least.{at_first, no_first}
use Rattle.packet_short.proofs.fit.fits_first.Goals as goal

pub is_fitting-requires : goal.is_fitting-requires
is_fitting-requires c =
    room_first (vec_capacity c.args.into.now) (plans_tree c.args.plans.now) (plan_tree c.in-Some.plan.now)
    c.requires.room c.in-Some.ensures

pub returns-in-Some-clause-fits : goal.returns-in-Some-clause-fits
returns-in-Some-clause-fits c =
    at_first (plans_tree c.args.plans.now) (fits_headers c.args.kind c.args.headers.now) (plan_tree c.in-Some.plan.now)
    _ c.in-Some.ensures
    c.is_fitting.ensures.fits

pub returns-in-Some-clause-fields : goal.returns-in-Some-clause-fields
returns-in-Some-clause-fields c =
    kept_first (plans_tree c.args.plans.now) (plan_tree c.in-Some.plan.now) c.is_fitting.result _ _
    c.in-Some.ensures
    c.is_fitting.ensures.fields

pub returns-in-None-clause-fits : goal.returns-in-None-clause-fits
returns-in-None-clause-fits c = no_first (plans_tree c.args.plans.now) (fits_headers c.args.kind c.args.headers.now)
    c.in-None.ensures
