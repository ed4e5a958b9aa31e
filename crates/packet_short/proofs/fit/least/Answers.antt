use Rattle.std.proofs.Common.{sym, map, subst, List, [], Bool, ℕ, ◌∙◌, Some}
use Rattle.std.specs.Prelude.{flat_map}
use Rattle.std.specs.List.{AllByRecursion}
use Rattle.stack_mean.specs.Plan.{Plan}
use Rattle.stack_shapes.specs.Lists.{plan_tree}
use Rattle.stack_shapes.specs.Prints.{print_of}
use Rattle.stack_shapes.specs.Trees.{plans_tree}
use Rattle.packet_short.specs.Fits.{fits_headers}
use Rattle.packet_short.specs.Keeping.{HasAtMost, KeepsIf, kept_by}
use Rattle.packet_short.proofs.Keeping.{has_room, kept_of}
use Rattle.packet_short.proofs.Least.{Stands, begun, passed, found_least, found_none, least_first, printed, listed}
use Rattle.packet_short.proofs.fit.least.Goals as goal

pub returns-then-fits_first-clause-least : goal.returns-then-fits_first-clause-least
returns-then-fits_first-clause-least c =
    least_first (plans_tree c.args.plans.now) (fits_headers c.args.kind c.args.headers.now)
    (sym c.if-fits_first.true ∙ c.fits_first.ensures.fits)

pub returns-then-fits_first-clause-fields : goal.returns-then-fits_first-clause-fields
returns-then-fits_first-clause-fields c =
    subst (λ b. KeepsIf b (kept_by (plans_tree c.args.plans.now) (Some 0) (flat_map (λ h. h.fields) c.args.headers.now))
    c.fits_first.new.into.items)
    c.if-fits_first.true c.fits_first.ensures.fields

pub loop-next-init : goal.loop-next-init
loop-next-init c = record {
  stands =
      begun (plans_tree c.args.plans.now) (fits_headers c.args.kind c.args.headers.now) _ _
      (printed c.args.kind c.args.headers.now) (rw (← c.print_of.ensures) c.first-next.ensures);
  capacity = c.fits_first.ensures.capacity;
}

pub is_fitting-requires : goal.is_fitting-requires
is_fitting-requires c =
    let plans : List Plan = plans_tree c.args.plans.now in
    let fit : Plan → Bool = fits_headers c.args.kind c.args.headers.now in
    let print : ℕ = print_of c.args.kind (map (λ h. h.tag) c.args.headers.now) in
    let stands : Stands plans fit print _ =
    subst (λ o. Stands plans fit print o) c.in-Some.is c.loop-next.invariant.stands in
    has_room _ plans c.in-Some.number (plan_tree c.index-slice-from.result)
    (subst (λ most. AllByRecursion (HasAtMost most) plans) (sym c.loop-next.invariant.capacity) c.requires.room)
    stands.found.0
    (listed plans c.slice.result.now _ _ _ c.slice.ensures.plans c.from.ensures c.index-slice-from.is stands.found.0)

pub returns-then-is_fitting-clause-least : goal.returns-then-is_fitting-clause-least
returns-then-is_fitting-clause-least c =
    let plans : List Plan = plans_tree c.args.plans.now in
    let fit : Plan → Bool = fits_headers c.args.kind c.args.headers.now in
    let print : ℕ = print_of c.args.kind (map (λ h. h.tag) c.args.headers.now) in
    let stands : Stands plans fit print _ =
    subst (λ o. Stands plans fit print o) c.in-Some.is c.loop-next.invariant.stands in
    found_least plans fit print c.in-Some.number (plan_tree c.index-slice-from.result) stands
    (listed plans c.slice.result.now _ _ _ c.slice.ensures.plans c.from.ensures c.index-slice-from.is stands.found.0)
    (sym c.is_fitting.ensures.fits ∙ c.if-is_fitting.true)

pub returns-then-is_fitting-clause-fields : goal.returns-then-is_fitting-clause-fields
returns-then-is_fitting-clause-fields c =
    let plans : List Plan = plans_tree c.args.plans.now in
    let fit : Plan → Bool = fits_headers c.args.kind c.args.headers.now in
    let print : ℕ = print_of c.args.kind (map (λ h. h.tag) c.args.headers.now) in
    let stands : Stands plans fit print _ =
    subst (λ o. Stands plans fit print o) c.in-Some.is c.loop-next.invariant.stands in
    kept_of plans c.in-Some.number (plan_tree c.index-slice-from.result) c.is_fitting.result _ _ stands.found.0
    (listed plans c.slice.result.now _ _ _ c.slice.ensures.plans c.from.ensures c.index-slice-from.is stands.found.0)
    c.if-is_fitting.true c.is_fitting.ensures.fields

pub loop-next-preserved : goal.loop-next-preserved
loop-next-preserved c =
    let plans : List Plan = plans_tree c.args.plans.now in
    let fit : Plan → Bool = fits_headers c.args.kind c.args.headers.now in
    let print : ℕ = print_of c.args.kind (map (λ h. h.tag) c.args.headers.now) in
    let stands : Stands plans fit print _ =
    subst (λ o. Stands plans fit print o) c.in-Some.is c.loop-next.invariant.stands in
    record {
      stands =
          passed plans fit print c.in-Some.number (plan_tree c.index-slice-from.result) _
          (printed c.args.kind c.args.headers.now) stands
          (listed plans c.slice.result.now _ _ _ c.slice.ensures.plans c.from.ensures c.index-slice-from.is
          stands.found.0)
          (sym c.is_fitting.ensures.fits ∙ c.if-is_fitting.false) c.next-next.ensures;
      capacity = c.is_fitting.ensures.capacity ∙ c.loop-next.invariant.capacity;
    }

pub returns-clause-least : goal.returns-clause-least
returns-clause-least c =
    let plans : List Plan = plans_tree c.args.plans.now in
    let fit : Plan → Bool = fits_headers c.args.kind c.args.headers.now in
    let print : ℕ = print_of c.args.kind (map (λ h. h.tag) c.args.headers.now) in
    found_none plans fit print (record { kind = c.args.kind; tags = []; fields = [] })
    (subst (λ o. Stands plans fit print o) c.in_default.is c.loop-next.invariant.stands)
