-- What goes down out of a traced stack has headers that its layers declare, so plans have declared tags: their shapes
-- have the outputs of traces.
use Rattle.std.proofs.Common.{◌≡◌, ℕ, zero, suc, ◌+◌, ◌-◌, ◌≤◌, Bool, true, false, List, [], ◌∷◌, ◌++◌, map, length}
use Rattle.std.proofs.Common.{flat_map, Option, Some, None, refl, sym, subst, arith}
use Rattle.std.specs.Prelude.{if◌then◌else◌, ◌&&◌, nat_le, Result, Ok, Err}
use Rattle.std.proofs.lemmas.Bool.{leb-false}
use Rattle.std.proofs.lemmas.Grind.{flat_map-append}
use Rattle.std.specs.List.{AllByRecursion, filter}
use Rattle.layer_words.specs.declared.events.Dir.{Dir}
use Rattle.layer_words.specs.declared.events.Dir.TheVariants.{Up, Down}
use Rattle.layer_words.specs.declared.events.Kind.{Kind}
use Rattle.layer_words.specs.declared.events.Kind.TheVariants as kind
use Rattle.layer_mean.specs.declared.run.Case.{Case}
use Rattle.layer_mean.specs.declared.run.Case.TheVariants.{First, Second}
use Rattle.layer_mean.specs.Event.{carries}
use Rattle.layer_mean.specs.Tree.{LayerTree}
use Rattle.layer_mean.specs.Queue.{Task, tasks_of, is_place, layer_at}
use Rattle.stack_mean.specs.NoShape.{NoShape, drawn_from}
use Rattle.stack_mean.specs.Shape.{Known, ShapeOut, Shape, shape}
use Rattle.stack_mean.specs.Plans.{plans_limit, is_packet, plan_of, outs_of, groups, packets_of}
use Rattle.chain_laws.specs.Runs.{IsOnItsWay}
use Rattle.chain_laws.proofs.Lists.{each_append, each_map, each_take}
use Rattle.weight_laws.specs.Orderly.{IsOrderly}
use Rattle.trace_mean.specs.Trace.{Link, Chained, Operation, output}
use Rattle.trace_mean.specs.Fuse.{TracedEvent, Fused, traced_visit, trace_of}
use Rattle.trace_laws.specs.Shapes.{Outlet, tags_of_links, tags_of_message, shape_outlet, outlets_of, trace_outlets}
use Rattle.trace_laws.specs.Shapes.{told_by_shape, told_by_trace}
use Rattle.trace_laws.proofs.Shapes.{traces_stand_for_shapes}
use Rattle.trace_form_laws.specs.Entries.{AreDeclared, IsEntry}
use Rattle.trace_form_laws.specs.Plans.{PlanIsEntry, PlansAreEntries}
use Rattle.trace_form_laws.proofs.Turns.{IfMade, both_made, traced}
use Rattle.trace_form_laws.proofs.Links.{LinksFit}
use Rattle.trace_form_laws.proofs.Steps.{MessageFits}
use Rattle.trace_form_laws.proofs.Visits.{arrival}
use Rattle.trace_form_laws.proofs.Joins.{TaskFits, Sends, visit_sends, begins}
use Rattle.trace_form_laws.proofs.Counts.{FewVisit, visit_few}

abbrev TagsFit : List LayerTree → Dir → List ℕ → Type 0
TagsFit stack Up tags = Unit {0}
TagsFit stack Down tags = AreDeclared stack tags

abbrev OutletFits : List LayerTree → Outlet → Type 0
OutletFits stack o = TagsFit stack o.dir o.tags

links_declared : (layers : List LayerTree) (ls : List Link) → LinksFit layers ls → AreDeclared layers (tags_of_links ls)
links_declared layers [] h = tt
links_declared [] (l ∷ ls) h = absurd h
links_declared (layer ∷ above) (l ∷ ls) h = (h.0, links_declared above ls h.1)

message_declared : (stack : List LayerTree) (kind : Kind) (m : Option Chained) → MessageFits stack 0 kind m →
    AreDeclared stack (tags_of_message m)
message_declared stack kind None h = tt
message_declared stack kind (Some m) h = links_declared stack m.chain h.1

-- a task that goes down and is at no place is at the lower edge
lowest : (places at : ℕ) → is_place places at ≡ false → at ≤ places → at ≡ 0
lowest places zero off le = refl
lowest places (suc at) off le = absurd (over (nat_le 1 (suc at)) (nat_le (suc at) places) refl refl off) where
  over : (a b : Bool) → nat_le 1 (suc at) ≡ a → nat_le (suc at) places ≡ b → (a && b) ≡ false → ⊥
  over true true low high h = absurd (cc h)
  over true false low high h = omega (arith, leb-false (suc at) places high, le)
  over false b low high h = omega (arith, leb-false 1 (suc at) low)

task_out : (stack : List LayerTree) (t : Task TracedEvent) → TaskFits stack t → is_place (length stack) t.at ≡ false →
    TagsFit stack t.dir (tags_of_message t.event.message)
task_out stack t fits off = go t.dir t.at t.event.message fits.way fits.message off where
  go : (dir : Dir) (at : ℕ) (m : Option Chained) → IsOnItsWay stack dir at →
      MessageFits stack (arrival dir at) t.event.kind m →
      is_place (length stack) at ≡ false → TagsFit stack dir (tags_of_message m)
  go Up at m way h off = tt
  go Down at m way h off =
      message_declared stack t.event.kind m
      (subst (λ j. MessageFits stack j t.event.kind m) (lowest (length stack) at off way) h)

module _ (case : Case) (stack : List LayerTree) (orderly : IsOrderly stack) where
  record Good (f : Fused) (pending : List (Task TracedEvent)) : Type 0 where
    outlets : AllByRecursion (OutletFits stack) (trace_outlets f.made.operations)
    fit : AllByRecursion (TaskFits stack) pending

  output_keeps : (f : Fused) (t : Task TracedEvent) (rest : List (Task TracedEvent)) → is_place (length stack) t.at ≡
      false → Good f (t ∷ rest) →
      AllByRecursion (OutletFits stack)
      (trace_outlets (f.made.operations ++ output t.dir t.event.kind t.event.numbers t.event.message ∷ []))
  output_keeps f t rest off h =
      let o : Operation = output t.dir t.event.kind t.event.numbers t.event.message in
      subst (AllByRecursion (OutletFits stack)) (sym (flat_map-append outlets_of f.made.operations (o ∷ [])))
      (each_append (OutletFits stack) (trace_outlets f.made.operations) _ h.outlets (task_out stack t h.fit.0 off, tt))

  visit_keeps : (f : Fused) (t : Task TracedEvent) (rest : List (Task TracedEvent)) → is_place (length stack) t.at ≡
      true → Good f (t ∷ rest) →
      IfMade (λ v. Good (record { visits = f.visits + 1; made = v.made }) (rest ++ tasks_of t.at v.sent))
      (traced_visit case (layer_at stack t.at) (t.at - 1) f.made t.dir t.event)
  visit_keeps f t rest place h =
      both_made (Sends stack (λ n. 0) t rest _) (FewVisit f.made)
      (λ v. Good (record { visits = f.visits + 1; made = v.made }) (rest ++ tasks_of t.at v.sent)) _
      (visit_sends case stack (λ n. 0) f t rest orderly place h.fit)
      (visit_few f.made case (layer_at stack t.at) (t.at - 1) t.dir t.event)
      (λ v k few. record {
        outlets = subst (AllByRecursion (OutletFits stack)) (sym few.outlets) h.outlets;
        fit =
            k.fit;
      })

  trace_outs : (k : Known) (operations : List Operation) → IsEntry stack k → trace_of case stack k [] ≡ Ok operations →
      AllByRecursion (OutletFits stack) (trace_outlets operations)
  trace_outs k operations is made =
      let come = traced case stack (λ n f pending. Good f pending)
      (λ n f t rest off h. record { outlets = output_keeps f t rest off h; fit = h.fit.1 })
      (λ n f t rest place room h. visit_keeps f t rest place h) k [] operations
      (record { outlets = tt; fit = (begins stack k [] is, tt) }) made in
      subst (λ o. AllByRecursion (OutletFits stack) (trace_outlets o)) come.is come.so.outlets

  -- a shape has the outputs of its trace
  shape_outs : (k : Known) → IsEntry stack k →
      AllByRecursion (λ o. OutletFits stack (shape_outlet o)) (outs_of (shape stack k case))
  shape_outs k is = go (shape stack k case) (trace_of case stack k []) refl (traces_stand_for_shapes case stack k [])
    where
      each : (outs : List ShapeOut) → AllByRecursion (OutletFits stack) (map shape_outlet outs) →
          AllByRecursion (λ o. OutletFits stack (shape_outlet o)) outs
      each [] h = tt
      each (o ∷ outs) h = (h.0, each outs h.1)

      go : (r : Result Shape NoShape) (q : Result (List Operation) NoShape) → trace_of case stack k [] ≡ q →
          drawn_from (λ s. Ok (told_by_shape s)) r ≡ drawn_from (λ operations. Ok (told_by_trace operations)) q →
          AllByRecursion (λ o. OutletFits stack (shape_outlet o)) (outs_of r)
      go (Err reason) q made same = tt
      go (Ok s) (Err reason) made same = absurd (cc same)
      go (Ok s) (Ok operations) made same =
          let told : told_by_shape s ≡ told_by_trace operations = cc in
          each s.outs (subst (λ t. AllByRecursion (OutletFits stack) t.outlets) (sym told)
          (trace_outs k operations is made))

-- so have the packets of a group
abbrev PacketFits : List LayerTree → ShapeOut → Type 0
PacketFits stack o = PlanIsEntry stack (plan_of o)

filtered : (stack : List LayerTree) (outs : List ShapeOut) →
    AllByRecursion (λ o. OutletFits stack (shape_outlet o)) outs →
    AllByRecursion (PacketFits stack) (filter (λ out. is_packet out out.dir) outs)
filtered stack [] h = tt
filtered stack (o ∷ outs) h = go (is_packet o o.dir) refl (filtered stack outs h.1) where
  fits : (dir : Dir) → is_packet o dir ≡ true → TagsFit stack dir (shape_outlet o).tags → PlanIsEntry stack (plan_of o)
  fits Up is k = absurd (cc is)
  fits Down is k = record { carried = is; tags = k }

  go : (b : Bool) → is_packet o o.dir ≡ b →
      AllByRecursion (PacketFits stack) (filter (λ out. is_packet out out.dir) outs) →
      AllByRecursion (PacketFits stack)
      (if b then o ∷ filter (λ out. is_packet out out.dir) outs else filter (λ out. is_packet out out.dir) outs)
  go true is rest = (fits o.dir is h.0, rest)
  go false is rest = rest

group_fits : (stack : List LayerTree) → IsOrderly stack → (case : Case) (kind : Kind) → carries kind ≡ true →
    AllByRecursion (PacketFits stack)
    (packets_of stack (record { entry = record { dir = Down; kind = kind; tags = [] }; case = case }))
group_fits stack orderly case kind carried = filtered stack _
    (shape_outs case stack orderly (record { dir = Down; kind = kind; tags = [] })
    (record { carried = carried; tags = tt }))

flat_all : {A B : Type 0} (P : B → Type 0) (f : A → List B) (xs : List A) →
    AllByRecursion (λ x. AllByRecursion P (f x)) xs →
    AllByRecursion P (flat_map f xs)
flat_all P f [] h = tt
flat_all P f (x ∷ xs) h = each_append P (f x) (flat_map f xs) h.0 (flat_all P f xs h.1)

pub plans_are_entries : PlansAreEntries
plans_are_entries stack orderly =
    each_take (PlanIsEntry stack) plans_limit (map plan_of (flat_map (packets_of stack) groups))
    (each_map (PacketFits stack) (PlanIsEntry stack) plan_of (λ o h. h) (flat_map (packets_of stack) groups)
    (flat_all (PacketFits stack) (packets_of stack) groups (
      group_fits stack orderly First kind.Cast refl,
      (
        group_fits stack orderly First kind.Send refl,
        (
          group_fits stack orderly Second kind.Cast refl,
          (group_fits stack orderly Second kind.Send refl, tt),
        ),
      ),
    )))
