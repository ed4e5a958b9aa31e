-- What is made of the traces of a stack's entries is the stack's.
use Rattle.std.proofs.Common.{◌≡◌, ◌≤◌, Bool, true, false, List, [], ◌∷◌, map, length, Option, Some, None, refl, sym}
use Rattle.std.proofs.Common.{ap, ◌∙◌, subst, arith}
use Rattle.std.specs.Prelude.{if◌then◌else◌, nat_le, Result, Ok, Err}
use Rattle.std.specs.List.{AllByRecursion, AllZip}
use Rattle.std.proofs.lemmas.Bool.{leb-true}
use Rattle.std.proofs.lemmas.List.{length-map}
use Rattle.std.proofs.lemmas.List.Sums.{sum_by-cons}
use Rattle.layer_mean.specs.declared.run.Case.{Case}
use Rattle.layer_mean.specs.declared.run.Case.TheVariants.{First, Second}
use Rattle.layer_mean.specs.Tree.{LayerTree}
use Rattle.stack_mean.specs.Acceptance.{without_cycle, acceptance}
use Rattle.stack_mean.specs.Graph.{Node, first_on_cycle}
use Rattle.stack_mean.specs.NoShape.{NoShape, long, drawn_from}
use Rattle.stack_mean.specs.Plan.{Plan}
use Rattle.stack_mean.specs.Plans.{plans_of}
use Rattle.stack_mean.specs.Shape.{Shape, shape, has_second_case}
use Rattle.run_mean.specs.Common.{longest_shape}
use Rattle.chain_laws.proofs.Orderly.{typed_is_orderly}
use Rattle.trace_mean.specs.Trace.{Operation, bind, note, check, set, set_square, push, take, output, Guarded}
use Rattle.trace_mean.specs.Counts.{operation_length, trace_length, trace_outputs}
use Rattle.trace_mean.specs.Fuse.{trace_of}
use Rattle.trace_laws.specs.Shapes.{Told, told_by_shape, told_by_trace, shape_outlet}
use Rattle.trace_laws.proofs.Law.{traces_are_right}
use Rattle.trace_laws.proofs.Shapes.{traces_stand_for_shapes, outputs_are_told}
use Rattle.trace_form_laws.specs.Entries.{IsEntry}
use Rattle.trace_form_laws.specs.Plans.{PlanIsEntry}
use Rattle.trace_form_laws.proofs.Joins.{traces_join_less}
use Rattle.trace_form_laws.proofs.Plans.{plans_are_entries}
use Rattle.trace_form_laws.proofs.WellFormed.{traces_are_well_formed}
use Rattle.bypass_mean.specs.Bypasses.{Entry, cast_entry, send_entry, plan_entry}
use Rattle.bypass_laws.specs.Stack.{lack_of, a_write, trace_writes, HasOutputs, IsTrace, IsMade, IsSecond}
use Rattle.bypass_laws.specs.Making.{made_with, made_of, second_of, Guards, Reduces, IsSound, simplest, MadeAreOfStack}
use Rattle.bypass_laws.specs.Making.{SimplestAreOfStack}
use Rattle.guard_mean.specs.Prune.{hoist}
use Rattle.guard_laws.proofs.NoSimpler.{simplified_is_reduced}
use Rattle.bypass_laws.proofs.Guards.{hoisting_guards, simplifying_guards}

-- an accepted stack has no cycle
off_cycles : (stack : List LayerTree) → acceptance stack ≡ Ok stack → first_on_cycle stack ≡ None
off_cycles stack h = go (first_on_cycle stack) refl h where
  go : (o : Option Node) → first_on_cycle stack ≡ o → without_cycle stack o ≡ Ok stack → first_on_cycle stack ≡ None
  go (Some n) is e = absurd (cc e)
  go None is e = is

-- a trace has at most as many writes as its length
writes_count : (os : List Operation) → trace_writes os ≤ trace_length os
writes_count [] = omega arith
writes_count (o ∷ os) =
    omega (arith, sum_by-cons a_write o os, sum_by-cons operation_length o os, writes_count os, one o) where
      one : (o : Operation) → a_write o ≤ operation_length o
      one (note m) = omega arith
      one (bind e) = omega arith
      one (check e) = omega arith
      one (set p c e x) = omega arith
      one (set_square p c row column x) = omega arith
      one (push p c e numbers message) = omega arith
      one (take p c e) = omega arith
      one (output dir kind numbers message) = omega arith

module _ (stack : List LayerTree) (sound : IsSound stack) (guard : List Operation → Guarded)
    (guards : Guards guard stack) (reduces : Reduces guard) where
  trace_is : (case : Case) (e : Entry) (s : Shape) (trace : List Operation) → IsEntry stack e.known →
      shape stack e.known case ≡ Ok s →
      trace_of case stack e.known e.fields ≡ Ok trace → nat_le s.length longest_shape ≡ true →
      told_by_shape s ≡ told_by_trace trace →
      IsTrace case stack e trace
  trace_is case e s trace entry drawn made within told = record {
    formed = traces_are_well_formed case stack e.known e.fields trace sound.named made;
    right = λ i states enters. traces_are_right case stack e.known e.fields trace i states made enters;
    writes = omega (arith, writes_count trace, ap (λ t. t.length) told, leb-true s.length longest_shape within);
    outputs = subst (HasOutputs (trace_outputs trace)) (sym drawn)
        (sym (outputs_are_told trace) ∙ ap (λ t. length t.outlets) (sym told) ∙ length-map s.outs shape_outlet);
    joins = traces_join_less case stack e.known e.fields trace (typed_is_orderly stack sound.typed)
        (off_cycles stack sound.accepts) entry made;
  }

  made_is : (case : Case) (e : Entry) → IsEntry stack e.known → IsMade case stack e (made_of guard case stack e)
  made_is case e entry = go (shape stack e.known case) (trace_of case stack e.known e.fields) refl refl
      (traces_stand_for_shapes case stack e.known e.fields) where
        short : (s : Shape) → shape stack e.known case ≡ Ok s → (b : Bool) → nat_le s.length longest_shape ≡ b →
            (r : Result (List Operation) NoShape) → trace_of case stack e.known e.fields ≡ r →
            ◌≡◌ {A = Result Told NoShape} (Ok (told_by_shape s))
            (drawn_from (λ operations. Ok (told_by_trace operations)) r) →
            IsMade case stack e (made_with guard (if b then None else Some long) r)
        short s drawn false is r made told = ap lack_of drawn ∙ ap (λ c. if c then None else Some long) is
        short s drawn true is (Err reason) made told = absurd (cc told)
        short s drawn true is (Ok trace) made told =
            let same : told_by_shape s ≡ told_by_trace trace = cc in record {
              within = ap lack_of drawn ∙ ap (λ c. if c then None else Some long) is;
              trace_is = trace_is case e s trace entry drawn made is same;
              guard_is = guards case e trace made;
              reduced = reduces trace;
            }

        go : (x : Result Shape NoShape) (r : Result (List Operation) NoShape) → shape stack e.known case ≡ x →
            trace_of case stack e.known e.fields ≡ r →
            drawn_from (λ s. Ok (told_by_shape s)) x ≡ drawn_from (λ operations. Ok (told_by_trace operations)) r →
            IsMade case stack e (made_with guard (lack_of x) r)
        go (Err reason) r drawn made told = ap lack_of drawn
        go (Ok s) r drawn made told = short s drawn (nat_le s.length longest_shape) refl r made told

  second_is : (e : Entry) → IsEntry stack e.known → IsSecond stack e (second_of guard stack e)
  second_is e entry = go (has_second_case stack e.known) refl where
    go : (b : Bool) → has_second_case stack e.known ≡ b →
        IsSecond stack e (if b then Some (made_of guard Second stack e) else None)
    go true is = (is, made_is Second e entry)
    go false is = is

  plans_made : (plans : List Plan) → AllByRecursion (PlanIsEntry stack) plans →
      AllZip (IsMade First stack) (map plan_entry plans) (map (made_of guard First stack) (map plan_entry plans))
  plans_made [] h = tt
  plans_made (plan ∷ plans) h = (made_is First (plan_entry plan) h.0, plans_made plans h.1)

  plans_second : (plans : List Plan) → AllByRecursion (PlanIsEntry stack) plans →
      AllZip (IsSecond stack) (map plan_entry plans) (map (second_of guard stack) (map plan_entry plans))
  plans_second [] h = tt
  plans_second (plan ∷ plans) h = (second_is (plan_entry plan) h.0, plans_second plans h.1)

pub made_are_of_stack : MadeAreOfStack
made_are_of_stack guard stack sound guards reduces =
    let plans = plans_are_entries stack (typed_is_orderly stack sound.typed) in record {
      made = (
        made_is stack sound guard guards reduces First cast_entry (record { carried = refl; tags = tt }),
        (
          made_is stack sound guard guards reduces First send_entry (record { carried = refl; tags = tt }),
          plans_made stack sound guard guards reduces (plans_of stack) plans,
        ),
      );
      second = (
        second_is stack sound guard guards reduces cast_entry (record { carried = refl; tags = tt }),
        (
          second_is stack sound guard guards reduces send_entry (record { carried = refl; tags = tt }),
          plans_second stack sound guard guards reduces (plans_of stack) plans,
        ),
      );
    }

pub simplest_are_of_stack : SimplestAreOfStack
simplest_are_of_stack stack sound =
    made_are_of_stack simplest stack sound (simplifying_guards hoist stack (hoisting_guards stack sound.named))
    (λ operations. simplified_is_reduced (hoist operations))
