-- The own traces of a stack that can be packed can be read where they are written.
use Rattle.std.proofs.Common.{◌≡◌, ℕ, suc, ◌+◌, Bool, true, false, not, nat_le, is_some, List, [], ◌∷◌, ◌++◌, map}
use Rattle.std.proofs.Common.{length, count_by, Option, Some, None, option_map, option_to_list, refl, sym, ap, subst}
use Rattle.std.proofs.Common.{arith, leb-true}
use Rattle.std.specs.Prelude.{if◌then◌else◌, Result, Ok, Err}
use Rattle.std.specs.List.{AllByRecursion}
use Rattle.std.proofs.lemmas.List.Sums.{sum_by-cons}
use Rattle.layer_mean.specs.declared.run.Case.{Case}
use Rattle.layer_mean.specs.declared.run.Case.TheVariants.{First, Second}
use Rattle.layer_mean.specs.Tree.{LayerTree}
use Rattle.stack_mean.specs.NoShape.{NoShape, drawn_from}
use Rattle.stack_mean.specs.Plan.{Plan}
use Rattle.stack_mean.specs.Plans.{plans_of}
use Rattle.stack_mean.specs.Shape.{Shape, shape}
use Rattle.chain_laws.proofs.Orderly.{typed_is_orderly}
use Rattle.chain_laws.proofs.Lists.{each_append}
use Rattle.run_mean.specs.Common.{longest_shape}
use Rattle.trace_mean.specs.Trace.{Operation, bind, note, check, set, set_square, push, take, output}
use Rattle.trace_mean.specs.Counts.{operation_length, a_note, trace_length, trace_notes}
use Rattle.trace_mean.specs.Fuse.{trace_of}
use Rattle.trace_laws.specs.Shapes.{told_by_shape, told_by_trace}
use Rattle.trace_laws.proofs.Shapes.{traces_stand_for_shapes}
use Rattle.trace_form_laws.specs.Closed.{Closed}
use Rattle.trace_form_laws.specs.Entries.{IsEntry}
use Rattle.trace_form_laws.specs.Plans.{PlanIsEntry}
use Rattle.trace_form_laws.proofs.Closed.{traces_are_closed}
use Rattle.trace_form_laws.proofs.Counts.{accepted_traces_fit}
use Rattle.trace_form_laws.proofs.Plans.{plans_are_entries}
use Rattle.trace_form_laws.proofs.There.{traces_name_well}
use Rattle.bypass_mean.specs.Bypasses.{Entry, plan_entry, entries_of}
use Rattle.pack_mean.specs.File.{Due, within_limit, due_in, due_from, due_of}
use Rattle.pack_laws.specs.Form.{at_first}
use Rattle.pack_laws.proofs.Accepted.{fields_vary}
use Rattle.pack_round_laws.proofs.Packable.{CanBeRead, EntryFits, CanBePacked}
use Rattle.pack_round_laws.proofs.Traced.{traces_fit}

-- a trace has its notes and its other operations
all_counted : (os : List Operation) → length os ≡ trace_length os + trace_notes os
all_counted [] = refl
all_counted (o ∷ os) =
    let a = sum_by-cons operation_length o os in
    let b = sum_by-cons a_note o os in
    let c = all_counted os in
    let d = one o in
    omega (arith, a, b, c, d) where
      one : (o : Operation) → operation_length o + a_note o ≡ 1
      one (bind e) = refl
      one (note m) = refl
      one (check e) = refl
      one (set p c e x) = refl
      one (set_square p c row column x) = refl
      one (push p c e ns message) = refl
      one (take p c e) = refl
      one (output dir kind ns message) = refl

module _ (stack : List LayerTree) (can : CanBePacked stack) where
  record IsGood (e : Entry) : Type 0 where
    entry : IsEntry stack e.known
    fits : EntryFits stack e

  own_can : (n : ℕ) (e : Entry) (case : Case) → IsGood e → (s : Shape) (own : List Operation) →
      trace_of case stack e.known e.fields ≡ Ok own →
      nat_le s.length longest_shape ≡ true → told_by_shape s ≡ told_by_trace own →
      CanBeRead stack (record {
        entry = n;
        case = case;
        fields = count_by (λ field. not (is_some field)) e.fields;
        own =
            own;
      })
  own_can n e case good s own made within told =
      let long = ap (λ t. t.length) told in
      let few = leb-true s.length longest_shape within in
      let fits = accepted_traces_fit case stack e.known e.fields own (typed_is_orderly stack can.sound.typed)
      can.sound.accepts good.entry made in
      let notes = fits.notes in
      let all = all_counted own in
      let vary = fields_vary e.fields in
      let fields = good.fits.fields in
      record {
        closed = subst (λ k. Closed stack (at_first k) own) (sym vary)
            (traces_are_closed case stack e.known e.fields own made);
        there = traces_name_well case stack e.known e.fields own can.sound.named made;
        fits = traces_fit stack can.layers_fit case e.known e.fields own good.entry.carried
            good.fits.chain made;
        few = omega (arith, long, few);
        long = omega (arith, long, few, notes, all);
        fields = omega (arith, vary, fields);
      }

  abbrev listed : ℕ → Entry → Case → Option (List Operation) → List Due
  listed n e case o = option_to_list (option_map (λ own. record {
    entry = n;
    case = case;
    fields = count_by (λ field. not (is_some field)) e.fields;
    own = own;
  }) o)

  case_can : (n : ℕ) (e : Entry) (case : Case) → IsGood e → AllByRecursion (CanBeRead stack) (due_in stack n e case)
  case_can n e case good = go (shape stack e.known case) (trace_of case stack e.known e.fields) refl
      (traces_stand_for_shapes case stack e.known e.fields) where
        go : (s : Result Shape NoShape) (r : Result (List Operation) NoShape) → trace_of case stack e.known e.fields ≡
            r →
            drawn_from (λ s. Ok (told_by_shape s)) s ≡ drawn_from (λ operations. Ok (told_by_trace operations)) r →
            AllByRecursion (CanBeRead stack) (listed n e case (within_limit s r))
        go (Err reason) r made told = tt
        go (Ok s) (Err reason) made told = tt
        go (Ok s) (Ok own) made told =
            let same : told_by_shape s ≡ told_by_trace own = cc in
            short (nat_le s.length longest_shape) refl same where
              short : (b : Bool) → nat_le s.length longest_shape ≡ b → told_by_shape s ≡ told_by_trace own →
                  AllByRecursion (CanBeRead stack) (listed n e case (if b then Some own else None))
              short true within same = (own_can n e case good s own made within same, tt)
              short false within same = tt

  from_can : (n : ℕ) (es : List Entry) → AllByRecursion IsGood es →
      AllByRecursion (CanBeRead stack) (due_from stack n es)
  from_can n [] good = tt
  from_can n (e ∷ es) good = each_append (CanBeRead stack) (due_in stack n e First ++ due_in stack n e Second)
      (due_from stack (suc n) es)
      (each_append (CanBeRead stack) (due_in stack n e First) (due_in stack n e Second) (case_can n e First good.0)
      (case_can n e Second good.0))
      (from_can (suc n) es good.1)

  plans_good : (plans : List Plan) → AllByRecursion (PlanIsEntry stack) plans →
      AllByRecursion (EntryFits stack) (map plan_entry plans) →
      AllByRecursion IsGood (map plan_entry plans)
  plans_good [] entries fit = tt
  plans_good (plan ∷ plans) entries fit = (record { entry = entries.0; fits = fit.0 }, plans_good plans entries.1 fit.1)

  pub due_can_be_read : AllByRecursion (CanBeRead stack) (due_of stack)
  due_can_be_read =
      let fit = can.entries_fit in
      from_can 0 (entries_of stack) (
        record { entry = record { carried = refl; tags = tt }; fits = fit.0 },
        (
          record { entry = record { carried = refl; tags = tt }; fits = fit.1.0 },
          plans_good (plans_of stack) (plans_are_entries stack (typed_is_orderly stack can.sound.typed)) fit.1.1,
        ),
      )
