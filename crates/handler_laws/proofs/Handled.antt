-- The code of a step's entry does what the step does.
use Rattle.std.proofs.Common.{◌≡◌, ◌∙◌, ℕ, zero, suc, ◌≤◌, Bool, true, false, ◌&&◌, List, [], ◌∷◌, map, length, fold}
use Rattle.std.proofs.Common.{Option, Some, None, refl, sym, ap, subst, arith}
use Rattle.std.specs.Prelude.{if◌then◌else◌, slice_get, option_map, Ok, Err}
use Rattle.std.specs.List.{AllZip}
use Rattle.std.specs.Option.{option_map_or, option_and_then, option_flatten}
use Rattle.std.proofs.lemmas.List.{length-map}
use Rattle.std.proofs.lemmas.Option.{slice_get-map}
use Rattle.layer_mean.specs.declared.run.Case.{Case}
use Rattle.layer_mean.specs.declared.run.Case.TheVariants.{First, Second}
use Rattle.layer_mean.specs.Queue.{is_predicted, run}
use Rattle.layer_mean.specs.State.{State}
use Rattle.layer_mean.specs.Tree.{LayerTree}
use Rattle.packet_mean.specs.Plan.{least_fit}
use Rattle.packet_mean.specs.declared.here.Here.{Here}
use Rattle.stack_mean.specs.Acceptance.{weight, weight_limit, most_joins, joins_limit, largest_weight, acceptance}
use Rattle.stack_mean.specs.Plan.{Plan}
use Rattle.stack_mean.specs.Plans.{plans_of}
use Rattle.stack_mean.specs.Shape.{Known, shape, drawn_shape, has_second_case}
use Rattle.stack_mean.specs.NoShape as no_shape
use Rattle.run_mean.specs.Common.{entry_of, is_short, is_common_in}
use Rattle.run_mean.specs.Common as common
use Rattle.run_mean.specs.Member.{Entered, app_cast, app_send, app_leave, clock_tick, from_peer, first_task, output_of}
use Rattle.run_mean.specs.Member.{Step, step_from}
use Rattle.weight_laws.specs.Nodes.{task_node}
use Rattle.chain_laws.specs.Runs.{IsChainedTask}
use Rattle.member_laws.specs.Steps.{IsStep}
use Rattle.member_laws.proofs.Members.{first_tasks_are_chained}
use Rattle.member_laws.proofs.Ends.{steps_end}
use Rattle.trace_mean.specs.Trace.{Guarded, Operation}
use Rattle.trace_mean.specs.Worth.{Input}
use Rattle.trace_mean.specs.Follow.{perform}
use Rattle.trace_mean.specs.Fuse.{entry_task}
use Rattle.trace_laws.specs.Members.{AreOf}
use Rattle.trace_laws.specs.Right.{answer_for, Enters}
use Rattle.trace_form_laws.specs.Entries.{entry_node}
use Rattle.handler_laws.specs.Steps.{entry_fields}
use Rattle.handler_laws.proofs.Entries.{entries_begin}
use Rattle.guard_mean.specs.Code.{Code}
use Rattle.guard_mean.specs.Machine.{Tested, steps, tested, begun, run_code}
use Rattle.guard_mean.specs.Perform.{End, end_of, answer_end, holds}
use Rattle.guard_mean.specs.Straight.{code_of}
use Rattle.guard_laws.specs.Counts.{code_joins, code_outputs}
use Rattle.guard_laws.specs.Safe.{SafeCode}
use Rattle.guard_laws.proofs.Counts.{code_adds_nothing}
use Rattle.guard_laws.proofs.Safe.{code_is_safe}
use Rattle.guard_laws.proofs.Straight.{code_is_same}
use Rattle.bypass_mean.specs.Bypasses.{Entry, plan_entry, entries_of, Made, fused, absent, Bypasses}
use Rattle.bypass_laws.specs.Stack.{IsFused, IsMade, IsSecond, AreOfStack}
use Rattle.stack_shapes.specs.Entries.{planned_entry}
use Rattle.code_table.specs.Codes.{code_if, second_code, codes_of, codes_in, code_at}
use Rattle.handler_laws.specs.Handled.{step_input, HandlesStep, IsHandled, StepsAreHandled}
use Rattle.handler_laws.proofs.Common.{nothing_lacks, something_lacks, Came, came, left}
use Rattle.handler_laws.proofs.Nodes.{entry_is_node, entry_is_light}
use Rattle.handler_laws.proofs.Outputs.{all_steps}

-- where the tests are passed the guard holds
held : (b c : Bool) (x y : End) → b ≡ true → (if b then Some x else None) ≡ (if c then Some y else None) → c ≡ true
held b true x y passed same = refl
held b false x y passed same = absurd (cc (ap (λ d. if d then Some x else None) (sym passed) ∙ same))

-- a step is common in a case exactly where its entry has a short shape there and its run went as predicted
module _ (case : Case) (stack : List LayerTree) (plans : List Plan) (s : Step) where
  by_shape : (k : Known) (b : Bool) → entry_of plans s.entered ≡ Some k → is_short (shape stack k case) ≡ b →
      is_common_in stack plans s case ≡ (b && is_predicted case s.work)
  by_shape k b enters short =
      ap (λ o. option_map_or (λ known. is_short (shape stack known case)) o false && is_predicted case s.work) enters
      ∙ ap (λ c. c && is_predicted case s.work) short

  no_entry : entry_of plans s.entered ≡ None → is_common_in stack plans s case ≡ false
  no_entry none = ap (λ o. option_map_or (λ known. is_short (shape stack known case)) o false &&
      is_predicted case s.work) none

-- a second case that isn't made has no shape
same_shape : (stack : List LayerTree) (k : Known) → has_second_case stack k ≡ false → is_short (shape stack k Second) ≡
    false
same_shape stack k none = ap (λ b. is_short (if b then drawn_shape stack k Second else Err no_shape.same)) none

module _ (stack : List LayerTree) (plans : List Plan) (here : Here) (id : ℕ) (states : List State) (what : Entered)
    (accepts : acceptance stack ≡ Ok stack) (step : IsStep stack here states what)
    (are : AreOf (step_input plans here what) stack states) where
  abbrev i : Input
  i = step_input plans here what

  abbrev s : Step
  s = step_from stack here id states what

  abbrev Handled : Case → Option Code → Type 0
  Handled case code = IsHandled case stack plans here id states what code

  -- of an entry with a trace
  module _ (case : Case) (k : Known) (trace : List Operation) (g : Guarded) (enters : entry_of plans what ≡ Some k)
      (is : IsFused case stack (record { known = k; fields = entry_fields plans what }) trace g) where
    abbrev fields : List (Option ℕ)
    fields = entry_fields plans what

    begins : entry_task stack k fields i ≡ first_task stack here.rank what
    begins = entries_begin stack plans here what k enters step.input

    chained : IsChainedTask stack (entry_task stack k fields i)
    chained = subst (IsChainedTask stack) (sym begins)
        (first_tasks_are_chained stack here.rank what (omega (arith, step.at.rank)) step.input)

    entered : Enters stack k fields i states
    entered = record { typed = step.typed; of = are; states_are = step.states_are; task = chained }

    short : is_common_in stack plans s case ≡ is_predicted case s.work
    short = by_shape case stack plans s k true enters (nothing_lacks (shape stack k case) is.within)

    same : run_code i (code_of g) states ≡ answer_end (answer_for case s.work)
    same = code_is_same g i states ∙ is.guard_is.same i states entered ∙
        ap answer_end (is.trace_is.right i states entered).answer
        ∙ ap (λ t. answer_end (answer_for case (run weight_limit stack states t).world)) begins

    abbrev tried : Tested
    tried = tested i (code_of g).tests states

    abbrev last : End
    last = end_of (fold (steps i) (begun states tried) (code_of g).steps)

    passed_is : tried.passes ≡ true → run_code i (code_of g) states ≡ Some last
    passed_is passed = ap (λ (b : Bool). if b then Some last else None) passed

    safe : tried.passes ≡ true → SafeCode stack i (code_of g) states
    safe passed = code_is_safe stack g i states is.guard_is.unchecked (is.guard_is.safe i states entered
        (held tried.passes (holds i g states) last (end_of (perform i g.operations states)) passed
        (code_is_same g i states)))

    few : tried.passes ≡ true → code_outputs (code_of g) ≤ largest_weight stack
    few passed =
        let c : Came case s.work last = came case s.work last (sym same ∙ passed_is passed) in
        let put = all_steps i (code_of g).steps (begun states tried) in
        let outs : length last.outs ≡ length s.work.outs = ap length c.outs in
        let shown : length s.outputs ≡ length s.work.outs = length-map s.work.outs (output_of here) in
        let ends = steps_end stack here id states what step accepts in
        let node : weight stack (entry_node stack k) ≡ _ =
        ap (weight stack) (sym (entry_is_node stack k fields i)) ∙ ap (λ t. weight stack (task_node t)) begins in
        let light = entry_is_light stack k fields i chained in
        omega (arith, put, outs, shown, ends.turns, node, light)

    joins_few : code_joins (code_of g) ≤ joins_limit
    joins_few =
        let many = code_adds_nothing g in
        let ends = steps_end stack here id states what step accepts in
        let node : most_joins stack (entry_node stack k) ≡ _ =
        ap (most_joins stack) (sym (entry_is_node stack k fields i)) ∙
        ap (λ t. most_joins stack (task_node t)) begins in
        omega (arith, many.joins, is.guard_is.joins, is.trace_is.joins, node, ends.joins)

    fused_handled : HandlesStep case stack plans here id states what (code_of g)
    fused_handled = record {
      passes = λ e ran. let c : Came case s.work e = came case s.work e (sym same ∙ ran) in
          record { common = short ∙ c.predicted; states = c.states; outs = c.outs };
      misses = λ missed. short ∙ left case s.work (sym same ∙ missed);
      safe = safe;
      joins = joins_few;
      outputs = few;
    }

  -- of what is made of its entry
  made_handled : (case : Case) (e : Entry) (made : Made) → entry_of plans what ≡ Some e.known →
      entry_fields plans what ≡ e.fields →
      IsMade case stack e made → Handled case (code_if made)
  made_handled case e (fused trace g) enters varied is =
      fused_handled case e.known trace g enters
      (subst (λ fs. IsFused case stack (record { known = e.known; fields = fs }) trace g) (sym varied) is)
  made_handled case e (absent reason) enters varied is =
      by_shape case stack plans s e.known false enters (something_lacks (shape stack e.known case) reason is)

  second_handled : (e : Entry) (made : Option Made) → entry_of plans what ≡ Some e.known →
      entry_fields plans what ≡ e.fields →
      IsSecond stack e made → Handled Second (second_code made)
  second_handled e None enters varied is =
      by_shape Second stack plans s e.known false enters (same_shape stack e.known is)
  second_handled e (Some made) enters varied is = made_handled Second e made enters varied is.1

  -- of the entry at a place
  abbrev IsEntry : Option Entry → Type 0
  IsEntry o = (entry_of plans what ≡ option_map (λ (e : Entry). e.known) o) ×
      (entry_fields plans what ≡ option_map_or (λ (e : Entry). e.fields) o [])

  first_at : (es : List Entry) (made : List Made) (place : ℕ) → AllZip (IsMade First stack) es made →
      IsEntry (slice_get es place) →
      Handled First (option_flatten (slice_get (map code_if made) place))
  first_at [] [] place are is = no_entry First stack plans s is.0
  first_at [] (m ∷ made) place are is = absurd are
  first_at (e ∷ es) [] place are is = absurd are
  first_at (e ∷ es) (m ∷ made) zero are is = made_handled First e m is.0 is.1 are.0
  first_at (e ∷ es) (m ∷ made) (suc place) are is = first_at es made place are.1 is

  second_at : (es : List Entry) (made : List (Option Made)) (place : ℕ) → AllZip (IsSecond stack) es made →
      IsEntry (slice_get es place) →
      Handled Second (option_flatten (slice_get (map second_code made) place))
  second_at [] [] place are is = no_entry Second stack plans s is.0
  second_at [] (m ∷ made) place are is = absurd are
  second_at (e ∷ es) [] place are is = absurd are
  second_at (e ∷ es) (m ∷ made) zero are is = second_handled e m is.0 is.1 are.0
  second_at (e ∷ es) (m ∷ made) (suc place) are is = second_at es made place are.1 is

  pub at_place : (case : Case) (b : Bypasses) (place : ℕ) → AreOfStack stack b →
      IsEntry (slice_get (entries_of stack) place) →
      Handled case (option_flatten (slice_get (codes_in (codes_of b) case) place))
  at_place First b place of is = first_at (entries_of stack) b.made place of.made is
  at_place Second b place of is = second_at (entries_of stack) b.second place of.second is

pub steps_are_handled : StepsAreHandled
steps_are_handled case stack plans b here id states (app_cast body) typed accepts planned_are of step are =
    at_place stack plans here id states (app_cast body) accepts step are case b 0 of (refl, refl)
steps_are_handled case stack plans b here id states (app_send to body) typed accepts planned_are of step are =
    at_place stack plans here id states (app_send to body) accepts step are case b 1 of (refl, refl)
steps_are_handled case stack plans b here id states app_leave typed accepts planned_are of step are = refl
steps_are_handled case stack plans b here id states (clock_tick moment) typed accepts planned_are of step are = refl
steps_are_handled case stack plans b here id states (from_peer p) typed accepts planned_are of step are =
    go (least_fit plans p) refl where
      listed : (n : ℕ) → slice_get (entries_of stack) (suc (suc n)) ≡ option_map plan_entry (slice_get plans n)
      listed n = slice_get-map plan_entry (plans_of stack) n ∙
          ap (λ (ps : List Plan). option_map plan_entry (slice_get ps n)) (sym planned_are)

      known : (o : Option Plan) → option_map common.plan_entry o ≡
          option_map (λ (e : Entry). e.known) (option_map plan_entry o)
      known None = refl
      known (Some plan) = refl

      open_fields : (o : Option Plan) → option_map_or (λ (plan : Plan). plan.fields) o [] ≡
          option_map_or (λ (e : Entry). e.fields) (option_map plan_entry o) []
      open_fields None = refl
      open_fields (Some plan) = refl

      go : (o : Option ℕ) → least_fit plans p ≡ o →
          IsHandled case stack plans here id states (from_peer p)
          (code_at (codes_of b) (planned_entry (least_fit plans p)) case)
      go None fit =
          subst (λ o. IsHandled case stack plans here id states (from_peer p)
          (code_at (codes_of b) (planned_entry o) case))
          (sym fit)
          (no_entry case stack plans (step_from stack here id states (from_peer p))
          (ap (option_and_then (λ n. option_map common.plan_entry (slice_get plans n))) fit))
      go (Some n) fit =
          subst (λ o. IsHandled case stack plans here id states (from_peer p)
          (code_at (codes_of b) (planned_entry o) case))
          (sym fit)
          (at_place stack plans here id states (from_peer p) accepts step are case b (suc (suc n)) of (
            ap (option_and_then (λ n. option_map common.plan_entry (slice_get plans n))) fit ∙ known (slice_get plans n)
                ∙ ap (option_map (λ (e : Entry). e.known)) (sym (listed n)),
            ap (λ o. option_map_or (λ (plan : Plan). plan.fields) (option_and_then (λ n. slice_get plans n) o) []) fit ∙
                open_fields (slice_get plans n)
                ∙ ap (λ o. option_map_or (λ (e : Entry). e.fields) o []) (sym (listed n)),
          ))
