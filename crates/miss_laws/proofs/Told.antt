-- What the checks of a stack's traces tell is what a step lacked.
use Rattle.std.proofs.Common.{◌≡◌, ◌∙◌, ℕ, suc, Bool, true, false, if◌then◌else◌, List, [], map, Option, Some, None}
use Rattle.std.proofs.Common.{is_some, refl, sym, ap, subst, arith}
use Rattle.std.specs.Prelude.{nat_le, slice_get, option_map, Result, Ok, Err}
use Rattle.std.specs.Option.{option_map_or, option_and_then, option_flatten}
use Rattle.std.proofs.lemmas.Option.{slice_get-map}
use Rattle.layer_mean.specs.declared.run.Case.{Case}
use Rattle.layer_mean.specs.declared.run.Case.TheVariants.{First, Second}
use Rattle.layer_mean.specs.Effect as effect
use Rattle.layer_mean.specs.Queue.{Work}
use Rattle.layer_mean.specs.State.{State}
use Rattle.layer_mean.specs.Tree.{LayerTree}
use Rattle.msg_core.specs.declared.packet.Packet.{Packet}
use Rattle.packet_mean.specs.Plan.{least_fit}
use Rattle.packet_mean.specs.declared.here.Here.{Here}
use Rattle.stack_mean.specs.NoShape.{NoShape, long, drawn_from}
use Rattle.stack_mean.specs.Plan.{Plan}
use Rattle.stack_mean.specs.Plans.{plans_of}
use Rattle.stack_mean.specs.Shape.{Shape, shape, has_second_case}
use Rattle.run_mean.specs.Common as common
use Rattle.run_mean.specs.Common.{longest_shape, entry_of, case_of, first_missed}
use Rattle.run_mean.specs.Member.{Entered, app_cast, app_send, app_leave, clock_tick, from_peer, first_task, Step}
use Rattle.run_mean.specs.Member.{step_from}
use Rattle.chain_laws.specs.Runs.{IsChainedTask}
use Rattle.member_laws.specs.Steps.{IsStep}
use Rattle.member_laws.proofs.Members.{first_tasks_are_chained}
use Rattle.trace_mean.specs.Trace.{Operation}
use Rattle.trace_mean.specs.Worth.{Input}
use Rattle.trace_mean.specs.Follow.{reached, stopped}
use Rattle.trace_mean.specs.Fuse.{entry_task, trace_of}
use Rattle.trace_laws.specs.Members.{AreOf}
use Rattle.trace_laws.specs.Right.{answer_for, Enters}
use Rattle.trace_laws.specs.Shapes.{Told, told_by_shape, told_by_trace}
use Rattle.trace_laws.proofs.Shapes.{traces_stand_for_shapes}
use Rattle.handler_laws.specs.Steps.{entry_fields}
use Rattle.handler_laws.proofs.Entries.{entries_begin, steps_follow_traces}
use Rattle.guard_mean.specs.Hoist.{hoisted}
use Rattle.guard_laws.specs.LastCheck.{to_last_check}
use Rattle.bypass_mean.specs.Bypasses.{Entry, plan_entry, entries_of}
use Rattle.bypass_laws.specs.Stack.{lack_of}
use Rattle.bypass_laws.specs.Making.{made_with, made_of, second_of, bypasses_of, IsSound, simplest}
use Rattle.guard_mean.specs.Checks.{stop_of, checks_of, first_failing}
use Rattle.handler_laws.specs.Handled.{step_input}
use Rattle.lack_mean.specs.Lacks as lack
use Rattle.lack_mean.specs.Lacks.{Miss, first_lack, second_lack, miss_by, entry_named, miss_of}
use Rattle.miss_laws.specs.Asked.{asked_of, AllAsked, all_asked, lack_at, lacks_at, miss_asked}
use Rattle.miss_laws.specs.Told.{told_of, MissesAreTold}
use Rattle.miss_laws.proofs.Checked.{checks_find_unheld}
use Rattle.miss_laws.proofs.Stops.{unheld_stops}

-- following stops at the first decision that was missed
stops_where : (case : Case) (w : Work) → stop_of (answer_for case w) ≡ effect.first_missed case w.decided
stops_where case w = go (effect.first_missed case w.decided) refl where
  go : (o : Option ℕ) → effect.first_missed case w.decided ≡ o → stop_of (answer_for case w) ≡ o
  go None is = ap (λ o. stop_of (option_map_or stopped o (reached w.states w.outs))) is
  go (Some k) is = ap (λ o. stop_of (option_map_or stopped o (reached w.states w.outs))) is

module _ (stack : List LayerTree) (plans : List Plan) (here : Here) (id : ℕ) (states : List State) (what : Entered)
    (sound : IsSound stack) (step : IsStep stack here states what)
    (are : AreOf (step_input plans here what) stack states) where
  abbrev i : Input
  i = step_input plans here what

  abbrev s : Step
  s = step_from stack here id states what

  -- of an entry in a case
  module _ (case : Case) (e : Entry) (enters : entry_of plans what ≡ Some e.known)
      (varied : entry_fields plans what ≡ e.fields) where
    begins : entry_task stack e.known e.fields i ≡ first_task stack here.rank what
    begins = subst (λ fields. entry_task stack e.known fields i ≡ first_task stack here.rank what) varied
        (entries_begin stack plans here what e.known enters step.input)

    entered : Enters stack e.known e.fields i states
    entered = record {
      typed = step.typed;
      of = are;
      states_are = step.states_are;
      task = subst (IsChainedTask stack) (sym begins)
          (first_tasks_are_chained stack here.rank what (omega (arith, step.at.rank)) step.input);
    }

    -- the checks of its trace find the first decision that was missed
    finds : (trace : List Operation) → trace_of case stack e.known e.fields ≡ Ok trace →
        first_failing i (checks_of (hoisted (to_last_check trace))) states ≡ first_missed case s
    finds trace made =
        checks_find_unheld (hoisted (to_last_check trace)) i states
        ∙ unheld_stops case stack e.known e.fields trace i states sound.named made entered
        ∙ ap stop_of (steps_follow_traces case stack plans here id states what e.known trace step are enters
        (ap (trace_of case stack e.known) varied ∙ made)).answer
        ∙ stops_where case s.work

    lacks : lack_at i states (asked_of (made_of simplest case stack e)) ≡ lack.lack_of case s (shape stack e.known case)
    lacks = go (shape stack e.known case) (trace_of case stack e.known e.fields) refl
        (traces_stand_for_shapes case stack e.known e.fields) where
          short : (x : Shape) (b : Bool) (r : Result (List Operation) NoShape) → trace_of case stack e.known e.fields ≡
              r →
              ◌≡◌ {A = Result Told NoShape} (Ok (told_by_shape x))
              (drawn_from (λ operations. Ok (told_by_trace operations)) r) →
              lack_at i states (asked_of (made_with simplest (if b then None else Some long) r)) ≡
              (if b then lack.missed (option_map_or (λ k. k) (first_missed case s) 0) else lack.absent long)
          short x true (Ok trace) made told = ap (λ o. lack.missed (option_map_or (λ k. k) o 0)) (finds trace made)
          short x true (Err reason) made told = absurd (cc told)
          short x false r made told = refl

          go : (x : Result Shape NoShape) (r : Result (List Operation) NoShape) → trace_of case stack e.known e.fields ≡
              r →
              drawn_from (λ x. Ok (told_by_shape x)) x ≡ drawn_from (λ operations. Ok (told_by_trace operations)) r →
              lack_at i states (asked_of (made_with simplest (lack_of x) r)) ≡ lack.lack_of case s x
          go (Err reason) r made told = refl
          go (Ok x) r made told = short x (nat_le x.length longest_shape) r made told

  -- of the entry at a place, if there is one
  abbrev IsEntry : Option Entry → Type 0
  IsEntry o = (entry_of plans what ≡ option_map (λ (e : Entry). e.known) o) ×
      (entry_fields plans what ≡ option_map_or (λ (e : Entry). e.fields) o [])

  first_lacks : (o : Option Entry) → IsEntry o →
      option_map_or (lack_at i states) (option_map asked_of (option_map (made_of simplest First stack) o))
      lack.no_plan ≡
      first_lack stack s (entry_of plans what)
  first_lacks None is = ap (first_lack stack s) (sym is.0)
  first_lacks (Some e) is = lacks First e is.0 is.1 ∙ ap (first_lack stack s) (sym is.0)

  second_lacks : (o : Option Entry) → IsEntry o →
      option_map (lack_at i states)
      (option_flatten (option_map (option_map asked_of) (option_map (second_of simplest stack) o))) ≡
      option_and_then (second_lack stack s) (entry_of plans what)
  second_lacks None is = ap (option_and_then (second_lack stack s)) (sym is.0)
  second_lacks (Some e) is = go (has_second_case stack e.known) ∙ ap (option_and_then (second_lack stack s)) (sym is.0)
    where
      go : (b : Bool) → option_map (lack_at i states)
          (option_map asked_of (if b then Some (made_of simplest Second stack e) else None)) ≡
          (if b then Some (lack.lack_of Second s (shape stack e.known Second)) else None)
      go true = ap Some (lacks Second e is.0 is.1)
      go false = refl

  abbrev checks : AllAsked
  checks = all_asked (bypasses_of simplest stack)

  tells_at : (entry : lack.Entry) (place : ℕ) → IsEntry (slice_get (entries_of stack) place) →
      miss_by stack s (entry_of plans what) entry ≡ lacks_at checks i states entry (Some place)
  tells_at entry place is = sym (λ z. record { entry = entry; first = first z; second = second z }) where
    found : Option Entry
    found = slice_get (entries_of stack) place

    first : option_map_or (lack_at i states) (slice_get checks.made place) lack.no_plan ≡
        first_lack stack s (entry_of plans what)
    first = ap (λ o. option_map_or (lack_at i states) o lack.no_plan)
        (slice_get-map asked_of (map (made_of simplest First stack) (entries_of stack)) place
        ∙ ap (option_map asked_of) (slice_get-map (made_of simplest First stack) (entries_of stack) place))
        ∙ first_lacks found is

    second : option_map (lack_at i states) (option_flatten (slice_get checks.second place)) ≡
        option_and_then (second_lack stack s) (entry_of plans what)
    second = ap (λ o. option_map (lack_at i states) (option_flatten o))
        (slice_get-map (option_map asked_of) (map (second_of simplest stack) (entries_of stack)) place
        ∙ ap (option_map (option_map asked_of)) (slice_get-map (second_of simplest stack) (entries_of stack) place))
        ∙ second_lacks found is

-- what is asked of a packet's entry
module _ (stack : List LayerTree) (plans : List Plan) (here : Here) (id : ℕ) (states : List State) (p : Packet)
    (planned : plans ≡ plans_of stack) (sound : IsSound stack) (step : IsStep stack here states (from_peer p))
    (are : AreOf (step_input plans here (from_peer p)) stack states) where
  listed : (n : ℕ) → slice_get (entries_of stack) (suc (suc n)) ≡ option_map plan_entry (slice_get plans n)
  listed n = slice_get-map plan_entry (plans_of stack) n ∙
      ap (λ (ps : List Plan). option_map plan_entry (slice_get ps n)) (sym planned)

  known : (o : Option Plan) → option_map common.plan_entry o ≡
      option_map (λ (e : Entry). e.known) (option_map plan_entry o)
  known None = refl
  known (Some plan) = refl

  open_fields : (o : Option Plan) → option_map_or (λ (plan : Plan). plan.fields) o [] ≡
      option_map_or (λ (e : Entry). e.fields) (option_map plan_entry o) []
  open_fields None = refl
  open_fields (Some plan) = refl

  packet_tells : (o : Option ℕ) → least_fit plans p ≡ o →
      miss_by stack (step_from stack here id states (from_peer p)) (entry_of plans (from_peer p))
      (option_map_or lack.plan o lack.none) ≡
      miss_asked (all_asked (bypasses_of simplest stack)) (option_map_or lack.plan o lack.none)
      (step_input plans here (from_peer p)) states
  packet_tells None fit = ap (λ known. miss_by stack (step_from stack here id states (from_peer p)) known lack.none)
      (ap (option_and_then (λ n. option_map common.plan_entry (slice_get plans n))) fit)
  packet_tells (Some n) fit = tells_at stack plans here id states (from_peer p) sound step are (lack.plan n)
      (suc (suc n)) (
        ap (option_and_then (λ n. option_map common.plan_entry (slice_get plans n))) fit ∙ known (slice_get plans n)
            ∙ ap (option_map (λ (e : Entry). e.known)) (sym (listed n)),
        ap (λ o. option_map_or (λ (plan : Plan). plan.fields) (option_and_then (λ n. slice_get plans n) o) []) fit ∙
            open_fields (slice_get plans n)
            ∙ ap (λ o. option_map_or (λ (e : Entry). e.fields) o []) (sym (listed n)),
      )

-- what a step lacked that wasn't common
abbrev lacked : List LayerTree → List Plan → Step → Option Miss
lacked stack plans s = option_map (miss_by stack s (entry_of plans s.entered)) (entry_named plans s.entered)

not_common : (stack : List LayerTree) (plans : List Plan) (s : Step) → case_of stack plans s ≡ None →
    miss_of stack plans s ≡ lacked stack plans s
unfolding miss_of
not_common stack plans s none = ap (λ o. if is_some o then None else lacked stack plans s) none

tells : (stack : List LayerTree) (plans : List Plan) (here : Here) (id : ℕ) (states : List State) (what : Entered) →
    plans ≡ plans_of stack → IsSound stack → IsStep stack here states what →
    AreOf (step_input plans here what) stack states →
    lacked stack plans (step_from stack here id states what) ≡
    told_of stack plans (all_asked (bypasses_of simplest stack)) here states what
tells stack plans here id states (app_cast body) planned sound step are =
    ap Some (tells_at stack plans here id states (app_cast body) sound step are lack.cast 0 (refl, refl))
tells stack plans here id states (app_send to body) planned sound step are =
    ap Some (tells_at stack plans here id states (app_send to body) sound step are lack.send 1 (refl, refl))
tells stack plans here id states app_leave planned sound step are = refl
tells stack plans here id states (clock_tick moment) planned sound step are = refl
tells stack plans here id states (from_peer p) planned sound step are =
    ap Some (packet_tells stack plans here id states p planned sound step are (least_fit plans p) refl)

pub misses_are_told : MissesAreTold
misses_are_told stack plans all here id states what sound planned made step are uncommon =
    not_common stack plans (step_from stack here id states what) uncommon
    ∙ tells stack plans here id states what planned sound step are
    ∙ ap (λ a. told_of stack plans a here states what) (sym made)
