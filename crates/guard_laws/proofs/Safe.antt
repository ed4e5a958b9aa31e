-- The steps of code are safe where the operations of its guarded handler are.
use Rattle.std.proofs.Common.{◌≡◌, true, List, [], ◌∷◌, ◌++◌, map, drop, slice_index, Option, Some, None, fold, is_some}
use Rattle.std.proofs.Common.{refl, sym, subst, subst₂}
use Rattle.std.proofs.Math.Path.{subst₃}
use Rattle.std.proofs.lemmas.Bool.{and_parts}
use Rattle.std.specs.List.{list_all}
use Rattle.layer_mean.specs.Event.{event_of}
use Rattle.layer_mean.specs.State.{row_at}
use Rattle.layer_mean.specs.Tree.{LayerTree}
use Rattle.packet_mean.specs.ChainedState.{IsFrom, IsEvent}
use Rattle.chain_laws.specs.Runs.{edge_place}
use Rattle.trace_mean.specs.Trace.{Core, body, noted, taken_message, nothing, TraceMessage, core, held, cut, tail, join}
use Rattle.trace_mean.specs.Trace.{Chained, Operation, bind, note, check, set, set_square, push, take, output}
use Rattle.trace_mean.specs.Worth.{Input, state_of}
use Rattle.trace_mean.specs.Follow.{Trail, on, does, operates, before, is_done}
use Rattle.trace_laws.specs.Safe.{PushIsSafe, IsSafe, SafeTrace}
use Rattle.guard_mean.specs.Code as code
use Rattle.guard_mean.specs.Code.{Reading, Making, Step, make, keep}
use Rattle.guard_mean.specs.Machine.{tested, begun, steps}
use Rattle.guard_mean.specs.Straight.{operand_for, Line, straight, all_straight, guarding, Sheet, sheet_line, makes}
use Rattle.guard_mean.specs.Straight.{keeps_message, placed_core, placed_message, sending, writes, first_sheet, code_of}
use Rattle.guard_laws.specs.Safe.{IsSafeStep, SafeSteps, CodeIsSafe}
use Rattle.guard_laws.proofs.Straight.{ran, Written, given_change, given_output, writes_same, begins_written}

-- what isn't a check goes on
goes_done : (i : Input) (t : Trail) (o : Operation) → is_done o ≡ true → operates i t o ≡ on (does i t o)
goes_done i t (check e) is = absurd (cc is)
goes_done i t (bind e) is = refl
goes_done i t (note m) is = refl
goes_done i t (set p c e v) is = refl
goes_done i t (set_square p c r k v) is = refl
goes_done i t (push p c e numbers m) is = refl
goes_done i t (take p c e) is = refl
goes_done i t (output dir kind numbers m) is = refl

module _ (stack : List LayerTree) (i : Input) where
  -- steps after others
  steps_then : (xs ys : List Step) (t : Trail) → SafeSteps stack i xs t → SafeSteps stack i ys (fold (steps i) t xs) →
      SafeSteps stack i (xs ++ ys) t
  steps_then [] ys t first next = next
  steps_then (x ∷ xs) ys t first next = (first.0, steps_then xs ys (steps i t x) first.1 next)

  readings_safe : (rs : List Reading) (t : Trail) → SafeSteps stack i (map make rs) t
  readings_safe [] t = tt
  readings_safe (r ∷ rs) t = (tt, readings_safe rs (steps i t (make r)))

  module _ (begin : Trail) where
    abbrev IsSafeSheet : Sheet → Type 0
    IsSafeSheet s = SafeSteps stack i s.steps begin

    makes_safe : (s : Sheet) (l : Line) → IsSafeSheet s → IsSafeSheet (makes s l)
    makes_safe s l safe = steps_then s.steps (map make l.readings) begin safe (readings_safe l.readings (ran i begin s))

    step_safe : (s : Sheet) (step : Step) → IsSafeSheet s → IsSafeStep stack i step (ran i begin s) →
        SafeSteps stack i (s.steps ++ step ∷ []) begin
    step_safe s step safe is = steps_then s.steps (step ∷ []) begin safe (is, tt)

    -- messages that are made
    keeps_safe : (s : Sheet) (m : Making) → IsSafeSheet s → IsSafeSheet (keeps_message s m).sheet
    keeps_safe s m safe = step_safe s (keep m) safe tt

    core_safe : (c : Core) (s : Sheet) → IsSafeSheet s → IsSafeSheet (placed_core c s).sheet
    core_safe body s safe = safe
    core_safe (noted k) s safe = safe
    core_safe (taken_message r carried) s safe = keeps_safe s (code.taken_message r carried) safe
    core_safe nothing s safe = safe

    placed_safe : (m : TraceMessage) (s : Sheet) → IsSafeSheet s → IsSafeSheet (placed_message m s).sheet
    placed_safe (core c) s safe = core_safe c s safe
    placed_safe (held p c e r carried) s safe =
        let x = straight s.names e (sheet_line s) in let y = straight s.names r x.line in
        keeps_safe (makes s y.line) (code.held p c x.at y.at carried) (makes_safe s y.line safe)
    placed_safe (cut m e k) s safe =
        let b = placed_message m s in let x = straight b.sheet.names e (sheet_line b.sheet) in let y =
        straight b.sheet.names k x.line in
        keeps_safe (makes b.sheet y.line) (code.cut b.at x.at y.at) (makes_safe b.sheet y.line (placed_safe m s safe))
    placed_safe (tail m e) s safe =
        let b = placed_message m s in let x = straight b.sheet.names e (sheet_line b.sheet) in
        keeps_safe (makes b.sheet x.line) (code.tail b.at x.at) (makes_safe b.sheet x.line (placed_safe m s safe))
    placed_safe (join m w) s safe =
        let b = placed_message m s in let d = placed_message w b.sheet in
        keeps_safe d.sheet (code.join b.at d.at) (placed_safe w b.sheet (placed_safe m s safe))

    sending_safe : (m : Option Chained) (s : Sheet) → IsSafeSheet s → IsSafeSheet (sending m s).sheet
    sending_safe None s safe = safe
    sending_safe (Some m) s safe = core_safe m.core s safe

    -- one operation
    writes_safe : (t : Trail) (s : Sheet) (o : Operation) → Written i begin t s → IsSafe stack i o t → IsSafeSheet s →
        IsSafeSheet (writes s o)
    writes_safe t s (bind e) a is safe = makes_safe s (straight s.names e (sheet_line s)).line safe
    writes_safe t s (note m) a is safe = placed_safe m s safe
    writes_safe t s (check e) a is safe = safe
    writes_safe t s (set p c e v) a is safe =
        let x = straight s.names e (sheet_line s) in let y = straight s.names v x.line in
        step_safe (makes s y.line) (code.set p c x.at y.at) (makes_safe s y.line safe) tt
    writes_safe t s (set_square p c r k v) a is safe =
        let x = straight s.names r (sheet_line s) in let y = straight s.names k x.line in let q =
        straight s.names v y.line in
        step_safe (makes s q.line) (code.set_square p c x.at y.at q.at) (makes_safe s q.line safe) tt
    writes_safe t s (push p c e numbers m) a is safe =
        let x = straight s.names e (sheet_line s) in let y = all_straight s.names numbers x.line in let z =
        sending m (makes s y.line) in
        let f = given_change i begin t s (e ∷ numbers) m a in
        step_safe z.sheet (code.push p c x.at y.at z.sent) (sending_safe m (makes s y.line) (makes_safe s y.line safe))
        (subst₃ (λ ns ss w. PushIsSafe stack p c (slice_index ns 0) (state_of ss p)
        (record { numbers = drop 1 ns; message = w }))
        (sym f.numbers) (sym f.written.states) (sym f.message) is)
    writes_safe t s (take p c e) a is safe =
        let x = straight s.names e (sheet_line s) in let z = makes s x.line in let f = given_change i begin
        t s (e ∷ []) None a in
        step_safe z (code.take p c x.at) (makes_safe s x.line safe)
        (subst₂ (λ ns ss. is_some (row_at (state_of ss p) c (slice_index ns 0) 0) ≡ true) (sym f.numbers)
        (sym f.written.states) is)
    writes_safe t s (output dir kind numbers m) a is safe =
        let z = sending m s in let f = given_output i begin t s numbers m a in
        step_safe z.sheet (code.output dir kind (map (operand_for s.names) numbers) z.sent) (sending_safe m s safe)
        (subst₂ (λ ns w. IsEvent (IsFrom stack (edge_place stack dir)) (event_of kind ns w)) (sym f.numbers)
        (sym f.message) is)

    all_safe : (os : List Operation) (t : Trail) (s : Sheet) → list_all is_done os ≡ true → Written i begin t s →
        SafeTrace stack i os (on t) →
        IsSafeSheet s → IsSafeSheet (fold writes s os)
    all_safe [] t s done a is safe = safe
    all_safe (o ∷ os) t s done a is safe = let both = and_parts (is_done o) (list_all is_done os) done in
        all_safe os (does i t o) (writes s o) both.1 (writes_same i begin t s o a)
        (subst (SafeTrace stack i os) (goes_done i t o both.0) is.1) (writes_safe t s o a is.0 safe)

pub code_is_safe : CodeIsSafe
code_is_safe stack g i ss done is =
    all_safe stack i (begun ss (tested i (code_of g).tests ss)) g.operations (before ss) (first_sheet (guarding g)) done
    (begins_written g i ss) is tt
