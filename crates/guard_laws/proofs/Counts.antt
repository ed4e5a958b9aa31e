-- Neither hoisting nor simplifying nor the code adds a join or an output.
use Rattle.std.proofs.Common.{◌≡◌, ℕ, ◌+◌, Bool, true, false, List, [], ◌∷◌, ◌++◌, map, Option, Some, None, fold, refl}
use Rattle.std.proofs.Common.{sym, ap, ap₂, ◌∙◌}
use Rattle.std.proofs.Common.{arith, zero-add}
use Rattle.std.specs.Prelude.{if◌then◌else◌}
use Rattle.std.specs.List.{sum_by}
use Rattle.std.proofs.lemmas.List.Sums.{sum_by-cons, sum_by-append}
use Rattle.trace_mean.specs.Trace.{Core, body, noted, taken_message, nothing, TraceNumber, TraceMessage, core, held}
use Rattle.trace_mean.specs.Trace.{cut, tail, join, Chained, Operation, bind, note, check, set, set_square, push, take}
use Rattle.trace_mean.specs.Trace.{output, Guarded}
use Rattle.trace_mean.specs.Follow.{unchecked}
use Rattle.trace_mean.specs.Counts.{message_joins, note_joins, an_output}
use Rattle.guard_mean.specs.Simplify.{reduced_message, reduced_operation, keeps, guarded_by}
use Rattle.guard_mean.specs.Code as code
use Rattle.guard_mean.specs.Code.{Reading, Step, make, keep, Code}
use Rattle.guard_mean.specs.Straight.{straight, all_straight, Sheet, sheet_line, makes, placed_core, placed_message}
use Rattle.guard_mean.specs.Straight.{sending}
use Rattle.guard_mean.specs.Straight.{writes, guarding, first_sheet, code_of}
use Rattle.guard_laws.specs.Counts.{a_join, a_put, HoistedAddsNothing, SimplifiedAddsNothing, CodeAddsNothing}

-- joins and outputs
module _ (f : Operation → ℕ) (none : (e : TraceNumber) → f (check e) ≡ 0) where
  same_tail : (o : Operation) (os ps : List Operation) → sum_by f os ≡ sum_by f ps →
      sum_by f (o ∷ os) ≡ sum_by f (o ∷ ps)
  same_tail o os ps same = sum_by-cons f o os ∙ ap (λ n. f o + n) same ∙ sym (sum_by-cons f o ps)

  sum_unchecked : (os : List Operation) → sum_by f (unchecked os) ≡ sum_by f os
  sum_unchecked [] = refl
  sum_unchecked (check e ∷ os) = sum_unchecked os
      ∙ (let zero_there = none e in let r : sum_by f os ≡ f (check e) + sum_by f os = omega (arith, zero_there) in r) ∙
      sym (sum_by-cons f (check e) os)
  sum_unchecked (bind e ∷ os) = same_tail (bind e) (unchecked os) os (sum_unchecked os)
  sum_unchecked (note m ∷ os) = same_tail (note m) (unchecked os) os (sum_unchecked os)
  sum_unchecked (set p c e v ∷ os) = same_tail (set p c e v) (unchecked os) os (sum_unchecked os)
  sum_unchecked (set_square p c r k v ∷ os) = same_tail (set_square p c r k v) (unchecked os) os (sum_unchecked os)
  sum_unchecked (push p c e numbers m ∷ os) = same_tail (push p c e numbers m) (unchecked os) os (sum_unchecked os)
  sum_unchecked (take p c e ∷ os) = same_tail (take p c e) (unchecked os) os (sum_unchecked os)
  sum_unchecked (output dir kind numbers m ∷ os) = same_tail (output dir kind numbers m) (unchecked os) os
      (sum_unchecked os)

  sum_reduced : ((o : Operation) → f (reduced_operation o) ≡ f o) → (os : List Operation) →
      sum_by f (map reduced_operation os) ≡ sum_by f os
  sum_reduced same [] = refl
  sum_reduced same (o ∷ os) = sum_by-cons f (reduced_operation o) (map reduced_operation os) ∙
      ap₂ (λ a b. a + b) (same o) (sum_reduced same os)
      ∙ sym (sum_by-cons f o os)

joins_stay : (m : TraceMessage) → message_joins (reduced_message [] [] m) ≡ message_joins m
joins_stay (core c) = refl
joins_stay (held p c e r carried) = refl
joins_stay (cut m f n) = joins_stay m
joins_stay (tail m f) = joins_stay m
joins_stay (join a b) = ap₂ (λ x y. 1 + x + y) (joins_stay a) (joins_stay b)

operation_joins : (o : Operation) → note_joins (reduced_operation o) ≡ note_joins o
operation_joins (bind e) = refl
operation_joins (note m) = joins_stay m
operation_joins (check e) = refl
operation_joins (set p c e v) = refl
operation_joins (set_square p c r k v) = refl
operation_joins (push p c e numbers m) = refl
operation_joins (take p c e) = refl
operation_joins (output dir kind numbers m) = refl

operation_outputs : (o : Operation) → an_output (reduced_operation o) ≡ an_output o
operation_outputs (bind e) = refl
operation_outputs (note m) = refl
operation_outputs (check e) = refl
operation_outputs (set p c e v) = refl
operation_outputs (set_square p c r k v) = refl
operation_outputs (push p c e numbers m) = refl
operation_outputs (take p c e) = refl
operation_outputs (output dir kind numbers m) = refl

by_kept : (f : Operation → ℕ) (values : List TraceNumber) (os : List Operation) (kept : Option (List TraceNumber)) →
    sum_by f (guarded_by values os kept).operations ≡ sum_by f os
by_kept f values os None = refl
by_kept f values os (Some ks) = refl

-- readings join nothing and put nothing out
readings_none : (f : Step → ℕ) → ((r : Reading) → f (make r) ≡ 0) → (rs : List Reading) → sum_by f (map make rs) ≡ 0
readings_none f none [] = refl
readings_none f none (r ∷ rs) = sum_by-cons f (make r) (map make rs) ∙
    ap₂ (λ a b. a + b) (none r) (readings_none f none rs)

more_readings : (f : Step → ℕ) → ((r : Reading) → f (make r) ≡ 0) → (ss : List Step) (rs : List Reading) →
    sum_by f (ss ++ map make rs) ≡ sum_by f ss
more_readings f none ss rs = sum_by-append f ss (map make rs) ∙ ap (λ n. sum_by f ss + n) (readings_none f none rs)
    ∙ (let e : sum_by f ss + 0 ≡ sum_by f ss = omega arith in e)

one_step : (f : Step → ℕ) (ss : List Step) (s : Step) → sum_by f (ss ++ s ∷ []) ≡ sum_by f ss + f s
one_step f ss s = sum_by-append f ss (s ∷ []) ∙
    ap (λ n. sum_by f ss + n) (sum_by-cons f s [] ∙ (let e : f s + sum_by f [] ≡ f s = omega arith in e))

-- a step after readings
after_readings : (f : Step → ℕ) → ((r : Reading) → f (make r) ≡ 0) → (ss : List Step) (rs : List Reading) (s : Step) →
    sum_by f ((ss ++ map make rs) ++ s ∷ []) ≡ sum_by f ss + f s
after_readings f none ss rs s = one_step f (ss ++ map make rs) s ∙ ap (λ n. n + f s) (more_readings f none ss rs)

-- what steps count for, and what messages and operations do
record Counts (f : Step → ℕ) (g : TraceMessage → ℕ) (h : Operation → ℕ) : Type 0 where
  makes_none : (r : Reading) → f (make r) ≡ 0
  takes_none : (row : ℕ) (c : _) → f (keep (code.taken_message row c)) ≡ 0
  holds_none : (p c : ℕ) (i r : _) (carried : _) → f (keep (code.held p c i r carried)) ≡ 0
  cuts_none : (m : _) (a b : _) → f (keep (code.cut m a b)) ≡ 0
  tails_none : (m : _) (a : _) → f (keep (code.tail m a)) ≡ 0
  joins_one : (p m : TraceMessage) (a b : _) → f (keep (code.join a b)) + g p + g m ≡ g (join p m)
  core_none : (c : Core) → g (core c) ≡ 0
  held_none : (p c : ℕ) (e r : TraceNumber) (carried : _) → g (held p c e r carried) ≡ 0
  cut_same : (m : TraceMessage) (e n : TraceNumber) → g (cut m e n) ≡ g m
  tail_same : (m : TraceMessage) (e : TraceNumber) → g (tail m e) ≡ g m
  bind_none : (e : TraceNumber) → h (bind e) ≡ 0
  check_none : (e : TraceNumber) → h (check e) ≡ 0
  note_same : (m : TraceMessage) → h (note m) ≡ g m
  set_same : (p c : ℕ) (e v : TraceNumber) (i x : _) → f (code.set p c i x) ≡ h (set p c e v)
  square_same : (p c : ℕ) (r k v : TraceNumber) (i j x : _) → f (code.set_square p c i j x) ≡ h (set_square p c r k v)
  push_same : (p c : ℕ) (e : TraceNumber) (ns : List TraceNumber) (m : Option Chained) (i xs s : _) →
      f (code.push p c i xs s) ≡ h (push p c e ns m)
  take_same : (p c : ℕ) (e : TraceNumber) (i : _) → f (code.take p c i) ≡ h (take p c e)
  output_same : (d k ns : _) (m : Option Chained) (xs s : _) → f (code.output d k xs s) ≡ h (output d k ns m)

module _ (f : Step → ℕ) (g : TraceMessage → ℕ) (h : Operation → ℕ) (so : Counts f g h) where
  abbrev sum : Sheet → ℕ
  sum s = sum_by f s.steps

  core_sum : (c : Core) (s : Sheet) → sum (placed_core c s).sheet ≡ sum s
  core_sum body s = refl
  core_sum (noted k) s = refl
  core_sum (taken_message r carried) s = one_step f s.steps (keep (code.taken_message r carried)) ∙
      (let e = so.takes_none r carried in let t : sum s + f (keep (code.taken_message r carried)) ≡ sum s =
      omega (arith, e) in t)
  core_sum nothing s = refl

  placed_sum : (m : TraceMessage) (s : Sheet) → sum (placed_message m s).sheet ≡ sum s + g m
  placed_sum (core c) s = core_sum c s ∙
      (let e = so.core_none c in let t : sum s ≡ sum s + g (core c) = omega (arith, e) in t)
  placed_sum (held p c e r carried) s =
      let x = straight s.names e (sheet_line s) in let y = straight s.names r x.line in
      after_readings f so.makes_none s.steps y.line.readings (keep (code.held p c x.at y.at carried))
      ∙ ap₂ (λ a b. sum s + a) (so.holds_none p c x.at y.at carried ∙ sym (so.held_none p c e r carried))
      (so.held_none p c e r carried)
  placed_sum (cut m a b) s =
      let d = placed_message m s in let x = straight d.sheet.names a (sheet_line d.sheet) in let y =
      straight d.sheet.names b x.line in
      after_readings f so.makes_none d.sheet.steps y.line.readings (keep (code.cut d.at x.at y.at))
      ∙ (let rest = placed_sum m s in let e = so.cuts_none d.at x.at y.at in let k = so.cut_same m a b in
      let t : sum d.sheet + f (keep (code.cut d.at x.at y.at)) ≡ sum s + g (cut m a b) = omega (arith, rest, e, k) in t)
  placed_sum (tail m a) s =
      let d = placed_message m s in let x = straight d.sheet.names a (sheet_line d.sheet) in
      after_readings f so.makes_none d.sheet.steps x.line.readings (keep (code.tail d.at x.at))
      ∙ (let rest = placed_sum m s in let e = so.tails_none d.at x.at in let k = so.tail_same m a in
      let t : sum d.sheet + f (keep (code.tail d.at x.at)) ≡ sum s + g (tail m a) = omega (arith, rest, e, k) in t)
  placed_sum (join p m) s =
      let a = placed_message p s in let b = placed_message m a.sheet in
      one_step f b.sheet.steps (keep (code.join a.at b.at))
      ∙ (let first = placed_sum p s in let second = placed_sum m a.sheet in let e = so.joins_one p m a.at b.at in
      let t : sum b.sheet + f (keep (code.join a.at b.at)) ≡ sum s + g (join p m) = omega (arith, first, second, e) in
      t)

  sending_sum : (m : Option Chained) (s : Sheet) → sum (sending m s).sheet ≡ sum s
  sending_sum None s = refl
  sending_sum (Some m) s = core_sum m.core s

  writes_sum : (s : Sheet) (o : Operation) → sum (writes s o) ≡ sum s + h o
  writes_sum s (bind e) = let x = straight s.names e (sheet_line s) in
      more_readings f so.makes_none s.steps x.line.readings
      ∙ (let k = so.bind_none e in let t : sum s ≡ sum s + h (bind e) = omega (arith, k) in t)
  writes_sum s (note m) = placed_sum m s ∙ ap (λ n. sum s + n) (sym (so.note_same m))
  writes_sum s (check e) = let k = so.check_none e in let t : sum s ≡ sum s + h (check e) = omega (arith, k) in t
  writes_sum s (set p c e v) =
      let x = straight s.names e (sheet_line s) in let y = straight s.names v x.line in
      after_readings f so.makes_none s.steps y.line.readings (code.set p c x.at y.at) ∙
      ap (λ n. sum s + n) (so.set_same p c e v x.at y.at)
  writes_sum s (set_square p c r k v) =
      let x = straight s.names r (sheet_line s) in let y = straight s.names k x.line in let z =
      straight s.names v y.line in
      after_readings f so.makes_none s.steps z.line.readings (code.set_square p c x.at y.at z.at)
      ∙ ap (λ n. sum s + n) (so.square_same p c r k v x.at y.at z.at)
  writes_sum s (push p c e ns m) =
      let x = straight s.names e (sheet_line s) in let y = all_straight s.names ns x.line in
      let b = makes s y.line in let d = sending m b in
      one_step f d.sheet.steps (code.push p c x.at y.at d.sent)
      ∙ ap₂ (λ a b. a + b) (sending_sum m b ∙ more_readings f so.makes_none s.steps y.line.readings)
      (so.push_same p c e ns m x.at y.at d.sent)
  writes_sum s (take p c e) =
      let x = straight s.names e (sheet_line s) in
      after_readings f so.makes_none s.steps x.line.readings (code.take p c x.at) ∙
      ap (λ n. sum s + n) (so.take_same p c e x.at)
  writes_sum s (output d k ns m) =
      let b = sending m s in
      one_step f b.sheet.steps _ ∙ ap₂ (λ a b. a + b) (sending_sum m s) (so.output_same d k ns m _ b.sent)

  writes_all_sum : (os : List Operation) (s : Sheet) → sum (fold writes s os) ≡ sum s + sum_by h os
  writes_all_sum [] s = let e : sum s ≡ sum s + 0 = omega arith in e
  writes_all_sum (o ∷ os) s = writes_all_sum os (writes s o)
      ∙ (let one = writes_sum s o in let rest = sum_by-cons h o os in
      let t : sum (writes s o) + sum_by h os ≡ sum s + sum_by h (o ∷ os) = omega (arith, one, rest) in t)

pub hoisted_adds_nothing : HoistedAddsNothing
hoisted_adds_nothing os =
    record { joins = sum_unchecked note_joins (λ e. refl) os; outputs = sum_unchecked an_output (λ e. refl) os }

pub simplified_adds_nothing : SimplifiedAddsNothing
simplified_adds_nothing g = record {
  joins = by_kept note_joins _ (map reduced_operation g.operations) (fold (keeps _) (Some []) g.conjuncts)
      ∙ sum_reduced note_joins (λ e. refl) operation_joins g.operations;
  outputs = by_kept an_output _ (map reduced_operation g.operations) (fold (keeps _) (Some []) g.conjuncts)
      ∙ sum_reduced an_output (λ e. refl) operation_outputs g.operations;
}

both_same : (b : Bool) (n : ℕ) → (if b then n else n) ≡ n
both_same true n = refl
both_same false n = refl

-- joins, or else outputs
module _ (joins : Bool) where
  abbrev counted : ℕ → ℕ → ℕ
  counted m n = if joins then m else n

  abbrev step_count : Step → ℕ
  step_count s = counted (a_join s) (a_put s)

  abbrev message_count : TraceMessage → ℕ
  message_count m = counted (message_joins m) 0

  abbrev operation_count : Operation → ℕ
  operation_count o = counted (note_joins o) (an_output o)

  counts : Counts step_count message_count operation_count
  counts = record {
    makes_none = λ r. both_same joins 0;
    takes_none = λ r c. both_same joins 0;
    holds_none = λ p c i r k. both_same joins 0;
    cuts_none = λ m a b. both_same joins 0;
    tails_none = λ m a. both_same joins 0;
    joins_one = λ p m a b. joined joins (message_joins p) (message_joins m);
    core_none = λ c. both_same joins 0;
    held_none = λ p c e r k. both_same joins 0;
    cut_same = λ m e n. refl;
    tail_same = λ m e. refl;
    bind_none = λ e. both_same joins 0;
    check_none = λ e. both_same joins 0;
    note_same = λ m. refl;
    set_same = λ p c e v i x. refl;
    square_same = λ p c r k v i j x. refl;
    push_same = λ p c e ns m i xs s. refl;
    take_same = λ p c e i. refl;
    output_same = λ d k ns m xs s. refl;
  } where
    joined : (b : Bool) (m n : ℕ) →
        (if b then 1 else 0) + (if b then m else 0) + (if b then n else 0) ≡ (if b then 1 + m + n else 0)
    joined true m n = refl
    joined false m n = refl

  code_count : (g : Guarded) → sum_by step_count (code_of g).steps ≡ sum_by operation_count g.operations
  code_count g = writes_all_sum step_count message_count operation_count counts g.operations (first_sheet (guarding g))
      ∙
      zero-add (sum_by operation_count g.operations)

pub code_adds_nothing : CodeAddsNothing
code_adds_nothing g = record { joins = code_count true g; outputs = code_count false g }
