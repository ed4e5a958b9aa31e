-- A file that is read, line by line.
use Rattle.std.proofs.Common.{◌≡◌, ℕ, zero, suc, ◌+◌, ◌-◌, ◌≤◌, Bool, true, false, if◌then◌else◌, List, [], ◌∷◌, ◌++◌}
use Rattle.std.proofs.Common.{length, map, take, Option, Some, None, Result, Ok, Err, refl, sym, ap, subst, ◌∙◌, arith}
use Rattle.std.specs.Prelude.{◌==◌, bytes_eq, codes, option_and_then, slice_index}
use Rattle.std.proofs.lemmas.List.{length-take}
use Rattle.std.proofs.lemmas.List.Sums.{count_by-le-length}
use Rattle.std.proofs.lemmas.List.Splits.{length-slice_split}
use Rattle.std.proofs.lemmas.Option.{none-some}
use Rattle.audit_mean.specs.Report.{◌>>=◌, in_form}
use Rattle.audit_mean.specs.Text.{lines_of, unended}
use Rattle.layer_mean.specs.Tree.{LayerTree}
use Rattle.trace_mean.specs.Trace as trace
use Rattle.pack_mean.specs.Named.{Named, naming}
use Rattle.pack_mean.specs.Operation.{operation_said}
use Rattle.pack_mean.specs.File as file
use Rattle.pack_mean.specs.File.{Due, line_read, next_case, operation_line, traces_from, within, with_operation}
use Rattle.pack_words.specs.declared.error.LineError.{LineError}
use Rattle.pack_words.specs.declared.error.LineError.TheVariants.{Form, Memory}
use Rattle.pack_mean.specs.Accepted.{longest_file}
use Rattle.pack_read.proofs.Bare.{read_alike}
use Rattle.pack_read.specs.declared.due.Due as heads
use Rattle.pack_read.specs.declared.reading.Reading.{Reading}
use Rattle.pack_read.specs.declared.reading.FilePart.TheVariants.{Idle, Within}
use Rattle.pack_read.specs.Open.{Adds, held_in, left_after, named_of}
use Rattle.trace_core.specs.Trees.{trace_tree}
use Rattle.pack_read.specs.declared.error.ReadError.{ReadError}
use Rattle.trace_core.specs.declared.trace.Trace.{Trace}
use Rattle.std.specs.declared.alloc.Global.{Global}
use Rattle.std.specs.Prelude.{Vec}
use Rattle.pack_read.specs.Files.{Goes, Reads, bare, begins, begun_after, due_tree, line_from, onward, reading_in}
use Rattle.pack_read.specs.Files.{stage_in, traces_of}

-- the line with which the next case begins
next_is : (due : List Due) (traces : List (List trace.Operation)) (line : List ℕ) (b : Bool) → b ≡ begins due line →
    next_case due traces line ≡ (if b then Some (onward due traces) else None)
next_is [] traces line b e = ap (λ z. if z then Some (onward [] traces) else None) (sym e)
next_is (d ∷ due) traces line b e = ap (λ z. if z then Some (onward (d ∷ due) traces) else None) (sym e)

-- a line in a case
abbrev within_of : List LayerTree → Reading → file.Stage
within_of stack r = within (map due_tree r.due.now) (named_of stack r.current) r.current.left

abbrev within_reading : List LayerTree → Reading → file.Reading
within_reading stack r = record { stage = within_of stack r; held = held_in r.current; traces = traces_of r }

line_in_case : (stack : List LayerTree) (r : Reading) (line : List ℕ) → r.stage ≡ Within →
    line_from stack r line ≡ line_read stack (within_reading stack r) (within_of stack r) line
line_in_case stack r line e = ap (λ stage. line_read stack
    (record { stage = stage_in stack stage r.due.now r.current; held = held_in r.current; traces = traces_of r })
    (stage_in stack stage r.due.now r.current) line) e

-- with one more operation
with_is : (stack : List LayerTree) (due : List Due) (s : Named) (left n : ℕ) (r : file.Reading) (o : trace.Operation) →
    left_after left o ≡ Some n →
    with_operation stack due s left r o ≡
    Some (record r { stage = within due (naming stack s o) n; held = r.held ++ o ∷ [] })
with_is stack due s left n r (trace.note m) e =
    ap (option_and_then (λ k.
    Some (record r { stage = within due (naming stack s (trace.note m)) k; held = r.held ++ trace.note m ∷ [] }))) e
with_is stack due s zero n r o e = absurd (none-some n e)
with_is stack due s (suc left) n r o e =
    ap (option_and_then (λ k. Some (record r { stage = within due (naming stack s o) k; held = r.held ++ o ∷ [] }))) e

with_none : (stack : List LayerTree) (due : List Due) (s : Named) (left : ℕ) (r : file.Reading) (o : trace.Operation) →
    left_after left o ≡ None →
    with_operation stack due s left r o ≡ None
with_none stack due s left r (trace.note m) e = absurd (none-some left (sym e))
with_none stack due s zero r o e = refl
with_none stack due s (suc left) r o e = absurd (none-some left (sym e))

none_said : (stack : List LayerTree) (due : List Due) (s : Named) (left : ℕ) (r : file.Reading)
    (o : Option trace.Operation) →
    option_and_then (left_after left) o ≡ None → operation_line stack due s left r o ≡ None
none_said stack due s left r None e = refl
none_said stack due s left r (Some o) e = with_none stack due s left r o e

pub case_added : (stack : List LayerTree) (old new : Reading) (line : List ℕ) (r : Result (Unit {0}) LineError) →
    old.stage ≡ Within →
    new.stage ≡ old.stage → new.due ≡ old.due → new.traces ≡ old.traces →
    false ≡ begins (map due_tree old.due.now) line →
    Adds stack line old.current new.current r → Goes (line_from stack old line) stack new r
case_added stack old new line r within_is stage due traces e h = go r h where
  said_line : line_from stack old line ≡ operation_line stack (map due_tree old.due.now) (named_of stack old.current)
      old.current.left
      (within_reading stack old)
      (operation_said stack (named_of stack old.current) line)
  said_line = line_in_case stack old line within_is
      ∙ ap (file.case_line stack (map due_tree old.due.now) (named_of stack old.current) old.current.left
      (within_reading stack old) line)
      (next_is (map due_tree old.due.now) (traces_of old ++ held_in old.current ∷ []) line false e)

  go : (r : Result (Unit {0}) LineError) → Adds stack line old.current new.current r →
      Goes (line_from stack old line) stack new r
  go (Ok done) h = record {
    is = said_line
        ∙ ap (operation_line stack (map due_tree old.due.now) (named_of stack old.current) old.current.left
        (within_reading stack old)) h.said
        ∙ with_is stack (map due_tree old.due.now) (named_of stack old.current) old.current.left new.current.left
        (within_reading stack old) h.operation h.left
        ∙ sym (λ i. Some (record {
          stage = within (map due_tree (due i).now) (h.named i) new.current.left;
          held = h.held i;
          traces = map trace_tree (traces i).items;
        }))
        ∙ sym (λ i. Some (record {
          stage = stage_in stack ((stage ∙ within_is) i) new.due.now new.current;
          held = held_in new.current;
          traces = traces_of new;
        }));
    parts = h.parts;
  }
  go (Err Form) h = said_line ∙ none_said stack (map due_tree old.due.now) (named_of stack old.current) old.current.left
      (within_reading stack old)
      (operation_said stack (named_of stack old.current) line) h
  go (Err Memory) h = tt

-- a line before the first case
pub idle_line : (stack : List LayerTree) (old new : Reading) (line : List ℕ) (r : Result (Unit {0}) LineError) →
    old.stage ≡ Idle →
    Goes (next_case (map due_tree old.due.now) (traces_of old) line) stack new r →
    Goes (line_from stack old line) stack new r
idle_line stack old new line r e h = subst (λ stage. Goes (line_read stack
    (record {
      stage = stage_in stack stage old.due.now old.current;
      held = held_in old.current;
      traces = traces_of old;
    })
    (stage_in stack stage old.due.now old.current) line) stack new r) (sym e) h

-- what is read of the lines after one
abbrev goes_on : List LayerTree → ℕ → List (List ℕ) → Option file.Reading → Result (List (List trace.Operation)) ℕ
goes_on stack number lines read = in_form number read >>= λ next. traces_from stack next (suc number) lines

-- a text has at most one line more than bytes
short : (last : Bool) (text : List ℕ) → length (if last then take (length text - 1) text else text) ≤ length text
short true text = omega (arith, length-take (length text - 1) text)
short false text = omega arith

pub lines_bound : (text : List ℕ) → length (lines_of text) ≤ length text + 1
lines_bound [] = omega arith
lines_bound (byte ∷ rest) =
    let text : List ℕ = byte ∷ rest in
    let parts = length-slice_split (λ b. b == 10) (unended text) in
    let feeds = count_by-le-length (λ b. b == 10) (unended text) in
    let bytes = short (slice_index text (length text - 1) == 10) text in
    omega arith

pub rest_bound : (text first : List ℕ) (after : List (List ℕ)) → lines_of text ≡ first ∷ after →
    length text ≤ longest_file →
    length after ≤ longest_file
rest_bound text first after split small =
    let bound = lines_bound text in
    let one : length (lines_of text) ≡ length (first ∷ after) = ap length split in
    omega (arith, bound, one, small)

-- after the first line
pub first_read : (stack : List LayerTree) (dues : List Due) (heads : List heads.Due) (first : List ℕ)
    (all after : List (List ℕ)) → all ≡
    first ∷ after →
    bytes_eq first (codes "bypasses 1") ≡ true → map bare dues ≡ map due_tree heads →
    traces_from stack (file.begun dues) 1 all ≡ traces_from stack (begun_after heads) 2 after
first_read stack dues heads first all after split is alike =
    sym (read_alike stack dues (map due_tree heads) 1 all alike)
    ∙ ap (traces_from stack (file.begun (map due_tree heads)) 1) split
    ∙ ap (λ b. goes_on stack 1 after (if b then Some (begun_after heads) else None)) is

-- after the last line
pub ended_read : (stack : List LayerTree) (r : Reading) (number : ℕ) (lines : List (List ℕ))
    (whole : Result (List (List trace.Operation)) ℕ)
    (read : Result (Vec Trace Global) ReadError) → lines ≡ [] → traces_from stack (reading_in stack r) number lines ≡
    whole →
    Reads (file.traces_at_end (reading_in stack r).stage number (reading_in stack r).traces) read → Reads whole read
ended_read stack r number lines whole read none e h =
    subst (λ z. Reads z read) (sym (ap (traces_from stack (reading_in stack r) number) none) ∙ e) h
