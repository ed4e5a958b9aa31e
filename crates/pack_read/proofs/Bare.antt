-- How a file is read doesn't depend on the stack's own traces.
use Rattle.std.proofs.Common.{◌≡◌, ℕ, zero, suc, Bool, true, false, if◌then◌else◌, List, [], ◌∷◌, ◌++◌, map, Option}
use Rattle.std.proofs.Common.{Some, None, Result, Err, refl, sym, ap, ◌∙◌}
use Rattle.std.specs.Prelude.{bytes_eq, codes, option_map}
use Rattle.audit_mean.specs.Report.{◌>>=◌, in_form}
use Rattle.layer_mean.specs.Tree.{LayerTree}
use Rattle.trace_mean.specs.Trace as trace
use Rattle.pack_mean.specs.Named.{Named, nothing_named}
use Rattle.pack_mean.specs.Operation.{operation_said}
use Rattle.pack_mean.specs.File.{Due, Reading, Stage, opening, idle, within, ended, begun, case_line, first_line}
use Rattle.pack_mean.specs.File.{heading, line_read, most_operations, next_case, operation_line, traces_at_end}
use Rattle.pack_mean.specs.File.{traces_from, with_operation}
use Rattle.pack_read.specs.Files.{bare}

abbrev bare_stage : Stage → Stage
bare_stage (opening due) = opening (map bare due)
bare_stage (idle due) = idle (map bare due)
bare_stage (within due s left) = within (map bare due) s left
bare_stage ended = ended

abbrev bare_reading : Reading → Reading
bare_reading r = record { stage = bare_stage r.stage; held = r.held; traces = r.traces }

first_bare : (due : List Due) (line : List ℕ) → first_line (map bare due) line ≡
    option_map bare_reading (first_line due line)
first_bare due line = go (bytes_eq line (codes "bypasses 1")) where
  go : (b : Bool) → (if b then Some (record { stage = idle (map bare due); held = []; traces = [] }) else None)
      ≡ option_map bare_reading (if b then Some (record { stage = idle due; held = []; traces = [] }) else None)
  go true = refl
  go false = refl

next_bare : (due : List Due) (traces : List (List trace.Operation)) (line : List ℕ) →
    next_case (map bare due) traces line ≡ option_map bare_reading (next_case due traces line)
next_bare [] traces line = go (bytes_eq line (codes "end")) where
  go : (b : Bool) → (if b then Some (record { stage = ended; held = []; traces = traces }) else None)
      ≡ option_map bare_reading (if b then Some (record { stage = ended; held = []; traces = traces }) else None)
  go true = refl
  go false = refl
next_bare (d ∷ due) traces line = go (bytes_eq line (heading d.entry d.case)) where
  go : (b : Bool) → (if b then Some (record {
    stage = within (map bare due)
        (nothing_named d.fields) most_operations;
    held = [];
    traces = traces;
  }) else None)
      ≡ option_map bare_reading (if b then Some (record {
        stage = within due
            (nothing_named d.fields) most_operations;
        held = [];
        traces = traces;
      }) else None)
  go true = refl
  go false = refl

with_bare : (stack : List LayerTree) (due : List Due) (s : Named) (left : ℕ) (r : Reading) (o : trace.Operation) →
    with_operation stack (map bare due) s left (bare_reading r) o ≡
    option_map bare_reading (with_operation stack due s left r o)
with_bare stack due s left r (trace.note m) = refl
with_bare stack due s zero r o = refl
with_bare stack due s (suc left) r o = refl

operation_bare : (stack : List LayerTree) (due : List Due) (s : Named) (left : ℕ) (r : Reading)
    (o : Option trace.Operation) →
    operation_line stack (map bare due) s left (bare_reading r) o ≡
    option_map bare_reading (operation_line stack due s left r o)
operation_bare stack due s left r None = refl
operation_bare stack due s left r (Some o) = with_bare stack due s left r o

case_bare : (stack : List LayerTree) (due : List Due) (s : Named) (left : ℕ) (r : Reading) (line : List ℕ)
    (next : Option Reading) →
    case_line stack (map bare due) s left (bare_reading r) line (option_map bare_reading next) ≡ option_map bare_reading
    (case_line stack due s left r line next)
case_bare stack due s left r line (Some next) = refl
case_bare stack due s left r line None = operation_bare stack due s left r (operation_said stack s line)

line_bare : (stack : List LayerTree) (r : Reading) (stage : Stage) (line : List ℕ) →
    line_read stack (bare_reading r) (bare_stage stage) line ≡ option_map bare_reading (line_read stack r stage line)
line_bare stack r (opening due) line = first_bare due line
line_bare stack r (idle due) line = next_bare due r.traces line
line_bare stack r (within due s left) line =
    ap (case_line stack (map bare due) s left (bare_reading r) line) (next_bare due (r.traces ++ r.held ∷ []) line)
    ∙ case_bare stack due s left r line (next_case due (r.traces ++ r.held ∷ []) line)
line_bare stack r ended line = refl

end_bare : (stage : Stage) (number : ℕ) (traces : List (List trace.Operation)) →
    traces_at_end (bare_stage stage) number traces ≡
    traces_at_end stage number traces
end_bare (opening due) number traces = refl
end_bare (idle due) number traces = refl
end_bare (within due s left) number traces = refl
end_bare ended number traces = refl

abbrev goes_on : List LayerTree → ℕ → List (List ℕ) → Option Reading → Result (List (List trace.Operation)) ℕ
goes_on stack number lines None = Err number
goes_on stack number lines (Some next) = traces_from stack next (suc number) lines

reading_bare : (stack : List LayerTree) (r : Reading) (number : ℕ) (lines : List (List ℕ)) →
    traces_from stack (bare_reading r) number lines ≡ traces_from stack r number lines
reading_bare stack r number [] = end_bare r.stage number r.traces
reading_bare stack r number (line ∷ lines) =
    goes_from (bare_reading r)
    ∙ ap (goes_on stack number lines) (line_bare stack r r.stage line)
    ∙ go (λ next. reading_bare stack next (suc number) lines) (line_read stack r r.stage line)
    ∙ sym (goes_from r)
  where
    step : (o : Option Reading) → (in_form number o >>= λ next. traces_from stack next (suc number) lines) ≡
        goes_on stack number lines o
    step None = refl
    step (Some next) = refl

    goes_from : (r : Reading) → traces_from stack r number (line ∷ lines) ≡
        goes_on stack number lines (line_read stack r r.stage line)
    goes_from r = step (line_read stack r r.stage line)

    go : ((next : Reading) → traces_from stack (bare_reading next) (suc number) lines ≡
        traces_from stack next (suc number) lines) →
        (o : Option Reading) → goes_on stack number lines (option_map bare_reading o) ≡ goes_on stack number lines o
    go alike None = refl
    go alike (Some next) = alike next

-- for cases that are due alike, it is read alike
pub read_alike : (stack : List LayerTree) (dues heads : List Due) (number : ℕ) (lines : List (List ℕ)) →
    map bare dues ≡ heads →
    traces_from stack (begun heads) number lines ≡ traces_from stack (begun dues) number lines
read_alike stack dues heads number lines e = ap (λ l. traces_from stack (begun l) number lines) (sym e) ∙
    reading_bare stack (begun dues) number lines
