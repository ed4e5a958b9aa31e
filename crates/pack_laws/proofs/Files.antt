-- What is read of a file is written so, line by line.
use Rattle.std.proofs.Common.{◌≡◌, ℕ, zero, suc, ◌+◌, Bool, true, false, List, [], ◌∷◌, ◌++◌, map, length, fold, drop}
use Rattle.std.proofs.Common.{Option, Some, None, Ok, codes, bytes_eq, refl, sym, ap, ap₂, ◌∙◌, subst, arith}
use Rattle.std.proofs.Common.{append_assoc, append-nil}
use Rattle.std.specs.Prelude.{if◌then◌else◌}
use Rattle.std.specs.List.{range_with_len}
use Rattle.std.proofs.lemmas.List.{length-map, map-append}
use Rattle.std.proofs.lemmas.List.FromFn.{length-range_with_len}
use Rattle.std.proofs.lemmas.Slice.Eq.{bytes_eq-Decides}
use Rattle.audit_mean.specs.Text.{lines_of}
use Rattle.layer_mean.specs.Tree.{ItemsTree, LayerTree}
use Rattle.trace_mean.specs.Trace.{Operation, bind, note, check, set, set_square, push, take, output}
use Rattle.trace_mean.specs.Fuse.{form_at}
use Rattle.bypass_mean.specs.Text.{layer_of, message_text, writes, operation_lines}
use Rattle.pack_mean.specs.Named.{Named, nothing_named, items_at, naming}
use Rattle.pack_mean.specs.Operation.{operation_said}
use Rattle.pack_mean.specs.File.{Due, due_of, heading, most_operations, Stage, opening, idle, within, ended, Reading}
use Rattle.pack_mean.specs.File.{begun, next_case, with_operation, operation_line, case_line, line_read, traces_at_end}
use Rattle.pack_mean.specs.File.{traces_from}
use Rattle.pack_laws.specs.Written.{note_name, written_with, line_with}
use Rattle.pack_laws.specs.Files.{case_lines, FilesAreWrittenSo}
use Rattle.pack_laws.proofs.Readers.{some_same}
use Rattle.pack_laws.proofs.Words.{called}
use Rattle.pack_laws.proofs.Lines.{what_is_read_is_written_so}
use Rattle.pack_laws.proofs.Reading.{through_form, ok_same}

-- the names of notes, one more
range_more : (a n : ℕ) → range_with_len a n ++ (a + n) ∷ [] ≡ range_with_len a (suc n)
range_more a zero = let same : a + 0 ≡ a = omega arith in ap (λ k. k ∷ []) same
range_more a (suc n) =
    let same : a + suc n ≡ a + 1 + n = omega arith in ap (λ k. a ∷ range_with_len (a + 1) n ++ k ∷ []) same ∙
    ap (λ l. a ∷ l) (range_more (a + 1) n)

notes_more : (n : ℕ) → map note_name (range_with_len 0 n) ++ note_name n ∷ [] ≡ map note_name (range_with_len 0 (n + 1))
notes_more n = sym (map-append note_name (range_with_len 0 n) (n ∷ [])) ∙
    (let zero_more : 0 + n ≡ n = omega arith in ap (λ k. map note_name (range_with_len 0 n ++ k ∷ [])) (sym zero_more))
    ∙
    ap (λ l. map note_name l) (range_more 0 n) ∙
    (let one : suc n ≡ n + 1 = omega arith in ap (λ k. map note_name (range_with_len 0 k)) one)

notes_count : (n : ℕ) → length (map note_name (range_with_len 0 n)) ≡ n
notes_count n = length-map (range_with_len 0 n) note_name ∙ length-range_with_len 0 n

module _ (stack : List LayerTree) where
  -- an operation's line is put after those before
  pub writes_one : (before : List (List ℕ)) (s : Named) (o : Operation) →
      writes true stack (written_with before s) o ≡ written_with (before ++ line_with stack before s o ∷ [])
      (naming stack s o)
  writes_one before s (bind e) = refl
  writes_one before s (check e) = refl
  writes_one before s (set p c e x) = refl
  writes_one before s (set_square p c row column x) = refl
  writes_one before s (push p c e ns message) = refl
  writes_one before s (output dir kind ns message) = refl
  writes_one before s (take p c e) =
      let rows = ap (λ names. map (λ (items : ItemsTree). items.numbers) s.rows ++ names ∷ [])
      (sym (called (form_at (layer_of stack p) c))) ∙
      sym (map-append (λ (items : ItemsTree). items.numbers) s.rows (items_at stack p c ∷ [])) in
      λ x. record {
        binds = s.binds;
        rows = rows x;
        notes = map note_name (range_with_len 0 s.notes);
        lines = before ++ line_with stack before s (take p c e) ∷ [];
      }
  writes_one before s (note m) =
      let count = notes_count s.notes in
      (λ x. record {
        binds = s.binds;
        rows = map (λ (items : ItemsTree). items.numbers) s.rows;
        notes = map note_name (range_with_len 0 s.notes) ++ note_name (count x) ∷ [];
        lines = before ++ (codes "note " ++ note_name (count x) ++ codes " = " ++
            message_text stack (written_with before s) m) ∷ [];
      }) ∙ (λ x. record {
        binds = s.binds;
        rows = map (λ (items : ItemsTree). items.numbers) s.rows;
        notes = notes_more s.notes x;
        lines = before ++ line_with stack before s (note m) ∷ [];
      })

  -- operations, as they are written after what may be named and whatever lines
  abbrev AreWritten : Named → List Operation → List (List ℕ) → Type 0
  AreWritten s operations lines =
      (before : List (List ℕ)) → (fold (writes true stack) (written_with before s) operations).lines ≡ before ++ lines

  more_written : (s : Named) (line : List ℕ) (o : Operation) (os : List Operation) (lines : List (List ℕ)) →
      operation_said stack s line ≡ Some o →
      AreWritten (naming stack s o) os lines → AreWritten s (o ∷ os) (line ∷ lines)
  more_written s line o os lines said h before =
      ap (λ w. (fold (writes true stack) w os).lines) (writes_one before s o) ∙
      h (before ++ line_with stack before s o ∷ []) ∙
      append_assoc before (line_with stack before s o ∷ []) lines ∙
      ap (λ l. before ++ l ∷ lines) (sym (what_is_read_is_written_so stack before s line o said))

  abbrev ending : List (List ℕ)
  ending = codes "end" ∷ []

  -- traces of the cases that are due, and the lines that they have
  record Cases (due : List Due) (traces : List (List Operation)) (all : List (List Operation)) (lines : List (List ℕ)) :
      Type 0 where
    more : List (List Operation)
    all_are : all ≡ traces ++ more
    lines_are : lines ≡ case_lines stack due more ++ ending

  record Rest (due : List Due) (s : Named) (held : List Operation) (traces all : List (List Operation))
      (lines : List (List ℕ)) : Type 0 where
    operations : List Operation
    spelled : List (List ℕ)
    written : AreWritten s operations spelled
    following : List (List ℕ)
    cases : Cases due (traces ++ (held ++ operations) ∷ []) all following
    lines_are : lines ≡ spelled ++ following

  abbrev Left : Stage → List Operation → List (List Operation) → List (List Operation) → List (List ℕ) → Type 0
  Left (opening due) held traces all lines = Cases due [] all (drop 1 lines) ×
      (lines ≡ codes "bypasses 1" ∷ drop 1 lines)
  Left (idle due) held traces all lines = Cases due traces all lines
  Left (within due s left) held traces all lines = Rest due s held traces all lines
  Left ended held traces all lines = (all ≡ traces) × (lines ≡ [])

  module _ (all : List (List Operation)) (line : List ℕ) (lines : List (List ℕ)) where
    abbrev IsLeft : Reading → Type 0
    IsLeft next = Left next.stage next.held next.traces all lines

    next_left : (due : List Due) (traces : List (List Operation)) (next : Reading) →
        next_case due traces line ≡ Some next → IsLeft next →
        Cases due traces all (line ∷ lines)
    next_left [] traces next is left = go (bytes_eq line (codes "end")) refl is left where
      go : (b : Bool) → bytes_eq line (codes "end") ≡ b →
          (if b then Some (record { stage = ended; held = []; traces = traces }) else None) ≡ Some next →
          IsLeft next → Cases [] traces all (line ∷ lines)
      go true e k = some_same (λ n. IsLeft n → Cases [] traces all (line ∷ lines)) k (λ end. record {
        more = [];
        all_are = end.0 ∙ sym (append-nil traces);
        lines_are = ap₂ (λ l ls. l ∷ ls) ((bytes_eq-Decides line (codes "end")).0 e) end.1;
      })
      go false e k = absurd (cc k)
    next_left (d ∷ due) traces next is left = go (bytes_eq line (heading d.entry d.case)) refl is left where
      go : (b : Bool) → bytes_eq line (heading d.entry d.case) ≡ b →
          (if b then Some (record {
            stage = within due (nothing_named d.fields) most_operations;
            held = [];
            traces =
                traces;
          }) else None) ≡ Some next →
          IsLeft next → Cases (d ∷ due) traces all (line ∷ lines)
      go true e k = some_same (λ n. IsLeft n → Cases (d ∷ due) traces all (line ∷ lines)) k (λ rest. record {
        more = rest.operations ∷ rest.cases.more;
        all_are = rest.cases.all_are ∙ append_assoc traces (rest.operations ∷ []) rest.cases.more;
        lines_are = ap₂ (λ l ls. l ∷ ls) ((bytes_eq-Decides line (heading d.entry d.case)).0 e)
            (rest.lines_are ∙ ap₂ (λ a b. a ++ b) (sym (rest.written [])) rest.cases.lines_are ∙
            sym (append_assoc (operation_lines true stack rest.operations) (case_lines stack due rest.cases.more)
            ending));
      })
      go false e k = absurd (cc k)

    more_left : (due : List Due) (s : Named) (left : ℕ) (r : Reading) (o : Operation) (next : Reading) →
        operation_said stack s line ≡ Some o →
        with_operation stack due s left r o ≡ Some next → IsLeft next → Rest due s r.held r.traces all (line ∷ lines)
    more_left due s left r (note m) next said is =
        some_same (λ n. IsLeft n → Rest due s r.held r.traces all (line ∷ lines)) is (λ rest. record {
          operations = note m ∷ rest.operations;
          spelled = line ∷ rest.spelled;
          written = more_written s line (note m) rest.operations rest.spelled said rest.written;
          following = rest.following;
          cases = subst (λ os. Cases due (r.traces ++ os ∷ []) all rest.following)
              (append_assoc r.held (note m ∷ []) rest.operations) rest.cases;
          lines_are = ap (λ ls. line ∷ ls) rest.lines_are;
        })
    more_left due s zero r o next said is = absurd (cc is)
    more_left due s (suc left) r o next said is =
        some_same (λ n. IsLeft n → Rest due s r.held r.traces all (line ∷ lines)) is (λ rest. record {
          operations = o ∷ rest.operations;
          spelled = line ∷ rest.spelled;
          written = more_written s line o rest.operations rest.spelled said rest.written;
          following = rest.following;
          cases = subst (λ os. Cases due (r.traces ++ os ∷ []) all rest.following)
              (append_assoc r.held (o ∷ []) rest.operations) rest.cases;
          lines_are = ap (λ ls. line ∷ ls) rest.lines_are;
        })

    line_left : (r : Reading) (next : Reading) → line_read stack r r.stage line ≡ Some next → IsLeft next →
        Left r.stage r.held r.traces all (line ∷ lines)
    line_left r next is left = go r.stage is where
      operation : (due : List Due) (s : Named) (n : ℕ) (o : Option Operation) → operation_said stack s line ≡ o →
          operation_line stack due s n r o ≡ Some next → Rest due s r.held r.traces all (line ∷ lines)
      operation due s n None said e = absurd (cc e)
      operation due s n (Some o) said e = more_left due s n r o next said e left

      either : (due : List Due) (s : Named) (n : ℕ) (o : Option Reading) →
          next_case due (r.traces ++ r.held ∷ []) line ≡ o →
          case_line stack due s n r line o ≡ Some next → Rest due s r.held r.traces all (line ∷ lines)
      either due s n None said e = operation due s n (operation_said stack s line) refl e
      either due s n (Some other) said e = record {
        operations = [];
        spelled = [];
        written = λ before. sym (append-nil before);
        following = line ∷ lines;
        cases = subst (λ os. Cases due (r.traces ++ os ∷ []) all (line ∷ lines)) (sym (append-nil r.held))
            (next_left due (r.traces ++ r.held ∷ []) next (said ∙ e) left);
        lines_are = refl;
      }

      first : (due : List Due) (b : Bool) → bytes_eq line (codes "bypasses 1") ≡ b →
          (if b then Some (record { stage = idle due; held = []; traces = [] }) else None) ≡ Some next →
          Cases due [] all lines × (line ∷ lines ≡ codes "bypasses 1" ∷ lines)
      first due true told e = (
        some_same (λ n. IsLeft n → Cases due [] all lines) e (λ cases. cases) left,
        ap (λ l. l ∷ lines) ((bytes_eq-Decides line (codes "bypasses 1")).0 told),
      )
      first due false told e = absurd (cc e)

      go : (stage : Stage) → line_read stack r stage line ≡ Some next → Left stage r.held r.traces all (line ∷ lines)
      go (opening due) e = first due (bytes_eq line (codes "bypasses 1")) refl e
      go (idle due) e = next_left due r.traces next e left
      go (within due s n) e = either due s n (next_case due (r.traces ++ r.held ∷ []) line) refl e
      go ended e = absurd (cc e)

  lines_left : (lines : List (List ℕ)) (r : Reading) (number : ℕ) (all : List (List Operation)) →
      traces_from stack r number lines ≡ Ok all →
      Left r.stage r.held r.traces all lines
  lines_left [] r number all is = go r.stage is where
    go : (stage : Stage) → traces_at_end stage number r.traces ≡ Ok all → Left stage r.held r.traces all []
    go (opening due) e = absurd (cc e)
    go (idle due) e = absurd (cc e)
    go (within due s left) e = absurd (cc e)
    go ended e = (ok_same (λ ts. ts ≡ r.traces) e refl, refl)
  lines_left (line ∷ lines) r number all is =
      through_form (λ next. traces_from stack next (suc number) lines) number all (line_read stack r r.stage line) is
      (λ next next_is is1. line_left all line lines r next next_is (lines_left lines next (suc number) all is1))

pub files_are_written_so : FilesAreWrittenSo
files_are_written_so stack text traces is =
    let left = lines_left stack (lines_of text) (begun (due_of stack)) 1 traces is in
    left.1 ∙ ap (λ ls. codes "bypasses 1" ∷ ls)
    (left.0.lines_are ∙ ap (λ ts. case_lines stack (due_of stack) ts ++ ending stack) (sym left.0.all_are))
