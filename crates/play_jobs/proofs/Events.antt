-- A script that is read has few events.
use Rattle.std.proofs.Common.{◌≡◌, refl, sym, ◌∙◌, ap, ℕ, suc, ◌<◌, ◌≤◌, Bool, true, false, List, [], ◌∷◌, length}
use Rattle.std.proofs.Common.{arith}
use Rattle.std.specs.Prelude.{Result, Ok, Err, ◌||◌, nat_lt, if◌then◌else◌}
use Rattle.std.specs.List.{enumerate_from}
use Rattle.std.proofs.lemmas.Bool.{ltb-false}
use Rattle.std.proofs.lemmas.List.FromFn.{length-enumerate_from}
use Rattle.std.proofs.lemmas.List.Splits.{length-slice_split}
use Rattle.std.proofs.lemmas.List.Sums.{length-filter, count_by-le-length}
use Rattle.script_mean.specs.Event.{group_line, said_by}
use Rattle.script_mean.specs.Lines.{is_line_feed, lines_of, line_count, is_too_long, says_nothing, said_lines}
use Rattle.script_mean.specs.Script.{ScriptFault, ◌>>=◌, too_long, script_of, script_of_lines, in_form, event_of}
use Rattle.script_mean.specs.Script.{events_of}
use Rattle.script_mean.specs.declared.event.ScriptEvent.{ScriptEvent}
use Rattle.script_mean.specs.declared.script.GroupLine.{GroupLine}
use Rattle.script_mean.specs.declared.script.Script.{Script}
use Rattle.std.specs.Prelude.{not}
use Rattle.file_jobs.specs.Second.{longest_second}

-- as many events as lines
events_length : (members : ℕ) (lines : List (ℕ × List ℕ)) (events : List ScriptEvent) →
    events_of members lines ≡ Ok events → length events ≡ length lines
events_length members [] events is = let both : ◌≡◌ {A = Result (List ScriptEvent) ScriptFault} (Ok []) (Ok events) =
    is in
    let same : [] ≡ events = cc (both) in sym (ap length same)
events_length members (line ∷ lines) events is = go (event_of members line) (events_of members lines) refl
    (events_length members lines) is where
      go : (one : Result ScriptEvent ScriptFault) (more : Result (List ScriptEvent) ScriptFault) →
          events_of members lines ≡ more →
          ((tail : List ScriptEvent) → events_of members lines ≡ Ok tail → length tail ≡ length lines) →
          (one >>= λ event. more >>= λ rest. Ok (event ∷ rest)) ≡ Ok events → length events ≡ suc (length lines)
      go (Err fault) more rest as_many is = absurd (cc is)
      go (Ok event) (Err fault) rest as_many is = absurd (cc is)
      go (Ok event) (Ok tail) rest as_many is =
          let same : event ∷ tail ≡ events = cc (is) in
          sym (ap length same) ∙ ap suc (as_many tail rest)

-- a text that isn't too long has few lines
few_lines : (text : List ℕ) → line_count text ≤ 100000 → length (said_lines text) ≤ 100001
few_lines text few =
    let said = length-filter (λ line. not (says_nothing line.1)) (enumerate_from 1 (lines_of text)) in
    let some = count_by-le-length (λ line. not (says_nothing line.1)) (enumerate_from 1 (lines_of text)) in
    let all = length-enumerate_from 1 (lines_of text) in
    let parts = length-slice_split is_line_feed text in
    omega (arith, said, some, all, parts, few)

-- a script of lines has fewer events than lines
script_length : (lines : List (ℕ × List ℕ)) (s : Script) → script_of_lines lines ≡ Ok s → length s.events < length lines
script_length [] s is = absurd (cc is)
script_length (first ∷ lines) s is = opening (in_form first.0 (said_by group_line first.1)) is where
  opening : (o : Result GroupLine ScriptFault) → (o >>= λ g. events_of g.members lines >>= λ events.
      Ok (record { group = g.group; stamp = g.stamp; members = g.members; events = events })) ≡ Ok s →
      length s.events < suc (length lines)
  opening (Err fault) is = absurd (cc is)
  opening (Ok g) is = go (events_of g.members lines) refl is where
    go : (events : Result (List ScriptEvent) ScriptFault) → events_of g.members lines ≡ events → (events >>= λ es.
        Ok (record { group = g.group; stamp = g.stamp; members = g.members; events = es })) ≡ Ok s →
        length s.events < suc (length lines)
    go (Err fault) are is = absurd (cc is)
    go (Ok es) are is =
        let whole : Script = record { group = g.group; stamp = g.stamp; members = g.members; events = es } in
        let same : whole ≡ s = cc (is) in
        let as_many = events_length g.members lines es are in
        let own : length es ≡ length s.events = ap (λ x. length x.events) same in
        omega (arith, as_many, own)

pub few_read : (text : List ℕ) (s : Script) → script_of text ≡ Ok s → length s.events ≤ 100000
few_read text s is = judged (is_too_long text) refl is where
  judged : (b : Bool) → is_too_long text ≡ b → (if b then Err too_long else script_of_lines (said_lines text)) ≡ Ok s →
      length s.events ≤ 100000
  judged true long is = absurd (cc is)
  judged false short is = counted (nat_lt longest_second (length text)) (nat_lt 100000 (line_count text)) refl short
    where
      counted : (a b : Bool) → nat_lt 100000 (line_count text) ≡ b → (a || b) ≡ false → length s.events ≤ 100000
      counted true b few short = absurd (cc short)
      counted false true few short = absurd (cc short)
      counted false false few short =
          let lines = few_lines text (ltb-false 100000 (line_count text) few) in
          let less = script_length (said_lines text) s is in
          omega (arith, lines, less)
