-- What a job gives, from what was read and written.
use Rattle.std.proofs.Common.{arith, ◌≡◌, refl, sym, subst, ◌∙◌, ap, ℕ, zero, suc, ◌<◌, List, [], ◌∷◌, length}
use Rattle.std.proofs.Common.{append-nil, Option, Some, None, inr}
use Rattle.std.specs.Prelude.{IfSome, IsSomeAnd}
use Rattle.std.specs.List.{concat}
use Rattle.std.specs.Option.{option_map}
use Rattle.clap.specs.Walk.{Text}
use Rattle.outside.specs.Shelf.{Shelved, found_in, after_read}
use Rattle.pack_mean.specs.Accepted.{Accepts}
use Rattle.program_laws.proofs.Files.{one_file, one_meaning}
use Rattle.job_mean.specs.Job.{Job, check, synth, pack, replay, replay_with, explain, load, node, audit}
use Rattle.end_mean.specs.Status.{Ended, done, breached, write_failed, no_memory}
use Rattle.program_mean.specs.Headline.{Run, second_for, third_for, whole_end, ReadsTraces, WritesOf}
use Rattle.script_mean.specs.Generate.{generate}
use Rattle.script_mean.specs.declared.script.Script.{Script}
use Rattle.script_mean.specs.Script.{ScriptFault}
use Rattle.audit_mean.specs.Finding.{AuditFault}
use Rattle.audit_mean.specs.declared.law.Finding.{Finding}
use Rattle.stack_mean.specs.Plans.{plans_of}
use Rattle.run_mean.specs.Mode.{bypass}
use Rattle.group_mean.specs.Told.{replay_lines}
use Rattle.run_mean.specs.Tally.{tally, accepted_lines}
use Rattle.output_mean.specs.Output.{finding_line}
use Rattle.miss_mean.specs.Text.{explained_lines}
use Rattle.bypass_mean.specs.Lines.{printed_lines}
use Rattle.bypass_laws.specs.Making.{bypasses_of, simplest}
use Rattle.job_ends.specs.Printed.{Lines, packed_file, printed_text}
use Rattle.std.specs.Prelude.{Result, Ok}
use Rattle.job_ends.specs.Comes.{Around, Beside, After, Finds, file_name, Synthesized, IsOutput, Good, Writes, Comes}

-- A job's output was written, or begun.
pub written : (job : Job) (a : Around) (good : Good job a.told) (end : Ended) → a.reads_after ≡ a.reads →
    Writes good.lines (whole_end job good.file) a.output a.output_after end → Comes job a end
written job a good done sound w = record { good = good; ends = w.0; sound = sound; written = w.1 }
written job a good breached sound w = record { good = good; ends = w.0; sound = sound; written = w.1 }
written job a good write_failed sound w = record { good = good; sound = sound; written = w }
written job a good no_memory sound w = inr (record { good = good; sound = sound; written = w })
written job a good _ sound w = absurd w

abbrev zeros : ℕ → List ℕ
zeros zero = []
zeros (suc n) = 0 ∷ zeros n

length_zeros : (n : ℕ) → length (zeros n) ≡ n
length_zeros zero = refl
length_zeros (suc n) = ap suc (length_zeros n)

-- A file of more than n bytes: the one that was found, where the shelf tells, and else any.
pub longer : (told : Option Shelved) (name : Text) (most : ℕ) →
    IfSome told (λ shelf. IsSomeAnd (found_in shelf name) (λ file. most < length file)) →
    (file : List ℕ) × IfSome told (λ shelf. found_in shelf name ≡ Some file) × (most < length file)
longer None name most h = let n = length_zeros (suc most) in (zeros (suc most), tt, omega (arith, n))
longer (Some shelf) name most h = found (found_in shelf name) h where
  found : (o : Option (List ℕ)) → IsSomeAnd o (λ file. most < length file) → (file : List ℕ) × (o ≡ Some file) ×
      (most < length file)
  found None h = absurd h
  found (Some file) h = (file, refl, h)

-- What is printed of the bypasses that are made of a file is what is printed of its stack's.
printed : (print : Lines) (file : List ℕ) (lines : List (List ℕ)) (o : Synthesized print file lines) →
    lines ≡ print o.stack (plans_of o.stack) (bypasses_of simplest o.stack)
printed print file lines o = o.written ∙ ap (print o.stack (plans_of o.stack)) o.simplest

-- What is printed of a file's bypasses is unique.
printed_once : (print : Lines) (file : List ℕ) (one other : List (List ℕ)) → Synthesized print file one →
    Synthesized print file other → one ≡ other
printed_once print file one other x y = printed print file one x
    ∙ ap (λ s. print s (plans_of s) (bypasses_of simplest s)) (one_meaning file x.stack y.stack x.means y.means) ∙
    sym (printed print file other y)

-- An output as the program's definitions have it.
pub writes_of : (job : Job) (r : Run) (file second third : List ℕ) (lines : List (List ℕ)) →
    IsOutput job file second third lines → r.sent ≡ [] →
    third_for job r.third ≡ Some third →
    WritesOf printed_text job r file second (concat lines)
writes_of (check name) r file second third lines o none is =
    (record { stack = o.stack; means = o.means; written = ap concat o.written }, none)
writes_of (synth name) r file second third lines o none is =
    (record { stack = o.stack; means = o.means; written = ap concat (printed printed_lines file lines o) }, none)
writes_of (pack name) r file second third lines o none is =
    (record { stack = o.stack; means = o.means; written = ap concat (printed packed_file file lines o) }, none)
writes_of (replay name script mode events wire count) r file second third lines o none is = (
  record {
    stack = o.stack;
    means = o.means;
    script = o.script;
    spelled = o.spelled;
    room = o.room;
    written = ap concat o.written;
  },
  none,
)
writes_of (replay_with name script given events wire count) r file second third lines o none is = (
  record {
    stack = o.stack;
    means = o.means;
    script = o.script;
    spelled = o.spelled;
    room = o.room;
    written = ap concat o.written;
  },
  record {
    stack = o.stack;
    means = o.means;
    accepted = subst (λ found. IsSomeAnd found (Accepts o.stack)) (sym is)
        o.accepted;
  },
  none,
)
writes_of (explain name script) r file second third lines o none is = (
  record {
    stack = o.stack;
    means = o.means;
    script = o.script;
    spelled = o.spelled;
    room = o.room;
    written = ap concat o.written;
  },
  none,
)
writes_of (load name seed events members raw mode) r file second third lines o none is =
    (record { stack = o.stack; means = o.means; room = o.room; written = ap concat o.written }, none)
writes_of (node name plan turns me patience mode) r file second third lines o none is = absurd o
writes_of (audit name law) r file second third lines o none is = (
  record {
    finding = o.finding;
    found = o.found;
    written = ap concat o.written ∙
        append-nil (finding_line o.finding);
  },
  none,
)

-- Files have one output.
pub output_once : (job : Job) (file second third : List ℕ) (one other : List (List ℕ)) →
    IsOutput job file second third one →
    IsOutput job file second third other →
    one ≡ other
output_once (check name) file second third one other x y =
    x.written ∙ ap accepted_lines (one_meaning file x.stack y.stack x.means y.means) ∙ sym y.written
output_once (synth name) file second third one other x y = printed_once printed_lines file one other x y
output_once (pack name) file second third one other x y = printed_once packed_file file one other x y
output_once (replay name script mode events wire count) file second third one other x y =
    let stack = one_meaning file x.stack y.stack x.means y.means in
    let both : ◌≡◌ {A = Result Script ScriptFault} (Ok x.script) (Ok y.script) = sym x.spelled ∙ y.spelled in
    let same : x.script ≡ y.script = cc (both) in
    x.written ∙ (λ k. replay_lines (stack k) (plans_of (stack k)) (same k) mode events wire count) ∙ sym y.written
output_once (replay_with name script given events wire count) file second third one other x y =
    let stack = one_meaning file x.stack y.stack x.means y.means in
    let both : ◌≡◌ {A = Result Script ScriptFault} (Ok x.script) (Ok y.script) = sym x.spelled ∙ y.spelled in
    let same : x.script ≡ y.script = cc (both) in
    x.written ∙ (λ k. replay_lines (stack k) (plans_of (stack k)) (same k) bypass events wire count) ∙ sym y.written
output_once (explain name script) file second third one other x y =
    let stack = one_meaning file x.stack y.stack x.means y.means in
    let tree = one_file file x.means.file y.means.file x.means.is_file y.means.is_file in
    let both : ◌≡◌ {A = Result Script ScriptFault} (Ok x.script) (Ok y.script) = sym x.spelled ∙ y.spelled in
    let same : x.script ≡ y.script = cc (both) in
    x.written ∙ (λ k. explained_lines (tree k) (stack k) (plans_of (stack k)) (same k)) ∙ sym y.written
output_once (load name seed events members raw mode) file second third one other x y =
    let stack = one_meaning file x.stack y.stack x.means y.means in
    x.written ∙ ap (λ s. tally s (plans_of s) mode (generate seed events members raw)) stack ∙ sym y.written
output_once (node name plan turns me patience mode) file second third one other x y = absurd x
output_once (audit name law) file second third one other x y =
    let both : ◌≡◌ {A = Result Finding AuditFault} (Ok x.finding) (Ok y.finding) = sym x.found ∙ y.found in
    let same : x.finding ≡ y.finding = cc (both) in
    x.written ∙ ap (λ f. finding_line f ∷ []) same ∙ sym y.written

-- What the reads of a job's first and second files find on a shelf is unique.
pub found_once : (job : Job) (shelf : Shelved) (one other : Option (List ℕ)) → Finds job (Some shelf) one →
    Finds job (Some shelf) other → one ≡ other
found_once job shelf one other x y = sym x ∙ y

pub beside_once : (job : Job) (shelf : Shelved) (one other : Option (List ℕ)) → Beside job (Some shelf) one →
    Beside job (Some shelf) other →
    one ≡ other
beside_once (check name) shelf one other x y = x ∙ sym y
beside_once (synth name) shelf one other x y = x ∙ sym y
beside_once (pack name) shelf one other x y = x ∙ sym y
beside_once (replay name script mode events wire count) shelf one other x y = sym x ∙ y
beside_once (replay_with name script given events wire count) shelf one other x y = sym x ∙ y
beside_once (explain name script) shelf one other x y = sym x ∙ y
beside_once (load name seed events members raw mode) shelf one other x y = x ∙ sym y
beside_once (node name plan turns me patience mode) shelf one other x y = sym x ∙ y
beside_once (audit name law) shelf one other x y = x ∙ sym y

-- The second file of a run that read this one.
pub second_read : (job : Job) (told : Option Shelved) (text : List ℕ) → Beside job told (Some text) →
    (second : Option (List ℕ)) × (second_for job second ≡ Some text)
second_read (check name) told text is = (None, sym is)
second_read (synth name) told text is = (None, sym is)
second_read (pack name) told text is = (None, sym is)
second_read (replay name script mode events wire count) told text is = (Some text, refl)
second_read (replay_with name script given events wire count) told text is = (Some text, refl)
second_read (explain name script) told text is = (Some text, refl)
second_read (load name seed events members raw mode) told text is = (None, sym is)
second_read (node name plan turns me patience mode) told text is = (Some text, refl)
second_read (audit name law) told text is = (None, sym is)

-- That of a run that found none.
pub second_missed : (job : Job) (told : Option Shelved) → Beside job told None → second_for job None ≡ None
second_missed (check name) told is = absurd (cc is)
second_missed (synth name) told is = absurd (cc is)
second_missed (pack name) told is = absurd (cc is)
second_missed (replay name script mode events wire count) told is = refl
second_missed (replay_with name script given events wire count) told is = refl
second_missed (explain name script) told is = refl
second_missed (load name seed events members raw mode) told is = absurd (cc is)
second_missed (node name plan turns me patience mode) told is = refl
second_missed (audit name law) told is = absurd (cc is)

-- What is found under a name, where the shelf tells.
found_at : (told : Option Shelved) (name : Text) →
    (found : Option (List ℕ)) × IfSome told (λ shelf. found_in shelf name ≡ found)
found_at None name = (None, tt)
found_at (Some shelf) name = (found_in shelf name, refl)

-- What the next reads of a job's files find.
pub next_file : (job : Job) (told : Option Shelved) → (found : Option (List ℕ)) × Finds job told found
next_file job told = found_at told (file_name job)

pub next_second : (job : Job) (told : Option Shelved) → (second : Option (List ℕ)) ×
    Beside job told (second_for job second)
next_second (check name) told = (None, refl)
next_second (synth name) told = (None, refl)
next_second (pack name) told = (None, refl)
next_second (replay name script mode events wire count) told = found_at (option_map after_read told) script
next_second (replay_with name script given events wire count) told = found_at (option_map after_read told) script
next_second (explain name script) told = found_at (option_map after_read told) script
next_second (load name seed events members raw mode) told = (None, refl)
next_second (node name plan turns me patience mode) told = found_at (option_map after_read told) plan
next_second (audit name law) told = (None, refl)

-- What the read of a job's third file finds is unique, too.
pub after_once : (job : Job) (shelf : Shelved) (one other : Option (List ℕ)) → After job (Some shelf) one →
    After job (Some shelf) other →
    one ≡ other
after_once (replay_with name script given events wire count) shelf one other x y = sym x ∙ y
after_once (check name) shelf one other x y = x ∙ sym y
after_once (synth name) shelf one other x y = x ∙ sym y
after_once (pack name) shelf one other x y = x ∙ sym y
after_once (replay name script mode events wire count) shelf one other x y = x ∙ sym y
after_once (explain name script) shelf one other x y = x ∙ sym y
after_once (load name seed events members raw mode) shelf one other x y = x ∙ sym y
after_once (node name plan turns me patience mode) shelf one other x y = x ∙ sym y
after_once (audit name law) shelf one other x y = x ∙ sym y

pub third_read : (job : Job) (told : Option Shelved) (text : List ℕ) → After job told (Some text) →
    (third : Option (List ℕ)) × (third_for job third ≡ Some text)
third_read (replay_with name script given events wire count) told text is = (Some text, refl)
third_read (check name) told text is = (None, sym is)
third_read (synth name) told text is = (None, sym is)
third_read (pack name) told text is = (None, sym is)
third_read (replay name script mode events wire count) told text is = (None, sym is)
third_read (explain name script) told text is = (None, sym is)
third_read (load name seed events members raw mode) told text is = (None, sym is)
third_read (node name plan turns me patience mode) told text is = (None, sym is)
third_read (audit name law) told text is = (None, sym is)

pub third_missed : (job : Job) (told : Option Shelved) → After job told None → third_for job None ≡ None
third_missed (replay_with name script given events wire count) told is = refl
third_missed (check name) told is = absurd (cc is)
third_missed (synth name) told is = absurd (cc is)
third_missed (pack name) told is = absurd (cc is)
third_missed (replay name script mode events wire count) told is = absurd (cc is)
third_missed (explain name script) told is = absurd (cc is)
third_missed (load name seed events members raw mode) told is = absurd (cc is)
third_missed (node name plan turns me patience mode) told is = absurd (cc is)
third_missed (audit name law) told is = absurd (cc is)

pub next_third : (job : Job) (told : Option Shelved) → (third : Option (List ℕ)) × After job told (third_for job third)
next_third (replay_with name script given events wire count) told =
    found_at (option_map after_read (option_map after_read told)) given
next_third (check name) told = (None, refl)
next_third (synth name) told = (None, refl)
next_third (pack name) told = (None, refl)
next_third (replay name script mode events wire count) told = (None, refl)
next_third (explain name script) told = (None, refl)
next_third (load name seed events members raw mode) told = (None, refl)
next_third (node name plan turns me patience mode) told = (None, refl)
next_third (audit name law) told = (None, refl)

-- A job with a file of traces has it as its third.
pub third_is : (job : Job) (third : Option (List ℕ)) (text : List ℕ) → ReadsTraces job →
    third_for job third ≡ Some text → third ≡ Some text
third_is (replay_with name script given events wire count) third text reads is = is
third_is (check name) third text reads is = absurd reads
third_is (synth name) third text reads is = absurd reads
third_is (pack name) third text reads is = absurd reads
third_is (replay name script mode events wire count) third text reads is = absurd reads
third_is (explain name script) third text reads is = absurd reads
third_is (load name seed events members raw mode) third text reads is = absurd reads
third_is (node name plan turns me patience mode) third text reads is = absurd reads
third_is (audit name law) third text reads is = absurd reads
