-- How a job ends at its second file.
use Rattle.std.proofs.Common.{◌≡◌, refl, ◌∙◌, ap, ℕ, ◌<◌, List, length, Option, Some, None, inl, inr}
use Rattle.std.specs.Prelude.{IfSome, IsSomeAnd, Result, Err, Ok, ◌||◌, nat_lt, if◌then◌else◌}
use Rattle.std.specs.Option.{option_map}
use Rattle.std.proofs.lemmas.Bool.{lt-ltb}
use Rattle.clap.specs.Walk.{Text}
use Rattle.outside.specs.Count.{Rose}
use Rattle.outside.specs.Shelf.{Shelved, found_in, after_read}
use Rattle.layer_mean.specs.Tree.{LayerTree}
use Rattle.script_mean.specs.Lines.{is_too_long, line_count, said_lines}
use Rattle.script_mean.specs.Script.{ScriptFault, too_long, bad_line, no_member, script_of, script_of_lines}
use Rattle.script_text.specs.Answer.{Answers}
use Rattle.script_text.specs.declared.error.ScriptError.{ScriptError}
use Rattle.script_text.specs.declared.error.ScriptError.TheVariants.{TooLong, BadLine, NoMember, Memory}
use Rattle.run_mean.specs.Mode.{Mode}
use Rattle.job_mean.specs.Job.{Job, replay, replay_with, explain}
use Rattle.std.proofs.Common.{Bool, true, subst}
use Rattle.end_mean.specs.Status.{Ended, second_refused, read_failed, no_memory, misspelled, too_many_rows}
use Rattle.program_mean.specs.Second.{after_script, second_fault}
use Rattle.job_ends.specs.Comes.{Around, Beside, Comes, file_name}
use Rattle.job_ends.proofs.Comes.{longer}
use Rattle.file_jobs.specs.Stack.{IsStack, IsText}
use Rattle.job_ends.specs.Shown.{shown_end}
use Rattle.job_ends.specs.declared.ending.Ending.{Ending}
use Rattle.file_jobs.specs.Second.{IsLarge, Unread, StopsAt, Fetches, Refused, Judges, refused_as, longest_second}

-- A text of too many bytes.
pub large : (name : Text) (told : Option Shelved) (reads reads_after : ℕ) →
    IfSome told (λ shelf. IsSomeAnd (found_in shelf name) (λ text. longest_second < length text)) →
    reads_after ≡ reads →
    IsLarge name told reads reads_after
large name told reads reads_after h sound =
    let l = longer told name longest_second h in
    record { text = l.0; large = l.2; is = record { found = l.1; sound = sound } }

-- It is refused.
pub too_large : (text : List ℕ) → longest_second < length text → is_too_long text ≡ true
too_large text more = ap (λ b. b || nat_lt 100000 (line_count text)) (lt-ltb longest_second (length text) more)

pub large_script : (text : List ℕ) → longest_second < length text → script_of text ≡ Err too_long
large_script text more = ap (λ b. if b then Err too_long else script_of_lines (said_lines text)) (too_large text more)

-- A job that stopped as it read its second file stopped at it.
pub stops_unread : {A : Type 0} (spelled : List ℕ → Result A ScriptFault) →
    ((text : List ℕ) → longest_second < length text → spelled text ≡ Err too_long) →
    (name : Text) (told : Option Shelved) (reads reads_after : ℕ) (end : Ended) →
    Unread name told reads reads_after end →
    StopsAt spelled name told reads reads_after end
stops_unread spelled long name told reads reads_after (second_refused (misspelled too_long)) l =
    record { text = l.text; found = l.is.found; refused = long l.text l.large; sound = l.is.sound }
stops_unread spelled long name told reads reads_after (second_refused (misspelled (bad_line line))) l = absurd l
stops_unread spelled long name told reads reads_after (second_refused (misspelled (no_member line))) l = absurd l
stops_unread spelled long name told reads reads_after (second_refused too_many_rows) l = absurd l
stops_unread spelled long name told reads reads_after read_failed l = l
stops_unread spelled long name told reads reads_after no_memory l = l
stops_unread spelled long name told reads reads_after _ l = absurd l

-- A text that a reader refuses.
pub refused_so : {A : Type 0} (spelled : List ℕ → Result A ScriptFault) (text : List ℕ) (error : ScriptError) →
    Answers (spelled text) (Err error) →
    Refused spelled text (refused_as error)
refused_so spelled text TooLong is = is
refused_so spelled text (BadLine line) is = is
refused_so spelled text (NoMember line) is = is
refused_so spelled text Memory is = tt

-- What was read and judged.
pub fetches : {A : Type 0} (spelled : List ℕ → Result A ScriptFault) (Runs : A → Type 0) (name : Text)
    (told : Option Shelved)
    (reads reads_after : ℕ) (text : List ℕ) (r : Result A Ending) → IsText name told reads reads_after text →
    Judges spelled Runs text r →
    Fetches spelled Runs name told reads reads_after r
fetches spelled Runs name told reads reads_after text (Ok value) t j =
    record { text = text; found = t.found; spells = j.0; runs = j.1; sound = t.sound }
fetches spelled Runs name told reads reads_after text (Err ending) t j = refused (shown_end ending) j where
  refused : (end : Ended) → Refused spelled text end → StopsAt spelled name told reads reads_after end
  refused (second_refused (misspelled fault)) j = record { text = text; found = t.found; refused = j; sound = t.sound }
  refused (second_refused too_many_rows) j = absurd j
  refused no_memory j = tt
  refused _ j = absurd j

-- A job whose second file is a script: its file is good, and it stopped at that.
module _ (job : Job) (script : Text) (a : Around)
    (beside : (found : Option (List ℕ)) →
    IfSome (option_map after_read a.told) (λ shelf. found_in shelf script ≡ found) → Beside job a.told found)
    (judges : (stack : List LayerTree) (text : List ℕ) → second_fault job stack text ≡
    after_script stack (script_of text)) where
  stops_there : (between : ℕ) (stack : List LayerTree) (end : Ended) →
      IsStack (file_name job) a.told a.reads between stack →
      StopsAt script_of script (option_map after_read a.told) between a.reads_after end → a.output_after ≡ a.output →
      Comes job a end
  stops_there between stack (second_refused (misspelled fault)) f s same = record {
    cause = record {
      file = f.file;
      second = s.text;
      found = f.found;
      beside = beside (Some s.text) s.found;
      stack = stack;
      means = f.means;
      refused = judges stack s.text ∙ ap (after_script stack) s.refused;
    };
    sound = s.sound ∙ f.sound;
    untouched = same;
  }
  stops_there between stack read_failed f s same = record {
    unfound = inr (inl (record {
      file = f.file;
      found = f.found;
      stack = stack;
      means = f.means;
      none =
          beside None s.none;
    }));
    rose = subst (λ n. Rose n a.reads_after) f.sound s.rose;
    untouched = same;
  }
  stops_there between stack no_memory f s same = inl same
  stops_there between stack _ f s same = absurd s

-- So it is of a replay, by the stack's own bypasses and by those of a file, and of an explanation.
pub stops : (name script : Text) (mode : Mode) (events wire count : Bool) (a : Around) (between : ℕ)
    (stack : List LayerTree)
    (end : Ended) →
    IsStack name a.told a.reads between stack →
    StopsAt script_of script (option_map after_read a.told) between a.reads_after end →
    a.output_after ≡ a.output → Comes (replay name script mode events wire count) a end
stops name script mode events wire count a = stops_there (replay name script mode events wire count) script a
    (λ found is. is)
    (λ stack text. refl)

pub with_stops : (name script given : Text) (events wire count : Bool) (a : Around) (between : ℕ)
    (stack : List LayerTree)
    (end : Ended) →
    IsStack name a.told a.reads between stack →
    StopsAt script_of script (option_map after_read a.told) between a.reads_after end →
    a.output_after ≡ a.output → Comes (replay_with name script given events wire count) a end
with_stops name script given events wire count a = stops_there (replay_with name script given events wire count) script
    a
    (λ found is. is) (λ stack text. refl)

pub explain_stops : (name script : Text) (a : Around) (between : ℕ) (stack : List LayerTree) (end : Ended) →
    IsStack name a.told a.reads between stack →
    StopsAt script_of script (option_map after_read a.told) between a.reads_after end →
    a.output_after ≡ a.output → Comes (explain name script) a end
explain_stops name script a = stops_there (explain name script) script a (λ found is. is) (λ stack text. refl)
