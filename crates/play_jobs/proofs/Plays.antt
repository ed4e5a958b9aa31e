-- The ends of a replay and of a load, from what their runs did.
use Rattle.std.proofs.Common.{◌≡◌, refl, sym, subst, ◌∙◌, ap, ℕ, ◌<◌, List, [], Some, inl, inr, Bool, true, false}
use Rattle.std.proofs.Common.{arith}
use Rattle.std.specs.Prelude.{Result, Ok, Err, None, nat_le, if◌then◌else◌}
use Rattle.std.specs.Option.{option_map}
use Rattle.std.proofs.lemmas.Bool.{leb-true, le-leb}
use Rattle.clap.specs.Walk.{Text}
use Rattle.outside.specs.Count.{Rose}
use Rattle.outside.specs.Shelf.{after_read}
use Rattle.layer_ast.specs.Tree.{FileTree}
use Rattle.layer_mean.specs.Tree.{LayerTree}
use Rattle.script_mean.specs.Generate.{generate}
use Rattle.script_mean.specs.Script.{IsRunnable, script_of}
use Rattle.script_mean.specs.declared.script.Script.{Script}
use Rattle.stack_mean.specs.Acceptance.{rows_of, most_rows}
use Rattle.stack_mean.specs.Plans.{plans_of}
use Rattle.run_mean.specs.Mode.{Mode}
use Rattle.job_mean.specs.Job.{Job, replay, replay_with, explain, load}
use Rattle.end_mean.specs.Status.{Ended, done, second_refused, traces_refused, read_failed, write_failed, no_memory}
use Rattle.end_mean.specs.Status.{too_many_rows}
use Rattle.group_mean.specs.Told.{replay_lines}
use Rattle.run_mean.specs.Tally.{tally}
use Rattle.group_mean.specs.Room.{HasRoom}
use Rattle.miss_mean.specs.Text.{explained_lines}
use Rattle.program_mean.specs.Headline.{whole_end}
use Rattle.output_mean.specs.Judged.{Means}
use Rattle.program_mean.specs.Second.{crowd_fault, after_script, second_fault}
use Rattle.job_ends.specs.Comes.{Around, surrounding, Beside, After, Finds, IsOutput, Good, Comes}
use Rattle.job_ends.proofs.Comes.{written}
use Rattle.file_jobs.specs.Stack.{IsStack}
use Rattle.file_jobs.specs.Second.{IsSpelled}
use Rattle.play_jobs.specs.Play.{Plays}
use Rattle.play_jobs.specs.Ends.{end_of}
use Rattle.play_jobs.specs.Traces.{lines_of, AreTraces, PlaysTraces}
use Rattle.play_jobs.specs.declared.error.PlayError.{PlayError}
use Rattle.play_jobs.specs.declared.error.PlayError.TheVariants.{TooManyRows, Failed, Memory}

-- too many rows are a fault
too_many : (stack : List LayerTree) (members : ℕ) → most_rows < rows_of stack members →
    crowd_fault stack members ≡ Some too_many_rows
too_many stack members more = go (nat_le (rows_of stack members) most_rows) refl where
  go : (b : Bool) → nat_le (rows_of stack members) most_rows ≡ b → (if b then None else Some too_many_rows) ≡
      Some too_many_rows
  go true is = let few = leb-true (rows_of stack members) most_rows is in absurd (omega (arith, few, more))
  go false is = refl

-- and few enough are none
enough : (stack : List LayerTree) (members : ℕ) → HasRoom stack members → crowd_fault stack members ≡ None
enough stack members room = rw (le-leb (rows_of stack members) most_rows room) refl

-- A job that plays over a stack whose file was found, beside its second file: its members have room or too many rows,
-- and it ended as its run did.
module _ (job : Job) (a : Around) (stack : List LayerTree) (members : ℕ) (file second : List ℕ)
    (found : Finds job a.told (Some file))
    (beside : Beside job a.told (Some second)) (following : After job a.told (Some [])) (means : Means file stack)
    (lines : List (List ℕ))
    (output : HasRoom stack members → IsOutput job file second [] lines)
    (whole : whole_end job file ≡ done) (judged : second_fault job stack second ≡ crowd_fault stack members)
    (sound : a.reads_after ≡ a.reads) where
  abbrev good : HasRoom stack members → Good job a.told
  good room = record {
    file = file;
    second = second;
    third = [];
    found = found;
    beside = beside;
    following = following;
    lines = lines;
    output = output room;
  }

  played : (run : Result (Unit {0}) PlayError) → Plays stack members lines a.output a.output_after run →
      Comes job a (end_of run)
  played (Ok run) p = written job a (good p.0) done sound (whole, p.1)
  played (Err TooManyRows) p = record {
    cause = record {
      file = file;
      second = second;
      found = found;
      beside = beside;
      stack = stack;
      means = means;
      refused = judged ∙ too_many stack members p.0;
    };
    sound = sound;
    untouched = p.1;
  }
  played (Err Failed) p = written job a (good p.0) write_failed sound p.1
  played (Err Memory) (inl same) = inl same
  played (Err Memory) (inr p) = written job a (good p.0) no_memory sound p.1

module _ (name script : Text) (a : Around) (between : ℕ) (stack : List LayerTree) (s : Script)
    (t : IsSpelled script_of IsRunnable script (option_map after_read a.told) between a.reads_after s) where
  pub replay_comes : (mode : Mode) (events wire count : Bool) → IsStack name a.told a.reads between stack →
      (run : Result (Unit {0}) PlayError) →
      Plays stack s.members (replay_lines stack (plans_of stack) s mode events wire count) a.output a.output_after run →
      Comes (replay name script mode events wire count) a (end_of run)
  unfolding replay_lines
  replay_comes mode events wire count f = played (replay name script mode events wire count) a stack s.members f.file
      t.text f.found
      t.found refl f.means
      (replay_lines stack (plans_of stack) s mode events wire count)
      (λ room. record { stack = stack; means = f.means; script = s; spelled = t.spells; room = room; written = refl })
      refl (ap (after_script stack) t.spells) (t.sound ∙ f.sound)

  pub explain_comes : (tree : FileTree) (f : IsStack name a.told a.reads between stack) → f.means.file ≡ tree →
      (run : Result (Unit {0}) PlayError) →
      Plays stack s.members (explained_lines tree stack (plans_of stack) s) a.output a.output_after run →
      Comes (explain name script) a (end_of run)
  explain_comes tree f is = played (explain name script) a stack s.members f.file t.text f.found t.found refl f.means
      (explained_lines tree stack (plans_of stack) s)
      (λ room. record {
        stack = stack;
        means = f.means;
        script = s;
        spelled = t.spells;
        room = room;
        written = ap (λ file. explained_lines file stack (plans_of stack) s) (sym is);
      })
      refl (ap (after_script stack) t.spells) (t.sound ∙ f.sound)

pub load_comes : (name : Text) (seed events members : ℕ) (raw : Bool) (mode : Mode) (a : Around)
    (stack : List LayerTree) →
    IsStack name a.told a.reads a.reads_after stack → (run : Result (Unit {0}) PlayError) →
    Plays stack members (tally stack (plans_of stack) mode (generate seed events members raw)) a.output a.output_after
    run →
    Comes (load name seed events members raw mode) a (end_of run)
load_comes name seed events members raw mode a stack f = played (load name seed events members raw mode) a stack members
    f.file [] f.found refl refl f.means
    (tally stack (plans_of stack) mode (generate seed events members raw))
    (λ room. record { stack = stack; means = f.means; room = room; written = refl })
    refl refl f.sound

-- A replay by traces ended as what followed the reads of its stack and its script did.
module _ (name script given : Text) (events wire count : Bool) (a : Around) (between middle : ℕ)
    (stack : List LayerTree)
    (s : Script)
    (f : IsStack name a.told a.reads between stack)
    (t : IsSpelled script_of IsRunnable script (option_map after_read a.told) between middle s) where
  abbrev job : Job
  job = replay_with name script given events wire count

  abbrev later : Around
  later = surrounding (option_map after_read (option_map after_read a.told)) middle a.reads_after a.output
      a.output_after

  good_traces : HasRoom stack s.members → AreTraces stack given later.told later.reads later.reads_after →
      Good job a.told
  good_traces room r = record {
    file = f.file;
    second = t.text;
    third = r.text;
    found = f.found;
    beside = t.found;
    following = r.found;
    lines = lines_of stack s events wire count;
    output = record {
      stack = stack;
      means = f.means;
      script = s;
      spelled = t.spells;
      room = room;
      accepted = r.accepted;
      written = refl;
    };
  }

  fine : HasRoom stack s.members → second_fault job stack t.text ≡ None
  fine room = ap (after_script stack) t.spells ∙ enough stack s.members room

  pub with_comes : (end : Ended) → PlaysTraces stack s given events wire count later end → Comes job a end
  unfolding good_traces replay_lines
  with_comes done p = written job a (good_traces p.room p.traces) done (p.traces.sound ∙ t.sound ∙ f.sound)
      (refl, p.came)
  with_comes (second_refused too_many_rows) p = record {
    cause = record {
      file = f.file;
      second = t.text;
      found = f.found;
      beside = t.found;
      stack = stack;
      means = f.means;
      refused = ap (after_script stack) t.spells ∙ too_many stack s.members p.rows;
    };
    sound = p.sound ∙ t.sound ∙ f.sound;
    untouched = p.untouched;
  }
  with_comes (traces_refused fault) p = record {
    cause = record {
      file = f.file;
      second = t.text;
      third = p.stops.text;
      found = f.found;
      beside = t.found;
      following = p.stops.found;
      reads = tt;
      stack = stack;
      means = f.means;
      fine = fine p.room;
      refused = p.stops.refused;
    };
    sound = p.stops.sound ∙ t.sound ∙ f.sound;
    untouched = p.untouched;
  }
  with_comes read_failed p = record {
    unfound = inr (inr (record {
      file = f.file;
      second = t.text;
      found = f.found;
      beside = t.found;
      stack = stack;
      means = f.means;
      fine = fine p.room;
      none = p.stops.none;
    }));
    rose = subst (λ n. Rose n a.reads_after) (t.sound ∙ f.sound) p.stops.rose;
    untouched = p.untouched;
  }
  with_comes write_failed p = written job a (good_traces p.room p.traces) write_failed
      (p.traces.sound ∙ t.sound ∙ f.sound) p.came
  with_comes no_memory (inl same) = inl same
  with_comes no_memory (inr p) = written job a (good_traces p.room p.traces) no_memory
      (p.traces.sound ∙ t.sound ∙ f.sound) p.came
  with_comes (second_refused fault) p = absurd p
  with_comes _ p = absurd p

-- A replay by traces over members that have room ended as its run did.
pub played_traces : (stack : List LayerTree) (s : Script) (name : Text) (events wire count : Bool) (a : Around) →
    HasRoom stack s.members →
    AreTraces stack name a.told a.reads a.reads_after → (run : Result (Unit {0}) PlayError) →
    Plays stack s.members (lines_of stack s events wire count) a.output a.output_after run →
    PlaysTraces stack s name events wire count a (end_of run)
played_traces stack s name events wire count a room traces (Ok run) p =
    record { room = room; traces = traces; came = p.1 }
played_traces stack s name events wire count a room traces (Err TooManyRows) p =
    record { rows = p.0; sound = traces.sound; untouched = p.1 }
played_traces stack s name events wire count a room traces (Err Failed) p =
    record { room = room; traces = traces; came = p.1 }
played_traces stack s name events wire count a room traces (Err Memory) (inl same) = inl same
played_traces stack s name events wire count a room traces (Err Memory) (inr p) =
    inr (record { room = room; traces = traces; came = p.1 })

-- Members that were found to have room.
pub has_room_for : (stack : List LayerTree) (members : ℕ) → true ≡ nat_le (rows_of stack members) most_rows →
    HasRoom stack members
has_room_for stack members is = leb-true (rows_of stack members) most_rows (sym is)
