-- How a run ended, from what each of its steps answered.
use Rattle.std.proofs.Common.{refl, subst, append-nil, ℕ, Bool, true, false, List, Option, Some, None, inl, inr}
use Rattle.std.specs.Prelude.{Result, Ok, Err, if◌then◌else◌}
use Rattle.end_mean.specs.Status.{Ended, done, breached, file_refused, second_refused, too_many_rows, read_failed}
use Rattle.end_mean.specs.Status.{write_failed, no_memory}
use Rattle.outside.specs.Lines.{Begins}
use Rattle.outside.specs.Shelf.{Shelved}
use Rattle.outside.specs.Tells.{Tells}
use Rattle.file_jobs.specs.Stack.{IsText}
use Rattle.file_jobs.specs.Stack as files
use Rattle.job_ends.specs.Comes.{surrounding}
use Rattle.job_ends.specs.Shown.{shown_end}
use Rattle.job_ends.specs.declared.ending.Ending.{Ending}
use Rattle.hunt_mean.specs.Ends.{Comes, Hunts, IsOutput}
use Rattle.hunt_mean.specs.Words.{Request}
use Rattle.hunt_run.specs.Looks.{Fetches, IsFetched, Looks, Stops, StopsAt, Writes}
use Rattle.hunt_run.specs.declared.hunt.Output.{Output}

-- where memory ran out over the words, nothing was done
pub wanted : (r : Option Request) (told : Option Shelved) (reads : ℕ) (output : Tells) →
    Comes r (surrounding told reads reads output output) no_memory
wanted None told reads output = record { untouched = refl; unread = refl }
wanted (Some r) told reads output = inl refl

module _ (r : Request) (told : Option Shelved) (reads reads_after : ℕ) where
  -- the file wasn't read
  pub unread : (end : Ended) → files.StopsAt r.file told reads reads_after end → StopsAt r told reads reads_after end
  unread (file_refused fault) s =
      record { file = s.file; read = record { found = s.found; sound = s.sound }; stops = s.refused }
  unread read_failed s = s
  unread no_memory s = tt
  unread _ s = absurd s

  stop : (file : List ℕ) (end : Ended) → IsText r.file told reads reads_after file → Stops r file end →
      StopsAt r told reads reads_after end
  stop file (file_refused fault) t s = record { file = file; read = t; stops = s }
  stop file (second_refused too_many_rows) t s = record { file = file; read = t; stops = s }
  stop file no_memory t s = tt
  stop file _ t s = absurd s

  -- what came of the file that was read
  pub fetched : (file : List ℕ) (answer : Result Output Ending) → IsText r.file told reads reads_after file →
      Looks r file answer →
      Fetches r told reads reads_after answer
  fetched file (Ok o) t l = record { file = file; read = t; output = l }
  fetched file (Err ending) t l = stop file (shown_end ending) t l

  -- an output that was fetched was written so far
  put : (file text : List ℕ) (old new : Tells) (b : Bool) (end : Ended) → IsText r.file told reads reads_after file →
      IsOutput r (if b then breached else done) file text → Writes text b old new end →
      Hunts r (surrounding told reads reads_after old new) end
  put file text old new false done t o w =
      record { good = record { file = file; found = t.found; text = text; output = o; sound = t.sound }; written = w }
  put file text old new true breached t o w =
      record { good = record { file = file; found = t.found; text = text; output = o; sound = t.sound }; written = w }
  put file text old new b write_failed t o w = record {
    end = if b then breached else done;
    good = record { file = file; found = t.found; text = text; output = o; sound = t.sound };
    written = w;
  }
  put file text old new b no_memory t o w = inr (record {
    end = if b then breached else done;
    good = record { file = file; found = t.found; text = text; output = o; sound = t.sound };
    written = subst (Begins old new) (append-nil text) w;
  })
  put file text old new b end t o w = absurd w

  pub written : (o : Output) (old new : Tells) (end : Ended) → IsFetched r told reads reads_after o →
      Writes o.text o.is_breach old new end →
      Hunts r (surrounding told reads reads_after old new) end
  written o old new end f w = put f.file o.text old new o.is_breach end f.read f.output w

  -- a run that stopped before it wrote
  pub stopped : (output : Tells) (end : Ended) → StopsAt r told reads reads_after end →
      Hunts r (surrounding told reads reads_after output output) end
  stopped output (file_refused fault) s =
      record { file = s.file; found = s.read.found; refused = s.stops; sound = s.read.sound; untouched = refl }
  stopped output (second_refused too_many_rows) s = record {
    file = s.file;
    found = s.read.found;
    stack = s.stops.stack;
    means = s.stops.means;
    crowded = s.stops.crowded;
    sound = s.read.sound;
    untouched = refl;
  }
  stopped output read_failed s = record { none = s.none; rose = s.rose; untouched = refl }
  stopped output no_memory s = inl refl
  stopped output _ s = absurd s
