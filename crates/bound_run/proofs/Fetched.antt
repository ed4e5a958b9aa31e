-- What a check over the files that were read gives.
use Rattle.std.proofs.Common.{◌≡◌, refl, subst, ◌∙◌, ℕ, List, Option, Some, None, inl, inr}
use Rattle.std.specs.Option.{option_map}
use Rattle.std.specs.Prelude.{IfSome, Result, Ok, Err}
use Rattle.end_mean.specs.Status.{Ended, file_refused, second_refused, misspelled, too_many_rows, read_failed}
use Rattle.end_mean.specs.Status.{no_memory}
use Rattle.layer_mean.specs.Tree.{LayerTree}
use Rattle.outside.specs.Count.{Rose}
use Rattle.outside.specs.Shelf.{Shelved, found_in, after_read}
use Rattle.outside.specs.Tells.{Tells}
use Rattle.file_jobs.specs.Second as second
use Rattle.file_jobs.specs.Second.{IsSpelled}
use Rattle.file_jobs.specs.Stack as stacks
use Rattle.file_jobs.specs.Stack.{IsStack}
use Rattle.job_ends.specs.Comes.{surrounding}
use Rattle.job_ends.specs.Shown.{shown_end}
use Rattle.job_ends.specs.declared.ending.Ending.{Ending}
use Rattle.script_mean.specs.Script.{IsRunnable, script_of}
use Rattle.script_mean.specs.declared.script.Script.{Script}
use Rattle.bound_mean.specs.Ends.{Checks}
use Rattle.bound_mean.specs.Told.{ended}
use Rattle.bound_mean.specs.Words.{Request, family_of}
use Rattle.bound_run.specs.Fetching.{Fetches}
use Rattle.bound_run.specs.Looks.{Looks, StopsOver}
use Rattle.bound_run.specs.declared.output.Output.{Output}

module _ (r : Request) (told : Option Shelved) (reads : ℕ) where
  -- the stack file wasn't read, or is refused
  pub unread : (reads_after : ℕ) (end : Ended) → stacks.StopsAt r.file told reads reads_after end → (output : Tells) →
      Checks r (surrounding told reads reads_after output output) (ended end)
  unread n (file_refused fault) s output =
      record { file = s.file; found = s.found; refused = s.refused; sound = s.sound; untouched = refl }
  unread n read_failed s output = record { unfound = inl s.none; rose = s.rose; untouched = refl }
  unread n no_memory s output = inl refl
  unread n _ s output = absurd s

  module _ (between : ℕ) (stack : List LayerTree) (is : IsStack r.file told reads between stack)
      (later : Option Shelved) (kept : later ≡ option_map after_read told) where
    found_later : (found : Option (List ℕ)) → IfSome later (λ shelf. found_in shelf r.acts ≡ found) →
        IfSome (option_map after_read told) (λ shelf. found_in shelf r.acts ≡ found)
    found_later found finds = subst (λ t. IfSome t (λ shelf. found_in shelf r.acts ≡ found)) kept finds

    -- the acts weren't read, or are refused
    pub acts_unread : (reads_after : ℕ) (end : Ended) → second.StopsAt script_of r.acts later between reads_after end →
        (output : Tells) → Checks r (surrounding told reads reads_after output output) (ended end)
    acts_unread n (second_refused (misspelled fault)) s output = record {
      file = is.file;
      acts = s.text;
      found = is.found;
      beside = found_later (Some s.text) s.found;
      stack = stack;
      means = is.means;
      refused = s.refused;
      sound = s.sound ∙ is.sound;
      untouched = refl;
    }
    acts_unread n read_failed s output = record {
      unfound = inr (record {
        file = is.file;
        found = is.found;
        stack = stack;
        means = is.means;
        none = found_later None s.none;
      });
      rose = subst (λ count. Rose count n) is.sound s.rose;
      untouched = refl;
    }
    acts_unread n no_memory s output = inl refl
    acts_unread n _ s output = absurd s

    module _ (n : ℕ) (script : Script) (s : IsSpelled script_of IsRunnable r.acts later between n script) where
      over : (end : Ended) → StopsOver (family_of r stack script) end → (output : Tells) →
          Checks r (surrounding told reads n output output) (ended end)
      over (second_refused too_many_rows) crowded output = record {
        file = is.file;
        acts = s.text;
        found = is.found;
        beside = found_later (Some s.text) s.found;
        stack = stack;
        script = script;
        given = record { means = is.means; spells = s.spells };
        crowded = crowded;
        sound = s.sound ∙ is.sound;
        untouched = refl;
      }
      over no_memory stops output = inl refl
      over _ stops output = absurd stops

      -- what is written about the family, or why nothing is
      pub looked : (answer : Result Output Ending) → Looks (family_of r stack script) answer →
          Fetches r told reads n answer
      looked (Ok o) about = record {
        good = record {
          file = is.file;
          acts = s.text;
          found = is.found;
          beside = found_later (Some s.text) s.found;
          text = o.text;
          output = record {
            stack = stack;
            script = script;
            given = record { means = is.means; spells = s.spells };
            about = about;
          };
          sound = s.sound ∙ is.sound;
        };
        text_is = refl;
      }
      looked (Err ending) stops = over (shown_end ending) stops
