-- A run of the program as the definitions see it.
use Rattle.std.specs.Prelude.{ℕ, List, [], Option, IfSome}
use Rattle.std.specs.Io.KnownBytes.{Appends}
use Rattle.clap.specs.Walk.{Text}
use Rattle.job_mean.specs.Job.{Job}
use Rattle.job_ends.specs.Printed.{printed_text}
use Rattle.program_mean.specs.Headline.{Counted, Run, second_for, third_for, Ran}
use Rattle.outside.specs.Said.{Errors}
use Rattle.job_ends.specs.Comes.{Around, Finds, Beside, After}

abbrev pub counts_around : ℕ → ℕ → Counted
counts_around before after = record { before = before; after = after }

-- A run of these words that met these files, wrote this and said this; it had no clock or network.
abbrev pub run_of : List Text → Around → Errors → (file second third : Option (List ℕ)) → (written said : List ℕ) → Run
run_of words a e file second third written said = record {
  words = words;
  file = file;
  second = second;
  third = third;
  surroundings = record { clock = []; heard = []; lost = [] };
  sent = [];
  reads = counts_around a.reads a.reads_after;
  puts = counts_around a.output.faults a.output_after.faults;
  links = counts_around 0 0;
  sends = counts_around 0 0;
  errors = counts_around e.before.faults e.after.faults;
  written = written;
  said = said;
  status = e.status;
}

-- What the reads of a job's files find, where the shelf tells, what the sinks gained, and that this is a run of the
-- program: it ended in one way, for the cause of its status. Of a stack `synth` prints the text of its simplest
-- bypasses.
pub record Seen (words : List Text) (job : Option Job) (a : Around) (e : Errors) : Type 0 where
  pub file : Option (List ℕ)
  pub second : Option (List ℕ)
  pub third : Option (List ℕ)
  pub met : IfSome job (λ j. Finds j a.told file)
  pub beside : IfSome job (λ j. Beside j a.told (second_for j second))
  pub following : IfSome job (λ j. After j a.told (third_for j third))
  pub written : List ℕ
  pub put : Appends a.output.contents a.output_after.contents written
  pub said : List ℕ
  pub heard : Appends e.before.contents e.after.contents said
  pub ran : Ran printed_text (run_of words a e file second third written said)
