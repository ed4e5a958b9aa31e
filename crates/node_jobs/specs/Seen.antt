-- A run of a node as the definitions of the program see it.
use Rattle.std.specs.Prelude.{ℕ, List, Option, None}
use Rattle.std.specs.Io.KnownBytes.{Appends}
use Rattle.clap.specs.Walk.{Text}
use Rattle.run_mean.specs.Journal.{Handed}
use Rattle.job_ends.specs.Printed.{printed_text}
use Rattle.program_mean.specs.Headline.{Run}
use Rattle.program_mean.specs.Headline as program
use Rattle.group_mean.specs.Node.{Surroundings}
use Rattle.outside.specs.Said.{Errors}
use Rattle.job_ends.specs.Comes.{Around, Finds, Beside}
use Rattle.job_ends.specs.Seen.{counts_around}
use Rattle.node_laws.specs.Network.{Tells}
use Rattle.node_loop.specs.Around.{Told}
use Rattle.node_loop.specs.Passing.{HandedSome}
use Rattle.node_jobs.specs.Comes.{Beyond, Node, job_of}

-- A run of these words that met these files (a node has no third) and these surroundings, handed this to the network,
-- wrote this and said this.
abbrev pub run_of : List Text → Around → Beyond → Errors → (file second : Option (List ℕ)) → Surroundings →
    List Handed → (written said : List ℕ) → Run
run_of words a n e file second surroundings sent written said = record {
  words = words;
  file = file;
  second = second;
  third = None;
  surroundings = surroundings;
  sent = sent;
  reads = counts_around a.reads a.reads_after;
  puts = counts_around a.output.faults a.output_after.faults;
  links = counts_around n.faults n.faults_after;
  sends = counts_around n.sends n.sends_after;
  errors = counts_around e.before.faults e.after.faults;
  written = written;
  said = said;
  status = e.status;
}

-- What the reads of a node's files find, where the shelf tells; what its clock told; what was handed to its network and
-- heard of it, where that tells; what the sinks gained; and that this is a run of the program: it ended in one way, for
-- the cause of its status.
pub record NodeSeen (words : List Text) (w : Node) (a : Around) (n : Beyond) (e : Errors) : Type 0 where
  pub file : Option (List ℕ)
  pub second : Option (List ℕ)
  pub met : Finds (job_of w) a.told file
  pub beside : Beside (job_of w) a.told second
  pub surroundings : Surroundings
  pub sent : List Handed
  pub clock : Told n.clock n.clock_after surroundings.clock
  pub network : Tells (HandedSome sent surroundings.heard) n.told n.told_after
  pub written : List ℕ
  pub put : Appends a.output.contents a.output_after.contents written
  pub said : List ℕ
  pub heard : Appends e.before.contents e.after.contents said
  pub ran : program.Ran printed_text (run_of words a n e file second surroundings sent written said)
