-- What is read, as the definitions see it.
use Rattle.std.specs.Prelude.{ℕ, List, Option, Some, option_map}
use Rattle.clap.specs.Walk.{Text}
use Rattle.script_mean.specs.Words.{◌>>=◌}
use Rattle.group_mean.specs.Shown.{shown_mode}
use Rattle.job_mean.specs.Given as given
use Rattle.job_mean.specs.Job as job
use Rattle.job_mean.specs.Job.{a_number, a_number_or_zero, mode_of, most_node_turns, most_patience}
use Rattle.job_text.specs.declared.given.Given.{Given}
use Rattle.job_text.specs.declared.named.Job.{Job}
use Rattle.job_text.specs.declared.named.Job.TheVariants.{Check, Synth, Pack, Replay, ReplayWith, Explain, Load, Node}
use Rattle.job_text.specs.declared.named.Job.TheVariants.{Audit}
use denote.Ref.{Bor}

abbrev pub shown_job : Job → job.Job
shown_job (Check file) = job.check file.now
shown_job (Synth file) = job.synth file.now
shown_job (Pack file) = job.pack file.now
shown_job (Replay r) = job.replay r.file.now r.script.now (shown_mode r.mode) r.events r.wire r.count
shown_job (ReplayWith r) = job.replay_with r.file.now r.script.now r.traces.now r.events r.wire r.count
shown_job (Explain e) = job.explain e.file.now e.script.now
shown_job (Load l) = job.load l.file.now l.seed l.events l.members l.raw (shown_mode l.mode)
shown_job (Node n) = job.node n.file.now n.plan.now n.turns n.members.items n.patience (shown_mode n.mode)
shown_job (Audit a) = job.audit a.file.now a.law

-- a text that may be missing
abbrev pub text : Option (Bor Text) → Option Text
text = option_map (λ s. s.now)

abbrev pub shown_given : Given → given.Given
shown_given g = record {
  job = g.job.now;
  file = g.file.now;
  second = text g.second;
  run = text g.run;
  seed = text g.seed;
  events = text g.events;
  members = text g.members;
  turns = text g.turns;
  me = text g.me;
  patience = text g.patience;
  law = text g.law;
  traces = text g.traces;
  wire = g.wire;
  count = g.count;
  raw = g.raw;
  telling = g.telling;
}

-- the job of a node whose own members are read
abbrev pub node_of : given.Given → Option (List ℕ) → Option job.Job
node_of given members = do
  plan ← given.second
  turns ← a_number 0 most_node_turns given.turns
  me ← members
  mode ← mode_of given.run
  patience ← a_number_or_zero most_patience given.patience
  Some (job.node given.file plan turns me patience mode)
