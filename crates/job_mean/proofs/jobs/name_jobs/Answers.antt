-- By computation.
use Rattle.std.proofs.Common.{refl}
use Rattle.clap.proofs.OnLiterals.{clap_on_literals}
use Rattle.job_mean.proofs.jobs.name_jobs.Goals as goal

pub returns-clause-checks : goal.returns-clause-checks
unfolding clap_on_literals
returns-clause-checks c = refl

pub returns-clause-synthesizes : goal.returns-clause-synthesizes
unfolding clap_on_literals
returns-clause-synthesizes c = refl

pub returns-clause-packs : goal.returns-clause-packs
unfolding clap_on_literals
returns-clause-packs c = refl

pub returns-clause-replays : goal.returns-clause-replays
unfolding clap_on_literals
returns-clause-replays c = refl

pub returns-clause-replays_by_default : goal.returns-clause-replays_by_default
unfolding clap_on_literals
returns-clause-replays_by_default c = refl

pub returns-clause-in_any_order : goal.returns-clause-in_any_order
unfolding clap_on_literals
returns-clause-in_any_order c = refl

pub returns-clause-explains : goal.returns-clause-explains
unfolding clap_on_literals
returns-clause-explains c = refl

pub returns-clause-loads : goal.returns-clause-loads
unfolding clap_on_literals
returns-clause-loads c = refl

pub returns-clause-runs_a_node : goal.returns-clause-runs_a_node
unfolding clap_on_literals
returns-clause-runs_a_node c = refl

pub returns-clause-after_the_end_of_options : goal.returns-clause-after_the_end_of_options
unfolding clap_on_literals
returns-clause-after_the_end_of_options c = refl

pub returns-clause-hyphen_and_nothing : goal.returns-clause-hyphen_and_nothing
unfolding clap_on_literals
returns-clause-hyphen_and_nothing c = refl

pub returns-clause-loads_datagrams : goal.returns-clause-loads_datagrams
unfolding clap_on_literals
returns-clause-loads_datagrams c = refl

pub returns-clause-runs_a_patient_node : goal.returns-clause-runs_a_patient_node
unfolding clap_on_literals
returns-clause-runs_a_patient_node c = refl

pub returns-clause-audits_peers : goal.returns-clause-audits_peers
unfolding clap_on_literals
returns-clause-audits_peers c = refl

pub returns-clause-audits_order : goal.returns-clause-audits_order
unfolding clap_on_literals
returns-clause-audits_order c = refl

pub returns-clause-audits_views : goal.returns-clause-audits_views
unfolding clap_on_literals
returns-clause-audits_views c = refl

pub returns-clause-replays_traces : goal.returns-clause-replays_traces
unfolding clap_on_literals
returns-clause-replays_traces c = refl

pub returns-clause-replays_traces_by_bypasses : goal.returns-clause-replays_traces_by_bypasses
unfolding clap_on_literals
returns-clause-replays_traces_by_bypasses c = refl

pub returns-clause-tells_events : goal.returns-clause-tells_events
unfolding clap_on_literals
returns-clause-tells_events c = refl

pub returns-clause-tells_events_in_any_order : goal.returns-clause-tells_events_in_any_order
unfolding clap_on_literals
returns-clause-tells_events_in_any_order c = refl

pub returns-clause-tells_events_by_traces : goal.returns-clause-tells_events_by_traces
unfolding clap_on_literals
returns-clause-tells_events_by_traces c = refl
