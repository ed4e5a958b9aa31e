-- By computation.
use Rattle.std.proofs.Common.{refl}
use Rattle.clap.proofs.OnLiterals.{clap_on_literals}
use Rattle.job_mean.proofs.refusals.refuse_by_job.Goals as goal

pub returns-clause-no_job : goal.returns-clause-no_job
unfolding clap_on_literals
returns-clause-no_job c = refl

pub returns-clause-help_for_a_job : goal.returns-clause-help_for_a_job
unfolding clap_on_literals
returns-clause-help_for_a_job c = refl

pub returns-clause-script_for_check : goal.returns-clause-script_for_check
unfolding clap_on_literals
returns-clause-script_for_check c = refl

pub returns-clause-script_for_pack : goal.returns-clause-script_for_pack
unfolding clap_on_literals
returns-clause-script_for_pack c = refl

pub returns-clause-mode_for_check : goal.returns-clause-mode_for_check
unfolding clap_on_literals
returns-clause-mode_for_check c = refl

pub returns-clause-count_for_synth : goal.returns-clause-count_for_synth
unfolding clap_on_literals
returns-clause-count_for_synth c = refl

pub returns-clause-no_script : goal.returns-clause-no_script
unfolding clap_on_literals
returns-clause-no_script c = refl

pub returns-clause-nothing_to_explain : goal.returns-clause-nothing_to_explain
unfolding clap_on_literals
returns-clause-nothing_to_explain c = refl

pub returns-clause-mode_for_explain : goal.returns-clause-mode_for_explain
unfolding clap_on_literals
returns-clause-mode_for_explain c = refl

pub returns-clause-another_mode : goal.returns-clause-another_mode
unfolding clap_on_literals
returns-clause-another_mode c = refl

pub returns-clause-seed_for_replay : goal.returns-clause-seed_for_replay
unfolding clap_on_literals
returns-clause-seed_for_replay c = refl

pub returns-clause-script_for_load : goal.returns-clause-script_for_load
unfolding clap_on_literals
returns-clause-script_for_load c = refl

pub returns-clause-no_seed : goal.returns-clause-no_seed
unfolding clap_on_literals
returns-clause-no_seed c = refl

pub returns-clause-wire_for_node : goal.returns-clause-wire_for_node
unfolding clap_on_literals
returns-clause-wire_for_node c = refl

pub returns-clause-raw_for_replay : goal.returns-clause-raw_for_replay
unfolding clap_on_literals
returns-clause-raw_for_replay c = refl

pub returns-clause-raw_for_node : goal.returns-clause-raw_for_node
unfolding clap_on_literals
returns-clause-raw_for_node c = refl

pub returns-clause-patience_for_load : goal.returns-clause-patience_for_load
unfolding clap_on_literals
returns-clause-patience_for_load c = refl

pub returns-clause-no_law : goal.returns-clause-no_law
unfolding clap_on_literals
returns-clause-no_law c = refl

pub returns-clause-another_law : goal.returns-clause-another_law
unfolding clap_on_literals
returns-clause-another_law c = refl

pub returns-clause-script_for_audit : goal.returns-clause-script_for_audit
unfolding clap_on_literals
returns-clause-script_for_audit c = refl

pub returns-clause-law_for_check : goal.returns-clause-law_for_check
unfolding clap_on_literals
returns-clause-law_for_check c = refl

pub returns-clause-traces_for_layers : goal.returns-clause-traces_for_layers
unfolding clap_on_literals
returns-clause-traces_for_layers c = refl

pub returns-clause-traces_for_explain : goal.returns-clause-traces_for_explain
unfolding clap_on_literals
returns-clause-traces_for_explain c = refl

pub returns-clause-traces_for_load : goal.returns-clause-traces_for_load
unfolding clap_on_literals
returns-clause-traces_for_load c = refl

pub returns-clause-traces_for_node : goal.returns-clause-traces_for_node
unfolding clap_on_literals
returns-clause-traces_for_node c = refl

pub returns-clause-events_for_explain : goal.returns-clause-events_for_explain
unfolding clap_on_literals
returns-clause-events_for_explain c = refl

pub returns-clause-number_of_events_for_replay : goal.returns-clause-number_of_events_for_replay
unfolding clap_on_literals
returns-clause-number_of_events_for_replay c = refl

pub returns-clause-events_without_a_number : goal.returns-clause-events_without_a_number
unfolding clap_on_literals
returns-clause-events_without_a_number c = refl
