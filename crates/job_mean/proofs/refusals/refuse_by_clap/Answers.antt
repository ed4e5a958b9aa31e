-- By computation.
use Rattle.std.proofs.Common.{refl}
use Rattle.clap.proofs.OnLiterals.{clap_on_literals}
use Rattle.job_mean.proofs.refusals.refuse_by_clap.Goals as goal

pub returns-clause-no_words : goal.returns-clause-no_words
unfolding clap_on_literals
returns-clause-no_words c = refl

pub returns-clause-no_file : goal.returns-clause-no_file
unfolding clap_on_literals
returns-clause-no_file c = refl

pub returns-clause-fourth_word : goal.returns-clause-fourth_word
unfolding clap_on_literals
returns-clause-fourth_word c = refl

pub returns-clause-option_twice : goal.returns-clause-option_twice
unfolding clap_on_literals
returns-clause-option_twice c = refl

pub returns-clause-flag_twice : goal.returns-clause-flag_twice
unfolding clap_on_literals
returns-clause-flag_twice c = refl

pub returns-clause-flag_with_a_value : goal.returns-clause-flag_with_a_value
unfolding clap_on_literals
returns-clause-flag_with_a_value c = refl

pub returns-clause-short : goal.returns-clause-short
unfolding clap_on_literals
returns-clause-short c = refl

pub returns-clause-unknown : goal.returns-clause-unknown
unfolding clap_on_literals
returns-clause-unknown c = refl

pub returns-clause-help : goal.returns-clause-help
unfolding clap_on_literals
returns-clause-help c = refl

pub returns-clause-short_help : goal.returns-clause-short_help
unfolding clap_on_literals
returns-clause-short_help c = refl

pub returns-clause-version : goal.returns-clause-version
unfolding clap_on_literals
returns-clause-version c = refl

pub returns-clause-no_value : goal.returns-clause-no_value
unfolding clap_on_literals
returns-clause-no_value c = refl

pub returns-clause-option_for_a_value : goal.returns-clause-option_for_a_value
unfolding clap_on_literals
returns-clause-option_for_a_value c = refl

pub returns-clause-negative_value : goal.returns-clause-negative_value
unfolding clap_on_literals
returns-clause-negative_value c = refl

pub returns-clause-end_for_a_value : goal.returns-clause-end_for_a_value
unfolding clap_on_literals
returns-clause-end_for_a_value c = refl

pub returns-clause-raw_twice : goal.returns-clause-raw_twice
unfolding clap_on_literals
returns-clause-raw_twice c = refl

pub returns-clause-traces_twice : goal.returns-clause-traces_twice
unfolding clap_on_literals
returns-clause-traces_twice c = refl

pub returns-clause-events_twice : goal.returns-clause-events_twice
unfolding clap_on_literals
returns-clause-events_twice c = refl

pub returns-clause-events_with_a_value : goal.returns-clause-events_with_a_value
unfolding clap_on_literals
returns-clause-events_with_a_value c = refl
