-- By computation.
use Rattle.std.proofs.Common.{refl}
use Rattle.std.specs.Fmt.{digits}
use Rattle.layer_words.specs.Spelling.{kinds}
use Rattle.end_mean.proofs.status_lines.say_report_faults.Goals as goal

pub returns-clause-length : goal.returns-clause-length
unfolding digits kinds
returns-clause-length c = refl

pub returns-clause-form : goal.returns-clause-form
unfolding digits kinds
returns-clause-form c = refl
