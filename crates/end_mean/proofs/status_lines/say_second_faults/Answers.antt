-- By computation.
use Rattle.std.proofs.Common.{refl}
use Rattle.std.specs.Fmt.{digits}
use Rattle.layer_words.specs.Spelling.{kinds}
use Rattle.end_mean.proofs.status_lines.say_second_faults.Goals as goal

pub returns-clause-length : goal.returns-clause-length
unfolding digits kinds
returns-clause-length c = refl

pub returns-clause-form : goal.returns-clause-form
unfolding digits kinds
returns-clause-form c = refl

pub returns-clause-member : goal.returns-clause-member
unfolding digits kinds
returns-clause-member c = refl

pub returns-clause-rows : goal.returns-clause-rows
unfolding digits kinds
returns-clause-rows c = refl
