-- By computation.
use Rattle.std.proofs.Common.{refl}
use Rattle.std.specs.Fmt.{digits}
use Rattle.layer_words.specs.Spelling.{kinds}
use Rattle.end_mean.proofs.status_lines.say_statuses.Goals as goal

pub returns-clause-good : goal.returns-clause-good
unfolding digits kinds
returns-clause-good c = (refl, refl)

pub returns-clause-file : goal.returns-clause-file
unfolding digits kinds
returns-clause-file c = refl

pub returns-clause-words : goal.returns-clause-words
unfolding digits kinds
returns-clause-words c = (refl, refl)

pub returns-clause-second : goal.returns-clause-second
unfolding digits kinds
returns-clause-second c = refl

pub returns-clause-read : goal.returns-clause-read
unfolding digits kinds
returns-clause-read c = (refl, refl)

pub returns-clause-write : goal.returns-clause-write
unfolding digits kinds
returns-clause-write c = (refl, refl)

pub returns-clause-link : goal.returns-clause-link
unfolding digits kinds
returns-clause-link c = (refl, refl)

pub returns-clause-memory : goal.returns-clause-memory
unfolding digits kinds
returns-clause-memory c = (refl, refl)

pub returns-clause-report : goal.returns-clause-report
unfolding digits kinds
returns-clause-report c = refl

pub returns-clause-breach : goal.returns-clause-breach
unfolding digits kinds
returns-clause-breach c = (refl, refl)

pub returns-clause-traces : goal.returns-clause-traces
unfolding digits kinds
returns-clause-traces c = refl
