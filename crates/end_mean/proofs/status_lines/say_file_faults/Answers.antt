-- By computation.
use Rattle.std.proofs.Common.{refl}
use Rattle.std.specs.Fmt.{digits}
use Rattle.layer_words.specs.Spelling.{kinds}
use Rattle.end_mean.proofs.status_lines.say_file_faults.Goals as goal

pub returns-clause-length : goal.returns-clause-length
unfolding digits kinds
returns-clause-length c = refl

pub returns-clause-tokens : goal.returns-clause-tokens
unfolding digits kinds
returns-clause-tokens c = refl

pub returns-clause-grammar : goal.returns-clause-grammar
unfolding digits kinds
returns-clause-grammar c = refl

pub returns-clause-names : goal.returns-clause-names
unfolding digits kinds
returns-clause-names c = refl

pub returns-clause-names_twice : goal.returns-clause-names_twice
unfolding digits kinds
returns-clause-names_twice c = refl

pub returns-clause-limits : goal.returns-clause-limits
unfolding digits kinds
returns-clause-limits c = refl

pub returns-clause-types : goal.returns-clause-types
unfolding digits kinds
returns-clause-types c = refl

pub returns-clause-arities : goal.returns-clause-arities
unfolding digits kinds
returns-clause-arities c = refl

pub returns-clause-directions : goal.returns-clause-directions
unfolding digits kinds
returns-clause-directions c = refl

pub returns-clause-headers : goal.returns-clause-headers
unfolding digits kinds
returns-clause-headers c = refl

pub returns-clause-initials : goal.returns-clause-initials
unfolding digits kinds
returns-clause-initials c = refl

pub returns-clause-cycles : goal.returns-clause-cycles
unfolding digits kinds
returns-clause-cycles c = refl

pub returns-clause-weights : goal.returns-clause-weights
unfolding digits kinds
returns-clause-weights c = refl

pub returns-clause-joins : goal.returns-clause-joins
unfolding digits kinds
returns-clause-joins c = refl
