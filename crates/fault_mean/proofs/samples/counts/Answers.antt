use Rattle.std.proofs.Common.{refl}
use Rattle.layer_ast.specs.Cut.{piece}
use Rattle.layer_words.specs.Spelling.{reserved, kinds, symbols}
use Rattle.layer_ast.specs.Cut.{word_token, symbol_at}
use Rattle.fault_mean.proofs.samples.counts.Goals as goal

pub returns-clause-params : goal.returns-clause-params
unfolding piece reserved kinds word_token symbols symbol_at
returns-clause-params c = (refl, refl)

pub returns-clause-cells : goal.returns-clause-cells
unfolding piece reserved kinds word_token symbols symbol_at
returns-clause-cells c = (refl, refl)

pub returns-clause-headers : goal.returns-clause-headers
unfolding piece reserved kinds word_token symbols symbol_at
returns-clause-headers c = (refl, refl)

pub returns-clause-handlers : goal.returns-clause-handlers
unfolding piece reserved kinds word_token symbols symbol_at
returns-clause-handlers c = (refl, refl)

pub returns-clause-locals : goal.returns-clause-locals
unfolding piece reserved kinds word_token symbols symbol_at
returns-clause-locals c = (refl, refl)

pub returns-clause-layers : goal.returns-clause-layers
unfolding piece reserved kinds word_token symbols symbol_at
returns-clause-layers c = (refl, refl)
