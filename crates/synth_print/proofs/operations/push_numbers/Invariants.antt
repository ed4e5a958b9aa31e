use Rattle.std.proofs.Common.{◌≡◌, ◌++◌, take}
use Rattle.synth_print.specs.Headers.{comma_list}
use Rattle.synth_print.specs.Operations.{number_texts}
use Rattle.synth_print.specs.Texts.{layers_in, terms_in, written_in}
use Rattle.synth_print.proofs.operations.push_numbers.Given as goal

abbrev pub invariant-loop-k : goal.invariant-loop-k
invariant-loop-k l =
    l.line ≡ l.initial.line ++
    comma_list (take l.k (number_texts (layers_in l.scope) (written_in l.scope) (terms_in l.scope) l.numbers))
