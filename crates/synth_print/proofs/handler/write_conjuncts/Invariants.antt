use Rattle.std.proofs.Common.{take}
use Rattle.std.specs.List.{enumerate_from, flat_map}
use Rattle.outside.specs.Lines.{Gains}
use Rattle.outside.specs.Tells.{tells_of}
use Rattle.synth_print.specs.Lines.{conjunct_turn, numbers_of}
use Rattle.synth_print.specs.Texts.{layers_in}
use Rattle.synth_print.proofs.handler.write_conjuncts.Given as goal

abbrev pub invariant-loop-k : goal.invariant-loop-k
invariant-loop-k g l = Gains
    (tells_of g.O.Sink l.initial.out)
    (tells_of g.O.Sink l.out)
    (flat_map (conjunct_turn (layers_in l.scope))
    (take l.k (enumerate_from 0 (numbers_of l.scope.source.now l.conjuncts))))
