use Rattle.std.proofs.Common.{◌≡◌, map, take}
use Rattle.std.specs.Prelude.{fold}
use Rattle.stack_shapes.specs.Prints.{first_print, print_with}
use Rattle.packet_short.proofs.fit.print_of.Given as goal

abbrev pub invariant-loop-header : goal.invariant-loop-header
invariant-loop-header l = l.print.byte ≡
    fold print_with (first_print l.fn.kind) (map (λ h. h.tag) (take l.header-index l.header-items))
