use Rattle.std.proofs.Common.{◌≡◌, take}
use Rattle.std.specs.Prelude.{fold}
use Rattle.stack_shapes.specs.Prints.{first_print, print_with}
use Rattle.stack_shapes.proofs.print.print_of.Given as goal

abbrev pub invariant-loop-tag : goal.invariant-loop-tag
invariant-loop-tag l = l.print.byte ≡ fold print_with (first_print l.plan.kind) (take l.tag-index l.tag-items)
