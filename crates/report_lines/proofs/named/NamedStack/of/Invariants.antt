use Rattle.std.proofs.Common.{◌≡◌}
use Rattle.std.specs.Rc.{rc_value}
use Rattle.stack_judge.specs.Answer.{stack_tree}
use Rattle.report_lines.specs.Fronts.{AreAllFronts}
use Rattle.report_lines.specs.Nones.{ends_of, first_nones}
use Rattle.report_lines.proofs.named.NamedStack.of.Given as goal

abbrev pub invariant-loop-place : goal.invariant-loop-place
invariant-loop-place l =
    (l.texts.items ≡ first_nones (stack_tree (rc_value l.stack)) l.place) ×
    (l.places.items ≡ ends_of (stack_tree (rc_value l.stack)) l.place)
    × AreAllFronts (stack_tree (rc_value l.stack)) l.place l.fronts.texts l.fronts.begins.items l.fronts.firsts.items
