use Rattle.std.proofs.Common.{ℕ, ◌+◌, ◌*◌}
use Rattle.std.specs.Prelude.{length}
use denote.Ref.{Bor}
use Rattle.synth_print.specs.Parts.{part_node}
use Rattle.synth_print.specs.declared.scope.Scope.{Scope}
use Rattle.synth_print.proofs.numbers.+texts.Given as goal

-- One more note weighs more than any node, since these have numbers of 32 bits; and a node weighs more than the steps
-- from it to those that it names.
abbrev rank : Bor Scope → ℕ → ℕ → ℕ
rank s node step = 34359738368 * s.now.notes + 8 * node + step

abbrev pub decreases-push_number : goal.decreases-push_number
decreases-push_number l = rank l.scope l.number 4

abbrev pub decreases-push_message : goal.decreases-push_message
decreases-push_message l = rank l.scope l.number 4

abbrev pub decreases-push_core : goal.decreases-push_core
decreases-push_core l = rank l.scope 0 1

abbrev pub decreases-push_note : goal.decreases-push_note
decreases-push_note l = rank l.scope 0 0

abbrev pub decreases-push_part : goal.decreases-push_part
decreases-push_part l = rank l.scope (part_node l.part) 7

abbrev pub decreases-push_parts : goal.decreases-push_parts
decreases-push_parts l = rank l.below.scope l.below.number (length l.parts.now)

abbrev pub decreases-push_indexed : goal.decreases-push_indexed
decreases-push_indexed l = rank l.scope l.index 5

abbrev pub decreases-push_cell : goal.decreases-push_cell
decreases-push_cell l = rank l.scope l.index 6

abbrev pub decreases-push_square : goal.decreases-push_square
decreases-push_square l = rank l.below.scope l.below.number 0

abbrev pub decreases-push_item : goal.decreases-push_item
decreases-push_item l = rank l.below.scope l.below.number 3
