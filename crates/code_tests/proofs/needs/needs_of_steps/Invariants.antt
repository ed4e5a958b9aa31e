use Rattle.std.proofs.Common.{◌≡◌, ◌≤◌, List, map, take}
use Rattle.code_make.specs.Trees.{step_tree}
use Rattle.code_make.specs.declared.code.Heading.{Heading}
use Rattle.code_tests.specs.Registers.{needed_room, steps_needed}
use Rattle.code_tests.proofs.needs.needs_of_steps.Given as goal

abbrev pub invariant-loop-step : goal.invariant-loop-step
invariant-loop-step l =
    ((hs : List Heading) → needed_room l.needs ≡ steps_needed (map (step_tree hs) (take l.step-index l.steps)))
    × (l.needs.numbers ≤ l.step-index) × (l.needs.messages ≤ l.step-index) × (l.needs.rows ≤ l.step-index)
