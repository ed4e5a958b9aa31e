-- The acts of a member's outputs, and when these may be passed on.
use Rattle.std.specs.Prelude.{ℕ, ◌+◌, ◌^◌, ◌<◌, Bool, List, length, Option, IsSomeAnd}
use Rattle.std.specs.List.{AllByRecursion}
use Rattle.stack_judge.specs.Answer.{stack_tree}
use Rattle.stack_shapes.specs.Trees.{plans_tree}
use Rattle.run_mean.specs.Member.{Output}
use Rattle.view_core.specs.declared.step.Stepped.{Stepped}
use Rattle.node_laws.specs.Acts.{Act, output_acts, outputs_acts}
use Rattle.node_laws.specs.Groups.{IsSendable}
use Rattle.node_loop.specs.Sending.{sends_of_outputs, stepped_acts}
use Rattle.node_loop.specs.declared.source.OutputSource.{OutputSource}

-- The acts of an output of this source, of its outputs, and of a step.
abbrev pub acts_of_output : OutputSource → Output × Option ℕ → List Bool → List Act
acts_of_output s = output_acts (stack_tree s.stack.now) (plans_tree s.plans.now) s.id s.number

abbrev pub acts_of_outputs : OutputSource → List (Output × Option ℕ) → List Bool → List Act
acts_of_outputs s = outputs_acts (stack_tree s.stack.now) (plans_tree s.plans.now) s.id s.number

abbrev pub acts_of_step : OutputSource → List (Output × Option ℕ) → Stepped → List Bool → List Act
acts_of_step s = stepped_acts (stack_tree s.stack.now) (plans_tree s.plans.now) s.id s.number

-- Its outputs may be passed on: their packets have numbers, and what they hand on may be sent to those that it is for.
pub record MayPass (s : OutputSource) (outs : List (Output × Option ℕ)) (listening : ℕ → Option ℕ) : Type 0 where
  pub few : s.number + length outs < 2 ^ 64
  pub sendable : IsSomeAnd (listening s.id)
      (λ peers. AllByRecursion (IsSendable peers s.id) (sends_of_outputs (plans_tree s.plans.now) s.id outs))
