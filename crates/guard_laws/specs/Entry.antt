-- That the code of an entry passes its tests exactly where the run of the entry goes as predicted, and then does what
-- the run does.
use Rattle.std.specs.Prelude.{◌≡◌, ℕ, List, Option, Ok}
use Rattle.layer_mean.specs.declared.run.Case.{Case}
use Rattle.layer_mean.specs.Queue.{run}
use Rattle.layer_mean.specs.State.{State}
use Rattle.layer_mean.specs.Tree.{LayerTree}
use Rattle.stack_mean.specs.Acceptance.{weight_limit}
use Rattle.stack_mean.specs.Shape.{Known}
use Rattle.chain_laws.specs.Named.{NamedStack}
use Rattle.trace_mean.specs.Trace.{Operation}
use Rattle.trace_mean.specs.Worth.{Input}
use Rattle.trace_mean.specs.Follow.{follow}
use Rattle.trace_mean.specs.Fuse.{entry_task, trace_of}
use Rattle.trace_laws.specs.Right.{answer_for, Enters}
use Rattle.guard_mean.specs.Perform.{answer_end, performed}
use Rattle.guard_mean.specs.Prune.{hoist}
use Rattle.guard_mean.specs.Simplify.{simplified}
use Rattle.guard_mean.specs.Machine.{run_code}
use Rattle.guard_mean.specs.Straight.{code_of}

-- In layers that name only what is there, on the states and inputs of an entry, its guarded handler does what following
-- its trace does.
abbrev pub EntriesAreGuarded : Type 0
EntriesAreGuarded = (case : Case) (stack : List LayerTree) (k : Known) (fields : List (Option ℕ))
    (operations : List Operation)
    (i : Input) (states : List State) → NamedStack stack → trace_of case stack k fields ≡ Ok operations →
    Enters stack k fields i states →
    performed i (hoist operations) states ≡ answer_end (follow i operations states)

-- So does its code.
abbrev pub CodesFollowTraces : Type 0
CodesFollowTraces = (case : Case) (stack : List LayerTree) (k : Known) (fields : List (Option ℕ))
    (operations : List Operation)
    (i : Input) (states : List State) → NamedStack stack → trace_of case stack k fields ≡ Ok operations →
    Enters stack k fields i states →
    run_code i (code_of (simplified (hoist operations))) states ≡ answer_end (follow i operations states)

-- And it ends with the states and outputs of the run, where no decision of the run left the prediction in the case;
-- else it doesn't pass.
abbrev pub CodesAreRight : Type 0
CodesAreRight = (case : Case) (stack : List LayerTree) (k : Known) (fields : List (Option ℕ))
    (operations : List Operation)
    (i : Input) (states : List State) → NamedStack stack → trace_of case stack k fields ≡ Ok operations →
    Enters stack k fields i states →
    run_code i (code_of (simplified (hoist operations))) states
    ≡ answer_end (answer_for case (run weight_limit stack states (entry_task stack k fields i)).world)
