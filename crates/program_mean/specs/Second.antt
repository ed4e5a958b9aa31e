-- Why the second file of a job is refused, or a stack that has too many rows for the job's members.
use Rattle.std.specs.Prelude.{ℕ, nat_le, nat_lt, List, length, if◌then◌else◌, Option, Some, None, Result, Ok, Err}
use Rattle.std.specs.List.{list_all}
use Rattle.layer_mean.specs.Tree.{LayerTree}
use Rattle.script_mean.specs.NodePlan.{node_plan}
use Rattle.script_mean.specs.Script.{ScriptFault, no_member, script_of}
use Rattle.script_mean.specs.declared.plan.NodePlan.{NodePlan}
use Rattle.script_mean.specs.declared.script.Script.{Script}
use Rattle.stack_mean.specs.Acceptance.{rows_of, most_rows}
use Rattle.job_mean.specs.Job.{Job, check, synth, pack, replay, replay_with, explain, load, node, audit}
use Rattle.end_mean.specs.Status.{SecondFault, misspelled, too_many_rows}

-- The members of a stack have too many rows in a group of `members` members.
abbrev pub crowd_fault : List LayerTree → ℕ → Option SecondFault
crowd_fault stack members = if nat_le (rows_of stack members) most_rows then None else Some too_many_rows

-- A script or a plan is judged before the rows; a node's own members are judged after the plan and before the rows.
abbrev pub after_script : List LayerTree → Result Script ScriptFault → Option SecondFault
after_script stack (Err fault) = Some (misspelled fault)
after_script stack (Ok script) = crowd_fault stack script.members

-- Own members of a node that the plan doesn't have are refused as if the plan's first line named them.
abbrev pub after_plan : List LayerTree → List ℕ → Result NodePlan ScriptFault → Option SecondFault
after_plan stack me (Err fault) = Some (misspelled fault)
after_plan stack me (Ok plan) =
    if list_all (λ id. nat_lt id (length plan.peers)) me then crowd_fault stack (length plan.peers) else Some
    (misspelled (no_member 1))

-- Why a job with an accepted stack and a second file of these bytes is refused for that file or for its members.
abbrev pub second_fault : Job → List LayerTree → List ℕ → Option SecondFault
second_fault (check file) stack text = None
second_fault (synth file) stack text = None
second_fault (pack file) stack text = None
second_fault (replay file script mode events wire count) stack text = after_script stack (script_of text)
second_fault (replay_with file script traces events wire count) stack text = after_script stack (script_of text)
second_fault (explain file script) stack text = after_script stack (script_of text)
second_fault (load file seed events members raw mode) stack text = crowd_fault stack members
second_fault (node file plan turns me patience mode) stack text = after_plan stack me (node_plan text)
second_fault (audit file law) stack text = None
