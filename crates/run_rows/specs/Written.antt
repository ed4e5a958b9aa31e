-- What the program writes of a script.
use Rattle.std.specs.Prelude.{ℕ, Bool, List}
use Rattle.std.specs.List.{concat}
use Rattle.layer_mean.specs.Tree.{LayerTree}
use Rattle.script_mean.specs.declared.event.ScriptEvent.{ScriptEvent}
use Rattle.stack_mean.specs.Plans.{plans_of}
use Rattle.run_mean.specs.Mode.{Mode}
use Rattle.run_mean.specs.Report.{report_lines, output_in}

-- What the program writes in a mode of a script of group 1.
abbrev pub script_output : List LayerTree → (stamp members : ℕ) → List ScriptEvent → Mode → (wire count : Bool) → List ℕ
script_output stack stamp members events mode wire count =
    concat (output_in stack (plans_of stack) (record { group = 1; stamp = stamp; members = members; events = events })
    mode wire count)

-- The report of such a script.
abbrev pub script_report : List LayerTree → (stamp members : ℕ) → List ScriptEvent → List ℕ
script_report stack stamp members events =
    concat (report_lines stack (plans_of stack)
    (record { group = 1; stamp = stamp; members = members; events = events }))
