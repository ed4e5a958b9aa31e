-- Whole outputs.
use Rattle.std.proofs.Common.{◌≡◌, refl, Bool, true, false, List, ◌∷◌, ◌++◌, length}
use Rattle.std.specs.List.{flat_map, sum_by}
use Rattle.run_mean.specs.Mode.{Mode}
use Rattle.layer_mean.specs.Tree.{LayerTree}
use Rattle.script_mean.specs.declared.script.Script.{Script}
use Rattle.stack_mean.specs.Plan.{Plan}
use Rattle.group_mean.specs.Told.{replay_lines}
use Rattle.run_mean.specs.Report.{end_line, run_of}
use Rattle.stack_play.specs.Turns.{visits_if}
use Rattle.stack_play.proofs.Held.{lines_at, visits_at}

-- The output of a script: the lines of its moments, and the last ones.
pub output_is : (mode : Mode) (stack : List LayerTree) (plans : List Plan) (s : Script) (events wire count : Bool) →
    replay_lines stack plans s mode events wire count
    ≡ flat_map (lines_at mode stack plans events wire) (run_of stack plans s)
    ++ end_line (length s.events) ∷ visits_if count (sum_by (visits_at mode stack plans) (run_of stack plans s))
unfolding replay_lines
output_is mode stack plans s events wire true = refl
output_is mode stack plans s events wire false = refl
