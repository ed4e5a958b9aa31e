-- What runs over a stack gave, over the bytes of its file.
use Rattle.std.proofs.Common.{sym, subst, ℕ, ◌≤◌, List}
use Rattle.std.specs.Prelude.{Result, Ok, Err}
use Rattle.layer_mean.specs.Tree.{LayerTree}
use Rattle.output_mean.specs.Judged.{Means}
use Rattle.stack_mean.specs.Acceptance.{most_rows, rows_of}
use Rattle.job_ends.specs.declared.ending.Ending.{Ending}
use Rattle.hunt_mean.specs.Words.{Request}
use Rattle.hunt_run.specs.Looks.{Goes, Looks, Stops}
use Rattle.hunt_run.specs.declared.hunt.Output.{Output}

pub looked : (r : Request) (file : List ℕ) (stack : List LayerTree) (answer : Result Output Ending) → Means file stack →
    rows_of stack r.members ≤ most_rows → Goes r file answer → Looks r file answer
looked r file stack (Ok o) means room goes = goes stack means room
looked r file stack (Err ending) means room goes = subst (Stops r file) (sym goes) tt
