-- What is printed of a stack's bypasses, and by which job.
use Rattle.std.specs.Prelude.{ℕ, List}
use Rattle.clap.specs.Walk.{Text}
use Rattle.layer_mean.specs.Tree.{LayerTree}
use Rattle.job_mean.specs.Job.{Job, synth, pack}
use Rattle.stack_mean.specs.Plans.{plans_of}
use Rattle.bypass_mean.specs.Lines.{printed_lines}
use Rattle.bypass_laws.specs.Making.{bypasses_of, simplest}
use Rattle.job_ends.specs.Printed.{Lines, packed_file}
use Rattle.bypass_jobs.specs.declared.printing.Printing.{Printing}
use Rattle.bypass_jobs.specs.declared.printing.Printing.TheVariants.{Handlers, Traces}

abbrev pub printing : Printing → Lines
printing Handlers = printed_lines
printing Traces = packed_file

-- What is printed of the stack's own bypasses.
abbrev pub own_lines : Printing → List LayerTree → List (List ℕ)
own_lines what stack = printing what stack (plans_of stack) (bypasses_of simplest stack)

-- The job that prints it.
abbrev pub job_of : Printing → Text → Job
job_of Handlers file = synth file
job_of Traces file = pack file
