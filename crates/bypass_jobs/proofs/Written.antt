-- What a job that prints bypasses gives.
use Rattle.std.proofs.Common.{◌≡◌, refl, List, []}
use Rattle.clap.specs.Walk.{Text}
use Rattle.layer_mean.specs.Tree.{LayerTree}
use Rattle.stack_mean.specs.Plan.{Plan}
use Rattle.stack_mean.specs.Plans.{plans_of}
use Rattle.end_mean.specs.Status.{Ended, done}
use Rattle.bypass_mean.specs.Bypasses.{Bypasses}
use Rattle.bypass_laws.specs.Making.{bypasses_of, simplest}
use Rattle.bypass_laws.proofs.Making.{simplest_are_of_stack}
use Rattle.job_ends.specs.Comes.{Around, Comes, Good, Writes}
use Rattle.job_ends.proofs.Comes.{written}
use Rattle.file_jobs.specs.Stack.{IsStack, StopsAt}
use Rattle.file_jobs.proofs.Sound.{means_sound}
use Rattle.file_jobs.proofs.Stops.{stops}
use Rattle.bypass_jobs.specs.declared.printing.Printing.{Printing}
use Rattle.bypass_jobs.specs.declared.printing.Printing.TheVariants.{Handlers, Traces}
use Rattle.bypass_jobs.specs.Printing.{job_of, own_lines, printing}

-- What is printed of simplest bypasses over a stack's own plans is what is printed of it.
pub printed_is : (what : Printing) (stack : List LayerTree) (plans : List Plan) (b : Bypasses) →
    plans ≡ plans_of stack →
    b ≡ bypasses_of simplest stack → printing what stack plans b ≡ own_lines what stack
printed_is what stack plans b plans_are made k = printing what stack (plans_are k) (made k)

-- A stack that was read has an output.
module _ (name : Text) (a : Around) (stack : List LayerTree) (f : IsStack name a.told a.reads a.reads_after stack) where
  good : (what : Printing) → Good (job_of what name) a.told
  good Handlers = record {
    file = f.file;
    second = [];
    third = [];
    found = f.found;
    beside = refl;
    following = refl;
    lines = own_lines Handlers stack;
    output = record {
      stack = stack;
      means = f.means;
      bypasses = bypasses_of simplest stack;
      of_stack = simplest_are_of_stack stack (means_sound f.file stack f.means);
      simplest = refl;
      written = refl;
    };
  }
  good Traces = record {
    file = f.file;
    second = [];
    third = [];
    found = f.found;
    beside = refl;
    following = refl;
    lines = own_lines Traces stack;
    output = record {
      stack = stack;
      means = f.means;
      bypasses = bypasses_of simplest stack;
      of_stack = simplest_are_of_stack stack (means_sound f.file stack f.means);
      simplest = refl;
      written = refl;
    };
  }

-- A job whose stack was read and whose text was written or begun.
pub print_comes : (what : Printing) (name : Text) (a : Around) (stack : List LayerTree)
    (f : IsStack name a.told a.reads a.reads_after stack)
    (end : Ended) → Writes (own_lines what stack) done a.output a.output_after end → Comes (job_of what name) a end
unfolding good
print_comes Handlers name a stack f end w = written (job_of Handlers name) a (good name a stack f Handlers) end f.sound
    w
print_comes Traces name a stack f end w = written (job_of Traces name) a (good name a stack f Traces) end f.sound w

-- A job whose stack wasn't read.
pub print_stops : (what : Printing) (name : Text) (a : Around) (end : Ended) →
    StopsAt name a.told a.reads a.reads_after end →
    a.output_after ≡ a.output → Comes (job_of what name) a end
print_stops Handlers name a end s same = stops (job_of Handlers name) a end tt s same
print_stops Traces name a end s same = stops (job_of Traces name) a end tt s same
