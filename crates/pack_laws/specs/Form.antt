-- What is read of a file is in form: whatever its traces name was made before, and is there.
use Rattle.std.specs.Prelude.{◌≡◌, ℕ, List, [], Ok}
use Rattle.std.specs.List.{AllZip}
use Rattle.layer_mean.specs.Tree.{LayerTree}
use Rattle.trace_mean.specs.Trace.{Operation}
use Rattle.trace_form_laws.specs.Closed.{Reach, Closed}
use Rattle.trace_form_laws.specs.There.{AreThere}
use Rattle.pack_mean.specs.File.{Due, due_of, traces_in}

-- What may be named before the first operation, where `fields` fields vary.
abbrev pub at_first : ℕ → Reach
at_first fields = record { fields = fields; binds = 0; notes = 0; rows = [] }

-- A trace for a case that is due names only what it was given and what it has made before, and what it names at the
-- places of the stack is there.
pub record InForm (stack : List LayerTree) (d : Due) (trace : List Operation) : Type 0 where
  pub closed : Closed stack (at_first d.fields) trace
  pub there : AreThere stack trace

-- So are all traces of a file that is read, one for each case that is due.
abbrev pub WhatIsReadIsInForm : Type 0
WhatIsReadIsInForm = (stack : List LayerTree) (text : List ℕ) (traces : List (List Operation)) →
    traces_in stack text ≡ Ok traces →
    AllZip (InForm stack) (due_of stack) traces
