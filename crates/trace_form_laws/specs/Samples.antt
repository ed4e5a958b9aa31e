-- The counts at a small stack: its premises hold, and the joins of its trace are as many as are counted of its entry.
use Rattle.std.specs.Prelude.{◌≡◌, ℕ, List, [], ◌∷◌, Ok}
use Rattle.layer_mean.specs.declared.run.Case.TheVariants.{First}
use Rattle.layer_mean.specs.Tree.{number, MessageTree, message, cut, join, LayerTree}
use Rattle.stack_mean.specs.Acceptance.{weight, most_joins, acceptance}
use Rattle.stack_mean.specs.Cases.{sending}
use Rattle.stack_mean.specs.NoShape.{drawn_from}
use Rattle.stack_mean.specs.Shape.{app_cast}
use Rattle.trace_mean.specs.Trace.{Operation}
use Rattle.trace_mean.specs.Fuse.{trace_of}
use Rattle.trace_mean.specs.Counts.{trace_length, trace_notes, trace_outputs, trace_joins}
use Rattle.trace_form_laws.specs.Entries.{entry_node}

-- A cast goes on with its first bytes before it, twice.
abbrev pub first_bytes : MessageTree
first_bytes = cut (message 0) (number 0) (number 8)

abbrev pub joining : List LayerTree
joining = sending (join first_bytes (join first_bytes (message 0))) ∷ []

-- How many joins, notes, outputs and other operations there are.
pub record Sums : Type 0 where
  pub joins : ℕ
  pub notes : ℕ
  pub outputs : ℕ
  pub length : ℕ

abbrev pub sums : List Operation → Sums
sums operations = record {
  joins = trace_joins operations;
  notes = trace_notes operations;
  outputs = trace_outputs operations;
  length = trace_length operations;
}

abbrev pub JoinsAreMet : Type 0
JoinsAreMet =
    (drawn_from (λ operations. Ok (sums operations)) (trace_of First joining app_cast []) ≡
    Ok (record { joins = 2; notes = 1; outputs = 1; length = 2 })) ×
    (acceptance joining ≡ Ok joining) ×
    (most_joins joining (entry_node joining app_cast) ≡ 2) ×
    (weight joining (entry_node joining app_cast) ≡ 2)
