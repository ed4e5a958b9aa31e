-- A trace that isn't the definition's, and may be run in its place.
use Rattle.std.specs.Prelude.{◌≡◌, [], ◌∷◌, Ok}
use Rattle.layer_mean.specs.declared.run.Case.TheVariants.{First}
use Rattle.stack_mean.specs.SampleLayers.{counter}
use Rattle.trace_mean.specs.Fuse.{trace_of}
use Rattle.bypass_mean.specs.Bypasses.{cast_entry}
use Rattle.symbol_mean.specs.Samples.{counting_trace, written_out}
use Rattle.pack_laws.specs.Replacement.{Replaces}

-- The counter's cast with its binds written out where they can be.
abbrev pub WrittenOutReplaces : Type 0
WrittenOutReplaces =
    (trace_of First (counter ∷ []) cast_entry.known cast_entry.fields ≡ Ok counting_trace) ×
    Replaces (counter ∷ []) cast_entry counting_trace written_out
