-- A run over streams, and the handing on of what was put.
use Rattle.std.specs.Prelude.{◌≡◌, ℕ, Bool, true, false, List, Option, Some, None}
use Rattle.std.specs.Io.KnownBytes.{Appends}
use Rattle.outside.specs.Said.{errors}
use Rattle.outside.specs.Shelf.{Shelved}
use Rattle.outside.specs.Tells.{Tells}
use Rattle.program_streams.specs.Streams.{HandsOn, Stream}
use Rattle.format_mean.specs.Layout.{formatted}
use Rattle.format_run.specs.declared.ending.LayoutEnding.{LayoutEnding}
use Rattle.format_run.specs.declared.ending.LayoutEnding.TheVariants as ending
use Rattle.format_run.specs.Ends.{Around, IsGood, Comes, Said}

-- How a run ended, by whether the output's stream got all that was put: a whole text that it lacks is a fault of
-- writing.
abbrev pub end_after_delivery : Bool → LayoutEnding → LayoutEnding
end_after_delivery false ending.Done = ending.Write
end_after_delivery whole end = end

abbrev pub surrounding : Option Shelved → ℕ → ℕ → Tells → Tells → Around
surrounding told reads reads_after output output_after = record {
  told = told;
  reads = reads;
  reads_after = reads_after;
  output = output;
  output_after = output_after;
}

-- A run: what it put on the output, and how it ended; what was handed on to the output's stream; and what was said
-- then of the end that follows from both, and handed on to the standard error's stream.
pub record RunsThrough (name : Option (List ℕ)) (told : Option Shelved) (reads reads_after : ℕ) (out err : Stream)
    (status : ℕ) : Type 0 where
  pub put : Tells
  pub end : LayoutEnding
  pub came : Comes name (surrounding told reads reads_after out.before put) end
  pub whole : Bool
  pub handed_on : HandsOn put out.after out.holds whole
  pub closing : Tells
  pub said : Said (end_after_delivery whole end) (errors err.before closing status)
  pub heard : Bool
  pub told_on : HandsOn closing err.after err.holds heard

-- A file that can be laid out was found, and the output's stream gained the whole text.
pub record DeliversText (name : List ℕ) (told : Option Shelved) (reads reads_after : ℕ) (out : Stream) : Type 0 where
  pub file : List ℕ
  pub found : IsGood name told reads reads_after file
  pub gained : Appends out.before.contents out.holds (formatted file)

abbrev pub Delivers : Option (List ℕ) → Option Shelved → (reads reads_after : ℕ) → Stream → Type 0
Delivers None told reads reads_after out = ⊥
Delivers (Some name) told reads reads_after out = DeliversText name told reads reads_after out
