-- What a contract sees of outputs.
use Rattle.std.specs.Prelude.{ℕ, List, Option, None}
use Rattle.layer_words.specs.declared.events.Dir.{Dir}
use Rattle.layer_mean.specs.declared.run.Event.{Event}
use Rattle.packet_mean.specs.declared.here.Here.{Here}
use Rattle.run_mean.specs.Member.{Output, output_of}

-- Outputs in order, each with the plan under which it is sent short, if it is: where they come from, and how many there
-- may be.
pub record Gathered : Type 0 where
  pub here : Here
  pub outputs : List (Output × Option ℕ)
  pub places : ℕ

-- An event that leaves the stack of a member that is here, as an output; it isn't sent short.
abbrev pub full_output : Here → Dir × Event → Output × Option ℕ
full_output here x = (output_of here x, None)
