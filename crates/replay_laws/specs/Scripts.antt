-- What a script that a text spells is made of.
use Rattle.std.specs.Prelude.{◌≡◌, ℕ, List, Ok}
use Rattle.std.specs.List.{AllByRecursion}
use Rattle.packet_mean.specs.ChainedState.{IsNumber}
use Rattle.script_mean.specs.Script.{IsRunnable, script_of}
use Rattle.script_mean.specs.declared.script.Script.{Script}
use Rattle.member_laws.specs.Members.{IsGivenEvent}

-- A script's numbers are below 2^32; it has 1 to 32 members; its events are of these members, and what they say is made
-- of bytes and numbers.
pub record IsGivenScript (script : Script) : Type 0 where
  pub group : IsNumber script.group
  pub stamp : IsNumber script.stamp
  pub runs : IsRunnable script
  pub events : AllByRecursion IsGivenEvent script.events

abbrev pub ScriptsAreGiven : Type 0
ScriptsAreGiven = (text : List ℕ) (script : Script) → script_of text ≡ Ok script → IsGivenScript script
