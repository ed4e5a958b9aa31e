-- What the words of the command line give.
use Rattle.std.specs.Prelude.{Bool, List, Option, Some, codes}
use Rattle.clap.specs.Walk.{Row, Text, first_of}
use Rattle.command_line.specs.Rules.{is_set, read_in}
use Rattle.script_mean.specs.Words.{◌>>=◌}
use Rattle.job_mean.specs.Command.{command, telling_command}

-- the words at their places, the value of each option, and whether each flag was given
pub record Given : Type 0 where
  pub job : Text
  pub file : Text
  pub second : Option Text
  pub run : Option Text
  pub seed : Option Text
  pub events : Option Text
  pub members : Option Text
  pub turns : Option Text
  pub me : Option Text
  pub patience : Option Text
  pub law : Option Text
  pub traces : Option Text
  pub wire : Bool
  pub count : Bool
  pub raw : Bool
  pub telling : Bool

-- what `clap` found, by name
abbrev pub given_in : List Row → Option Given
given_in rows = do
  job ← first_of (codes "job") rows
  file ← first_of (codes "file") rows
  Some (record {
    job = job;
    file = file;
    second = first_of (codes "second") rows;
    run = first_of (codes "run") rows;
    seed = first_of (codes "seed") rows;
    events = first_of (codes "events") rows;
    members = first_of (codes "members") rows;
    turns = first_of (codes "turns") rows;
    me = first_of (codes "me") rows;
    patience = first_of (codes "patience") rows;
    law = first_of (codes "law") rows;
    traces = first_of (codes "with") rows;
    wire = is_set (codes "wire") rows;
    count = is_set (codes "count") rows;
    raw = is_set (codes "raw") rows;
    telling = is_set (codes "telling") rows;
  })

-- what the words after the program's name give, if `clap` takes them
abbrev pub given_of : List Text → Option Given
given_of = read_in command given_in

-- what they give if they are those of a replay that tells its events
abbrev pub telling_of : List Text → Option Given
telling_of = read_in telling_command given_in
