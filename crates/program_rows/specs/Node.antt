-- A node of all three members of the counter stack through two turns, in the second of which the first receive fails.
use Rattle.std.specs.Prelude.{ℕ, List, [], ◌∷◌, ◌++◌, codes, replicate}
use Rattle.run_mean.specs.Mode.{bypass}
use Rattle.run_mean.specs.Journal.{Heard, silence, failure}
use Rattle.file_mean.specs.CounterFile as counter
use Rattle.group_mean.specs.Node.{Surroundings, NodeWords}
use Rattle.output_mean.specs.Output.{Serves, GoesDeaf}

-- Its plan, of which these turns have nothing.
abbrev pub plan : List ℕ
plan =
    codes "group 1 stamp 7 members 3\n" ++ codes "peer 0 127.0.0.1:47310\n" ++ codes "peer 1 127.0.0.1:47311\n"
    ++ codes "peer 2 127.0.0.1:47312\n" ++ codes "turn 3 cast 0 6869\n" ++ codes "turn 5 cast 2 -\n"

abbrev pub words : ℕ → NodeWords
words patience = record { turns = 2; me = 0 ∷ 1 ∷ 2 ∷ []; patience = patience; mode = bypass }

abbrev pub surroundings : List Heard → Surroundings
surroundings heard = record { clock = 0 ∷ 1 ∷ []; heard = heard; lost = [] }

abbrev pub until_failure : List Heard
until_failure = replicate 48 silence ++ failure ∷ []

abbrev pub six_ticks : List ℕ
six_ticks =
    codes "> tick 0 0\n" ++ codes "> tick 1 0\n" ++ codes "> tick 2 0\n" ++ codes "> tick 0 1\n" ++ codes "> tick 1 1\n"
    ++ codes "> tick 2 1\n"

-- Without patience it ends there.
abbrev pub EndsThere : Type 0
EndsThere = GoesDeaf counter.text plan (words 0) (surroundings until_failure) six_ticks []

-- With patience for one failure it says which member was deaf, and goes on.
abbrev pub GoesOn : Type 0
GoesOn = Serves counter.text plan (words 1) (surroundings (until_failure ++ replicate 47 silence))
    (six_ticks ++ codes "deaf 0\n" ++ codes "end 6\n") []
