-- The line of a step that wasn't common, part by part.
use Rattle.std.specs.Prelude.{ℕ, List, [], ◌++◌, codes, Option, Some, None}
use Rattle.std.specs.Fmt.{decimal}
use Rattle.layer_mean.specs.Tree.{LayerTree}
use Rattle.lack_mean.specs.Lacks.{Entry, Lack}
use Rattle.miss_mean.specs.Spots.{Spot}
use Rattle.miss_mean.specs.Text.{entry_text, lack_text}

-- `miss I M E `.
abbrev pub front_text : ℕ → ℕ → Entry → List ℕ
front_text event id entry = codes "miss " ++ decimal event ++ codes " " ++ decimal id ++ codes " " ++
    entry_text entry ++ codes " "

-- ` or LACK`, where a second case is made.
abbrev pub second_part : List LayerTree → List Spot → Option Lack → List ℕ
second_part stack spots None = []
second_part stack spots (Some lack) = codes " or " ++ lack_text stack spots lack
