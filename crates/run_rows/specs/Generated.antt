-- A run over a generated script.
use Rattle.std.specs.Prelude.{◌≡◌, true, false, [], ◌∷◌, ◌++◌, codes}
use Rattle.std.specs.List.{concat}
use Rattle.layer_mean.specs.Tree.{LayerTree}
use Rattle.script_mean.specs.Generate.{generate}
use Rattle.stack_mean.specs.Plans.{plans_of}
use Rattle.run_mean.specs.Mode.{Mode, layered, bypass}
use Rattle.run_mean.specs.Tally.{tally, accepted_lines}
use Rattle.layer_rows.specs.Counter.{counter}

-- One event of one member, which gives a packet that doesn't exist.
abbrev pub OneEvent : Type 0
OneEvent =
    concat (tally (counter ∷ []) (plans_of (counter ∷ [])) layered (generate 0 1 1 false))
    ≡ codes "deliver 0 packet 0 timer 0 block 0 announce 0 view 0 out 0 refused 0 absent 1 end 1\n" ++ codes "short 0\n"

-- One event of one member, which is a datagram from itself; in either mode.
abbrev pub OneDatagram : Type 0
OneDatagram = (mode : Mode) →
    concat (tally (counter ∷ []) (plans_of (counter ∷ [])) mode (generate 12 1 1 true))
    ≡ codes "deliver 0 packet 0 timer 0 block 0 announce 0 view 0 out 0 refused 1 absent 0 end 1\n" ++ codes "short 0\n"

-- One event of one member, which sends to itself: a common step, of which no packet comes.
abbrev pub empty : LayerTree
empty = record { name = codes "empty"; cells = []; headers = []; handlers = [] }

-- What is counted of that.
abbrev pub OneSend : Type 0
OneSend =
    concat (tally (empty ∷ []) (plans_of (empty ∷ [])) bypass (generate 14 1 1 false))
    ≡ codes "deliver 0 packet 0 timer 0 block 0 announce 0 view 0 out 0 refused 0 absent 0 end 1\n" ++ codes "short 0\n"

-- The text that an accepted stack of one place is answered with.
abbrev pub Accepts : Type 0
Accepts = concat (accepted_lines (counter ∷ [])) ≡ codes "accepted 1\n"
