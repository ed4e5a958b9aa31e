-- Casts through stacks of several layers: what is written, and the bytes of their packets in both modes.
use Rattle.std.specs.Prelude.{◌≡◌, ℕ, true, List, [], ◌∷◌, ◌++◌, codes}
use Rattle.script_mean.specs.declared.event.ScriptEvent.{ScriptEvent}
use Rattle.script_mean.specs.declared.event.ScriptEvent.TheVariants as script
use Rattle.layer_mean.specs.Tree.{LayerTree}
use Rattle.run_mean.specs.Mode.{Mode, layered, bypass}
use Rattle.layer_rows.specs.Tower.{bottom, counting, loopback, total}
use Rattle.run_rows.specs.Written.{script_output}

-- A cast of one byte by member 0.
abbrev pub one_cast : List ScriptEvent
one_cast = script.Cast 0 (codes "a") ∷ []

-- What is written of one cast in a group of two, with its bytes and the number of visits.
abbrev pub cast_in : List LayerTree → Mode → List ℕ
cast_in stack mode = script_output stack 1 2 one_cast mode true true

-- The stack of three places: the packet comes first.
abbrev pub ThreePlaces : Type 0
ThreePlaces =
    (cast_in (bottom ∷ loopback ∷ total ∷ []) layered ≡
    codes "packet 1 0 all bottom.net(1)/local.none()/total.num(0,0) 61\n"
    ++ codes "wire 1 e50000000100000001000000000000000300ff010000000100010000000000000000" ++ codes "61\n"
    ++ codes "deliver 0 cast 0 61\n" ++ codes "end 1\n" ++ codes "visits 4\n")
    × (cast_in (bottom ∷ loopback ∷ total ∷ []) bypass ≡
    codes "packet 1 0 all bottom.net(1)/local.none()/total.num(0,0) 61\n"
    ++ codes "wire 1 e60000000100000001000000000000000300ff00000000000000000061\n"
    ++ codes "deliver 0 cast 0 61\n" ++ codes "end 1\n" ++ codes "visits 0\n")

-- The stack of four places: the delivery comes first; 40 bytes in full, and 33 short.
abbrev pub FourPlaces : Type 0
FourPlaces =
    (cast_in (bottom ∷ counting ∷ loopback ∷ total ∷ []) layered ≡
    codes "deliver 0 cast 0 61\n"
    ++ codes "packet 1 0 all bottom.net(1)/mnak.num(0)/local.none()/total.num(0,0) 61\n"
    ++ codes "wire 1 e50000000100000001000000000000000300ff" ++ codes "0100000001" ++ codes "0100000000" ++ codes "00"
    ++ codes "010000000000000000" ++ codes "61\n" ++ codes "end 1\n" ++ codes "visits 5\n")
    × (cast_in (bottom ∷ counting ∷ loopback ∷ total ∷ []) bypass ≡
    codes "deliver 0 cast 0 61\n"
    ++ codes "packet 1 0 all bottom.net(1)/mnak.num(0)/local.none()/total.num(0,0) 61\n"
    ++ codes "wire 1 e60000000100000001000000000000000300ff" ++ codes "00" ++ codes "000000000000000000000000" ++
    codes "61\n"
    ++ codes "end 1\n" ++ codes "visits 0\n")
