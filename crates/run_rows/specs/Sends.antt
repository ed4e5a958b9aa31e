-- Sends through the counter layer, which has no handler for them, and a loop that is run and never drawn.
use Rattle.std.specs.Prelude.{◌≡◌, true, List, [], ◌∷◌, ◌++◌, codes}
use Rattle.layer_words.specs.declared.events.Dir.TheVariants.{Down}
use Rattle.layer_words.specs.declared.events.Kind.TheVariants.{Cast}
use Rattle.layer_mean.specs.Tree.{number, local, each, emit, always, LayerTree}
use Rattle.script_mean.specs.declared.event.ScriptEvent.{ScriptEvent}
use Rattle.script_mean.specs.declared.event.ScriptEvent.TheVariants as script
use Rattle.run_mean.specs.Mode.{layered, bypass}
use Rattle.layer_rows.specs.Counter.{counter}
use Rattle.layer_rows.specs.Words.{cast_down, block, handler}
use Rattle.run_rows.specs.Written.{script_output}

-- A send to rank 1, given to rank 2 and to rank 1; and two sends that have nobody to go to.
abbrev pub sends : List ScriptEvent
sends =
    script.Send 0 1 (codes "hi") ∷ script.Give 1 2 ∷ script.Give 1 1 ∷ script.Send 0 0 (codes "a") ∷
    script.Send 0 5 (codes "b")
    ∷ []

-- Only the first leaves as a packet, in full or short under the plan of a send.
abbrev pub Sends : Type 0
Sends =
    (script_output (counter ∷ []) 7 3 sends layered true true ≡
    codes "packet 1 0 1 cnt.none() 6869\n"
    ++ codes "wire 1 e500000001000000070000000000000007" ++ codes "0001006869\n"
    ++ codes "refused 2 dest\n" ++ codes "deliver 1 send 0 6869\n" ++ codes "end 5\n" ++ codes "visits 4\n")
    × (script_output (counter ∷ []) 7 3 sends bypass true true ≡
    codes "packet 1 0 1 cnt.none() 6869\n"
    ++ codes "wire 1 e600000001000000070000000000000007" ++ codes "0001016869\n"
    ++ codes "refused 2 dest\n" ++ codes "deliver 1 send 0 6869\n" ++ codes "end 5\n" ++ codes "visits 0\n")

-- A layer that sends each cast twice, by a loop.
abbrev pub repeater : LayerTree
repeater = record {
  name = codes "rep";
  cells = [];
  headers = [];
  handlers = record (handler Down Cast 0 always (
      each 1 (number 2) 2 (block (emit (cast_down (local 0) 0 []) ∷ [])) ∷ []
      )) { numbers = 1 } ∷ [];
}

-- The cast is no common step, and its packets are sent in full in either mode.
abbrev pub Repeats : Type 0
Repeats =
    script_output (repeater ∷ []) 1 1 (script.Cast 0 [] ∷ []) bypass true true ≡
    codes "packet 1 0 all rep.none() -\n" ++ codes "wire 1 e50000000100000001000000000000000100ff00\n"
    ++ codes "packet 2 0 all rep.none() -\n" ++ codes "wire 2 e50000000100000001000000000000000100ff00\n"
    ++ codes "end 1\n" ++ codes "visits 1\n"
