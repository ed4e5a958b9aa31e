-- A layer that announces an empty view when its application leaves, and one that keeps numbers in a queue.
use Rattle.std.specs.Prelude.{◌≡◌, [], ◌∷◌, ◌++◌, codes, None}
use Rattle.layer_words.specs.declared.events.Dir.TheVariants.{Up, Down}
use Rattle.layer_words.specs.declared.events.Kind.TheVariants as kind
use Rattle.layer_mean.specs.Tree.{number, emit, always, LayerTree}
use Rattle.script_mean.specs.declared.event.ScriptEvent.TheVariants as script
use Rattle.layer_rows.specs.Keeper.{keeper}
use Rattle.layer_rows.specs.Words.{handler}
use Rattle.run_rows.specs.Written.{script_report}

-- The layer that announces an empty view.
abbrev pub quit : LayerTree
quit = record {
  name = codes "quit";
  cells = [];
  headers = [];
  handlers = handler Down kind.Leave 0 always (
      emit (record { direction = Up; kind = kind.View; numbers = number 0 ∷ []; content = None }) ∷ []
      ) ∷ [];
}

-- Once it is out, a member refuses what it is given, and is shown to be out.
abbrev pub Leaves : Type 0
Leaves =
    script_report (quit ∷ []) 1 1 (script.Leave 0 ∷ script.Cast 0 (codes "a") ∷ script.Show 0 ∷ [])
    ≡ codes "announce 0 0\n" ++ codes "out 0\n" ++ codes "refused 0 out\n" ++ codes "state 0 out\n" ++ codes "end 3\n"

-- A queue is shown by its rows.
abbrev pub Keeps : Type 0
Keeps =
    script_report (keeper ∷ []) 1 1 (script.Cast 0 (codes "a") ∷ script.Cast 0 (codes "b") ∷ script.Show 0 ∷ [])
    ≡ codes "packet 1 0 all one.num(0) 61\n" ++ codes "packet 2 0 all one.full() -\n" ++
    codes "packet 3 0 all one.num(1) 62\n"
    ++ codes "state 0 0 1\n" ++ codes "cell 0 0 one.s 1\n" ++ codes "cell 0 0 one.q [4294967295]\n" ++ codes "end 3\n"
