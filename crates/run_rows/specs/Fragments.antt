-- A body that is cut into pieces, whose packets arrive in the opposite order: it is delivered whole.
use Rattle.std.specs.Prelude.{◌≡◌, List, [], ◌∷◌, ◌++◌, codes}
use Rattle.layer_ast.specs.Reader.{file_of}
use Rattle.layer_ast.specs.Tree.{FileTree}
use Rattle.script_mean.specs.declared.event.ScriptEvent.{ScriptEvent}
use Rattle.script_mean.specs.declared.event.ScriptEvent.TheVariants as script
use Rattle.file_mean.specs.Stack.{stack_of}
use Rattle.library_rows.specs.Bottom as bottom
use Rattle.library_rows.specs.Mnak as mnak
use Rattle.library_rows.specs.Frag as frag
use Rattle.run_rows.specs.Written.{script_report}

-- The file `stack { bottom; mnak; frag(piece = 2); }`.
abbrev pub file : FileTree
file = record (file_of (codes "stack { bottom; mnak; frag(piece = 2); }")) {
  library = bottom.layer ∷ mnak.layer ∷ frag.layer ∷ [];
}

-- A cast of five bytes, and its three packets, the last first.
abbrev pub backwards : List ScriptEvent
backwards = script.Cast 0 (codes "abcde") ∷ script.Give 3 1 ∷ script.Give 2 1 ∷ script.Give 1 1 ∷ []

-- The pieces that are missing are asked for, and the cast is delivered whole once the first is there.
abbrev pub JoinsPieces : Type 0
JoinsPieces = script_report (stack_of file) 1 2 backwards ≡
    codes "packet 1 0 all bottom.net(1)/mnak.num(0)/frag.some() 6162\n"
    ++ codes "packet 2 0 all bottom.net(1)/mnak.num(1)/frag.some() 6364\n"
    ++ codes "packet 3 0 all bottom.net(1)/mnak.num(2)/frag.last() 65\n"
    ++ codes "packet 4 1 0 bottom.net(1)/mnak.nak(0,2) -\n"
    ++ codes "packet 5 1 0 bottom.net(1)/mnak.nak(0,1) -\n"
    ++ codes "deliver 1 cast 0 6162636465\n" ++ codes "end 4\n"
