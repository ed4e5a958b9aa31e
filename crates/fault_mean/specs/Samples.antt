-- What it means that a small text is judged.
use Rattle.std.specs.Prelude.{◌≡◌, ℕ, List, [], ◌∷◌, ◌++◌, flat_map, codes, Option, None}
use Rattle.layer_words.specs.declared.places.At.{At}
use Rattle.layer_words.specs.declared.events.Dir.{Dir}
use Rattle.layer_words.specs.declared.events.Dir.TheVariants.{Up, Down}
use Rattle.layer_words.specs.declared.events.Kind.{Kind}
use Rattle.layer_words.specs.declared.events.Kind.TheVariants.{Cast, Timer}
use Rattle.layer_ast.specs.Reader.{file_of}
use Rattle.layer_ast.specs.Samples.{at, name_at}
use Rattle.layer_ast.specs.Spells.{Spells}
use Rattle.layer_ast.specs.Tree.{NamesTree, StatementTrees, always, DeclarationTree, HandlerTree, LayerTree, FileTree}
use Rattle.fault_mean.specs.Faults.{FileFault}
use Rattle.fault_mean.specs.FileFault.{file_fault}

-- The file that a text is read as, with these layers of the library.
abbrev pub file_over : List LayerTree → List ℕ → FileTree
file_over library text = record (file_of text) { library = library }

-- A text spells the file as which it is read, and with these layers of the library this is the first fault of that
-- file.
pub record IsJudgedOver (library : List LayerTree) (text : List ℕ) (fault : Option FileFault) : Type 0 where
  pub spelled : Spells text (file_over library text)
  pub judged : file_fault (file_over library text) ≡ fault

-- A text spells the file as which it is read, and without a library this is the first fault of that file.
abbrev pub IsJudged : List ℕ → Option FileFault → Type 0
IsJudged = IsJudgedOver []

-- The text of these lines.
abbrev pub lines : List (List ℕ) → List ℕ
lines = flat_map (λ line. line ++ 10 ∷ [])

-- The text of a layer that is the only one of its stack, by the lines in its braces.
abbrev pub small_text : List (List ℕ) → List ℕ
small_text inside = lines (codes "layer a {" ∷ (inside ++ codes "}" ∷ codes "stack { a; }" ∷ []))

-- The file of such a layer, with its stack on this line.
abbrev pub small_file : ℕ → List DeclarationTree → List HandlerTree → FileTree
small_file line declarations handlers = record {
  layers = record { at = at 1 1; name = name_at (codes "a") 1 7; declarations = declarations; handlers = handlers } ∷
      [];
  places = record { name = name_at (codes "a") line 9; given = [] } ∷ [];
  library = [];
}

-- A handler that takes no header off and is always predicted.
abbrev pub handler : At → Dir → Kind → NamesTree → StatementTrees → HandlerTree
handler at direction kind names block = record {
  at = at;
  direction = direction;
  kind = kind;
  names = names;
  popped = None;
  expected = always;
  block = block;
}

-- `down Timer(t)` on this line, with two blanks in front.
abbrev pub timer_down : ℕ → StatementTrees → HandlerTree
timer_down line = handler (at line 3) Down Timer record { first = name_at (codes "t") line 14; rest = [] }

-- `down Cast(p, m)` on this line, with two blanks in front.
abbrev pub cast_down : ℕ → StatementTrees → HandlerTree
cast_down line =
    handler (at line 3) Down Cast record {
      first = name_at (codes "p") line 13;
      rest = name_at (codes "m") line 16 ∷
          [];
    }

-- `up Cast(o, m)` on this line, with two blanks in front.
abbrev pub cast_up : ℕ → StatementTrees → HandlerTree
cast_up line =
    handler (at line 3) Up Cast record { first = name_at (codes "o") line 11; rest = name_at (codes "m") line 14 ∷ [] }
