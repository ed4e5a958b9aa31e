-- The layer `fifo` of the tutorial, as a text and as the tree that the text means: it numbers casts, delivers the one
-- that is due from each peer, and drops every other.
use Rattle.std.specs.Prelude.{◌≡◌, ℕ, List, [], ◌∷◌, ◌++◌, codes}
use Rattle.layer_words.specs.declared.events.Dir.TheVariants.{Up, Down}
use Rattle.layer_words.specs.declared.events.Kind.TheVariants.{Cast}
use Rattle.layer_words.specs.declared.sorts.Likely.TheVariants as likely
use Rattle.layer_words.specs.declared.operators.Operator.TheVariants.{Add, Equal}
use Rattle.layer_words.specs.declared.sorts.Shape.TheVariants.{Array}
use Rattle.layer_ast.specs.Reader.{file_of}
use Rattle.file_mean.specs.Stack.{stack_of}
use Rattle.layer_mean.specs.Tree.{number, local, element, binary, assign, emit, branch, always, numbers, none}
use Rattle.layer_mean.specs.Tree.{StatementTrees, LayerTree}
use Rattle.layer_rows.specs.Words.{cast_down, cast_up, handler, block, cell_of_one, passing}

-- The text of the file. `k` counts this member's casts; `e[o]` is the number of the cast that is due from rank o.
abbrev pub text : List ℕ
text =
    codes "layer fifo {\n"
    ++ codes "  state int k;\n"
    ++ codes "  state int e[n];\n"
    ++ codes "  header num(seq) passes;\n"
    ++ codes "  down Cast(p, m) {\n"
    ++ codes "    down Cast(p, m) with num(k);\n"
    ++ codes "    set k = (k + 1);\n"
    ++ codes "  }\n"
    ++ codes "  up Cast(o, m) with num(seq) {\n"
    ++ codes "    if (seq == e[o]) { set e[o] = (seq + 1); up Cast(o, m); }\n"
    ++ codes "  }\n"
    ++ codes "}\n"
    ++ codes "stack { fifo; }\n"

-- The statements of its two handlers: what a cast does on its way down, and one that is due on its way up.
abbrev pub numbers_it : StatementTrees
numbers_it = block (
    emit (cast_down (local 0) 1 (element 0 (number 0) ∷ []))
    ∷ assign 0 (number 0) (binary Add (element 0 (number 0)) (number 1)) ∷ [])

-- The statements of a cast that is due on its way up.
abbrev pub delivers_it : StatementTrees
delivers_it = block (assign 1 (local 0) (binary Add (local 1) (number 1)) ∷ emit (cast_up (local 0)) ∷ [])

-- The layer.
abbrev pub fifo : LayerTree
fifo = record {
  name = codes "fifo";
  cells = cell_of_one (codes "k") 0 ∷ record { name = codes "e"; form = numbers Array (number 0) } ∷ [];
  headers = passing (codes "num") 1 ∷ [];
  handlers =
      record (handler Down Cast 0 always []) { block = numbers_it }
      ∷ handler Up Cast 1 always (
      branch likely.First (binary Equal (local 1) (element 1 (local 0))) delivers_it none ∷ []
      ) ∷ [];
}

-- The stack that the text means.
abbrev pub stack : List LayerTree
stack = fifo ∷ []

-- The text is a file that means this stack.
abbrev pub TextMeans : Type 0
TextMeans = stack_of (file_of text) ≡ stack
