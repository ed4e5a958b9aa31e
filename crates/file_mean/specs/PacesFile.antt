-- A file with a param, which one place gives and the other leaves as it is declared.
use Rattle.std.specs.Prelude.{ℕ, List, [], ◌∷◌, ◌++◌, codes, None}
use Rattle.layer_words.specs.declared.events.Dir.TheVariants.{Down}
use Rattle.layer_words.specs.declared.events.Kind.TheVariants as kind
use Rattle.layer_words.specs.declared.operators.Operator.TheVariants.{Add}
use Rattle.layer_words.specs.declared.sorts.Shape.TheVariants.{One}
use Rattle.layer_ast.specs.Reader.{file_of}
use Rattle.layer_ast.specs.Tree.{FileTree}
use Rattle.layer_mean.specs.Tree as mean

-- Its text.
abbrev pub text : List ℕ
text =
    codes "layer pace {\n"
    ++ codes "  param keep = 4;\n"
    ++ codes "  state int low = (keep + me);\n"
    ++ codes "  state queue wait[keep] of (t: int);\n"
    ++ codes "  down Timer(t) {\n"
    ++ codes "    push wait (t) else { }\n"
    ++ codes "    each i below keep max keep { down Timer((t + i)); }\n"
    ++ codes "  }\n"
    ++ codes "}\n"
    ++ codes "stack { pace(keep = 8); pace; }\n"

-- The file.
abbrev pub file : FileTree
file = file_of text

-- The layer at a place where `keep` is this number.
abbrev pub pace_layer : ℕ → mean.LayerTree
pace_layer keep = record {
  name = codes "pace";
  cells =
      record { name = codes "low"; form = mean.numbers One (mean.binary Add (mean.number keep) mean.me) }
      ∷ record { name = codes "wait"; form = mean.queue keep record { numbers = codes "t" ∷ []; message = None } }
      ∷ [];
  headers = [];
  handlers =
      record {
        direction = Down;
        kind = kind.Timer;
        tag = 0;
        expected = mean.always;
        numbers = 1;
        messages = 0;
        block =
            mean.more (mean.push 1 (mean.number 0) keep record { numbers = mean.local 0 ∷ []; message = None }
            mean.none) (
            mean.more (mean.each 1 (mean.number keep) keep (
            mean.more (mean.emit record {
              direction = Down;
              kind = kind.Timer;
              numbers = mean.binary Add (mean.local 0) (mean.local 1) ∷ [];
              content = None;
            })
            mean.none))
            mean.none);
      }
      ∷ [];
}

-- The stack that it means.
abbrev pub stack : List mean.LayerTree
stack = pace_layer 8 ∷ pace_layer 4 ∷ []
