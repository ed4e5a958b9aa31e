-- The file of the counter layer: each cast carries the sender's count, and `e` has the number that is due from each
-- member.
use Rattle.std.specs.Prelude.{ℕ, List, [], ◌∷◌, ◌++◌, codes, false, Some}
use Rattle.layer_words.specs.declared.events.Dir.TheVariants.{Up, Down}
use Rattle.layer_words.specs.declared.events.Kind.TheVariants as kind
use Rattle.layer_words.specs.declared.operators.Operator.TheVariants.{Add, Equal}
use Rattle.layer_words.specs.declared.sorts.Shape.TheVariants.{One, Array}
use Rattle.layer_ast.specs.Reader.{file_of}
use Rattle.layer_ast.specs.Tree.{FileTree}
use Rattle.layer_mean.specs.Tree as mean

-- Its text.
abbrev pub text : List ℕ
text =
    codes "layer cnt {\n"
    ++ codes "  state int k;\n"
    ++ codes "  state int e[n];\n"
    ++ codes "  header num(seq) passes;\n"
    ++ codes "  down Cast(p, m) {\n"
    ++ codes "    down Cast(p, m) with num(k);\n"
    ++ codes "    set k = (k + 1);\n"
    ++ codes "  }\n"
    ++ codes "  up Cast(o, m) with num(seq) common (seq == e[o]) {\n"
    ++ codes "    set e[o] = (seq + 1);\n"
    ++ codes "    up Cast(o, m);\n"
    ++ codes "  }\n"
    ++ codes "}\n"
    ++ codes "stack { cnt; }\n"

-- The file.
abbrev pub file : FileTree
file = file_of text

-- The stack that it means.
abbrev pub stack : List mean.LayerTree
stack =
    record {
      name = codes "cnt";
      cells =
          record { name = codes "k"; form = mean.numbers One (mean.number 0) }
          ∷ record { name = codes "e"; form = mean.numbers Array (mean.number 0) }
          ∷ [];
      headers = record { name = codes "num"; fields = 1; ends = false } ∷ [];
      handlers =
          record {
            direction = Down;
            kind = kind.Cast;
            tag = 0;
            expected = mean.always;
            numbers = 0;
            messages = 0;
            block =
                mean.more (mean.emit record {
                  direction = Down;
                  kind = kind.Cast;
                  numbers = mean.local 0 ∷ [];
                  content = Some record {
                    message = mean.message 0;
                    tag = 1;
                    fields = mean.element 0 (mean.number 0) ∷
                        [];
                  };
                }) (
                mean.more (mean.assign 0 (mean.number 0)
                (mean.binary Add (mean.element 0 (mean.number 0)) (mean.number 1)))
                mean.none);
          }
          ∷ record {
            direction = Up;
            kind = kind.Cast;
            tag = 1;
            expected = mean.common (mean.binary Equal (mean.local 1) (mean.element 1 (mean.local 0)));
            numbers = 0;
            messages = 0;
            block =
                mean.more (mean.assign 1 (mean.local 0) (mean.binary Add (mean.local 1) (mean.number 1))) (
                mean.more (mean.emit record {
                  direction = Up;
                  kind = kind.Cast;
                  numbers = mean.local 0 ∷ [];
                  content = Some record { message = mean.message 0; tag = 0; fields = [] };
                })
                mean.none);
          }
          ∷ [];
    }
    ∷ []
