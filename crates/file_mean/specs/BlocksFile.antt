-- A file whose handler declares one name in two blocks and once more after them.
use Rattle.std.specs.Prelude.{ℕ, List, [], ◌∷◌, ◌++◌, codes, false, Some}
use Rattle.layer_words.specs.declared.events.Dir.TheVariants.{Up}
use Rattle.layer_words.specs.declared.events.Kind.TheVariants as kind
use Rattle.layer_words.specs.declared.sorts.Likely.TheVariants.{First}
use Rattle.layer_words.specs.declared.operators.Operator.TheVariants.{Add, Subtract, Multiply, Equal}
use Rattle.layer_words.specs.declared.sorts.Shape.TheVariants.{One}
use Rattle.layer_ast.specs.Reader.{file_of}
use Rattle.layer_ast.specs.Tree.{FileTree}
use Rattle.layer_mean.specs.Tree as mean

-- Its text.
abbrev pub text : List ℕ
text =
    codes "layer pair {\n"
    ++ codes "  state int k;\n"
    ++ codes "  header num(v) passes;\n"
    ++ codes "  up Cast(o, m) with num(v) {\n"
    ++ codes "    if (v == k) { let x = (v + 1); set k = x; }\n"
    ++ codes "    else { let x = (v * 2); let y = (x - o); set k = y; }\n"
    ++ codes "    let x = k;\n"
    ++ codes "    up Cast(x, m);\n"
    ++ codes "  }\n"
    ++ codes "}\n"
    ++ codes "stack { pair; }\n"

-- The file.
abbrev pub file : FileTree
file = file_of text

-- The stack that it means: `o` and `v` have the slots 0 and 1, the first `x` 2, the second 3, `y` 4 and the third `x`
-- 5.
abbrev pub stack : List mean.LayerTree
stack =
    record {
      name = codes "pair";
      cells = record { name = codes "k"; form = mean.numbers One (mean.number 0) } ∷ [];
      headers = record { name = codes "num"; fields = 1; ends = false } ∷ [];
      handlers =
          record {
            direction = Up;
            kind = kind.Cast;
            tag = 1;
            expected = mean.always;
            numbers = 4;
            messages = 0;
            block =
                mean.more (
                mean.branch First (mean.binary Equal (mean.local 1) (mean.element 0 (mean.number 0)))
                (mean.more (mean.bind 2 (mean.binary Add (mean.local 1) (mean.number 1))) (
                mean.more (mean.assign 0 (mean.number 0) (mean.local 2))
                mean.none))
                (mean.more (mean.bind 3 (mean.binary Multiply (mean.local 1) (mean.number 2))) (
                mean.more (mean.bind 4 (mean.binary Subtract (mean.local 3) (mean.local 0))) (
                mean.more (mean.assign 0 (mean.number 0) (mean.local 4))
                mean.none)))) (
                mean.more (mean.bind 5 (mean.element 0 (mean.number 0))) (
                mean.more (mean.emit record {
                  direction = Up;
                  kind = kind.Cast;
                  numbers = mean.local 5 ∷ [];
                  content = Some record { message = mean.message 0; tag = 0; fields = [] };
                })
                mean.none));
          }
          ∷ [];
    }
    ∷ []
