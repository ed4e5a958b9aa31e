-- A file whose layer writes to an element of an array before a condition that reads one, perhaps the same.
use Rattle.std.specs.Prelude.{ℕ, List, [], ◌∷◌, ◌++◌, codes, false, Some}
use Rattle.layer_words.specs.declared.events.Dir.TheVariants.{Down}
use Rattle.layer_words.specs.declared.events.Kind.TheVariants as kind
use Rattle.layer_words.specs.declared.sorts.Likely.TheVariants.{First}
use Rattle.layer_words.specs.declared.operators.Operator.TheVariants.{Add, Equal, BitAnd}
use Rattle.layer_words.specs.declared.sorts.Shape.TheVariants.{One, Array}
use Rattle.layer_ast.specs.Reader.{file_of}
use Rattle.layer_ast.specs.Tree.{FileTree}
use Rattle.layer_mean.specs.Tree as mean

-- Its text.
abbrev pub text : List ℕ
text =
    codes "layer alias {\n"
    ++ codes "  state int k = 1;\n"
    ++ codes "  state int e[n];\n"
    ++ codes "  header a() passes;\n"
    ++ codes "  header b() passes;\n"
    ++ codes "  down Cast(p, m) {\n"
    ++ codes "    set e[(k & 1)] = 5;\n"
    ++ codes "    set k = (k + 1);\n"
    ++ codes "    if (e[0] == 5) { down Cast(p, m) with a(); } else { down Cast(p, m) with b(); }\n"
    ++ codes "  }\n"
    ++ codes "}\n"
    ++ codes "stack { alias; }\n"

-- The file.
abbrev pub file : FileTree
file = file_of text

-- `down Cast(p, m)` with the header of a tag.
abbrev pub cast_with : ℕ → mean.StatementTrees
cast_with tag = mean.more (mean.emit record {
  direction = Down;
  kind = kind.Cast;
  numbers = mean.local 0 ∷ [];
  content = Some record { message = mean.message 0; tag = tag; fields = [] };
}) mean.none

-- The stack that it means.
abbrev pub stack : List mean.LayerTree
stack =
    record {
      name = codes "alias";
      cells =
          record { name = codes "k"; form = mean.numbers One (mean.number 1) }
          ∷ record { name = codes "e"; form = mean.numbers Array (mean.number 0) }
          ∷ [];
      headers = record { name = codes "a"; fields = 0; ends = false } ∷
          record { name = codes "b"; fields = 0; ends = false } ∷ [];
      handlers =
          record {
            direction = Down;
            kind = kind.Cast;
            tag = 0;
            expected = mean.always;
            numbers = 0;
            messages = 0;
            block =
                mean.more (mean.assign 1 (mean.binary BitAnd (mean.element 0 (mean.number 0)) (mean.number 1))
                (mean.number 5))
                (
                mean.more (mean.assign 0 (mean.number 0)
                (mean.binary Add (mean.element 0 (mean.number 0)) (mean.number 1))) (
                mean.more (
                mean.branch First (mean.binary Equal (mean.element 1 (mean.number 0)) (mean.number 5)) (cast_with 1)
                (cast_with 2))
                mean.none));
          }
          ∷ [];
    }
    ∷ []
