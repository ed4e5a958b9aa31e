-- A file with the forms of expressions and statements that the other files lack: a square array, a choice, parts in
-- front of messages, and an event of two numbers.
use Rattle.std.specs.Prelude.{ℕ, List, [], ◌∷◌, ◌++◌, codes, true, false, Some, None}
use Rattle.layer_words.specs.declared.events.Dir.TheVariants.{Up, Down}
use Rattle.layer_words.specs.declared.events.Kind.TheVariants as kind
use Rattle.layer_words.specs.declared.operators.Function.TheVariants.{Bit, Count}
use Rattle.layer_words.specs.declared.operators.Operator.TheVariants.{Add, Equal, Greater}
use Rattle.layer_words.specs.declared.sorts.Shape.TheVariants.{Square}
use Rattle.layer_ast.specs.Reader.{file_of}
use Rattle.layer_ast.specs.Tree.{FileTree}
use Rattle.layer_mean.specs.Tree as mean

-- Its text.
abbrev pub text : List ℕ
text =
    codes "layer sums {\n"
    ++ codes "  param most = 3;\n"
    ++ codes "  state int sum[n*n] = (most + ltime);\n"
    ++ codes "  state queue kept[1] of (m: msg);\n"
    ++ codes "  header last() passes;\n"
    ++ codes "  header some() ends;\n"
    ++ codes "  up Ack(o, c) common (c > 0) {\n"
    ++ codes "    each i below n max most { set sum[o][i] = pick((i == me), bit(c), sum[i][o]); }\n"
    ++ codes "    up Ack(o, count(c));\n"
    ++ codes "  }\n"
    ++ codes "  down Cast(p, m) {\n"
    ++ codes "    take kept (old) { down Cast(p, old) with last(); } else { }\n"
    ++ codes "    push kept (join(cut(m, 0, most), tail(m, most))) else { down Send(p, nothing) with some(); }\n"
    ++ codes "  }\n"
    ++ codes "}\n"
    ++ codes "stack { sums(most = 4); }\n"

-- The file.
abbrev pub file : FileTree
file = file_of text

-- The meaning of its handler of acknowledgements that come up.
abbrev pub acknowledgement_handler : mean.HandlerTree
acknowledgement_handler = record {
  direction = Up;
  kind = kind.Ack;
  tag = 0;
  expected = mean.common (mean.binary Greater (mean.local 1) (mean.number 0));
  numbers = 1;
  messages = 0;
  block =
      mean.more (mean.each 2 mean.count 4 (
      mean.more (mean.assign_square 0 (mean.local 0) (mean.local 2) (
      mean.pick (mean.binary Equal (mean.local 2) mean.me) (mean.apply Bit (mean.local 1))
      (mean.square 0 (mean.local 2) (mean.local 0))))
      mean.none)) (
      mean.more (mean.emit record {
        direction = Up;
        kind = kind.Ack;
        numbers = mean.local 0 ∷ mean.apply Count (mean.local 1) ∷ [];
        content = None;
      })
      mean.none);
}

-- The meaning of its handler of casts on their way down.
abbrev pub cast_handler : mean.HandlerTree
cast_handler = record {
  direction = Down;
  kind = kind.Cast;
  tag = 0;
  expected = mean.always;
  numbers = 0;
  messages = 1;
  block =
      mean.more (mean.take 1 (mean.number 0) record { numbers = []; message = Some (1, mean.whole []) } (
      mean.more (mean.emit record {
        direction = Down;
        kind = kind.Cast;
        numbers = mean.local 0 ∷ [];
        content = Some record { message = mean.message 1; tag = 1; fields = [] };
      })
      mean.none)
      mean.none) (
      mean.more (mean.push 1 (mean.number 0) 1 record {
        numbers = [];
        message = Some (
            mean.join (mean.cut (mean.message 0) (mean.number 0) (mean.number 4))
            (mean.tail (mean.message 0) (mean.number 4)));
      } (
      mean.more (mean.emit record {
        direction = Down;
        kind = kind.Send;
        numbers = mean.local 0 ∷ [];
        content = Some record { message = mean.nothing; tag = 2; fields = [] };
      })
      mean.none))
      mean.none);
}

-- The stack that it means.
abbrev pub stack : List mean.LayerTree
stack =
    record {
      name = codes "sums";
      cells =
          record { name = codes "sum"; form = mean.numbers Square (mean.binary Add (mean.number 4) mean.ltime) }
          ∷ record {
            name = codes "kept";
            form =
                mean.queue 1 record { numbers = []; message = Some (codes "m", mean.whole []) };
          }
          ∷ [];
      headers = record { name = codes "last"; fields = 0; ends = false } ∷
          record { name = codes "some"; fields = 0; ends = true } ∷ [];
      handlers = acknowledgement_handler ∷ cast_handler ∷ [];
    }
    ∷ []
