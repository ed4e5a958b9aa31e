-- A file whose layer keeps queues of messages and of parts and stands in the stack twice, and the stack that it means.
use Rattle.std.specs.Prelude.{ℕ, List, [], ◌∷◌, ◌++◌, codes, true, false, Some}
use Rattle.layer_words.specs.declared.events.Dir.TheVariants.{Up, Down}
use Rattle.layer_words.specs.declared.events.Kind.TheVariants as kind
use Rattle.layer_words.specs.declared.sorts.Likely.TheVariants.{Else}
use Rattle.layer_words.specs.declared.operators.Operator.TheVariants.{Greater}
use Rattle.layer_ast.specs.Reader.{file_of}
use Rattle.layer_ast.specs.Tree.{FileTree}
use Rattle.layer_mean.specs.Tree as mean
use Rattle.msg_core.specs.declared.message.Header.{Header}
use Rattle.layer_mean.specs.Visit.{none_header}

-- the text
abbrev pub text : List ℕ
text =
    codes "layer hold {\n"
    ++ codes "  state queue early[n][16] of (seq: int, m: msg);\n"
    ++ codes "  state queue parts[4] of (p: part);\n"
    ++ codes "  header num(seq) passes;\n"
    ++ codes "  header piece() ends;\n"
    ++ codes "  up Cast(o, m) with num(seq) rare {\n"
    ++ codes "    push early[o] (seq, m) else { push parts (cut(m, 0, 8)) else { } }\n"
    ++ codes "    take early[o] (s, w) { up Cast(s, w); } else { let s = len(parts); }\n"
    ++ codes "    if rare (size(m) > 8) { up Send(at(early[o], 0).seq, held(early[o], 0)); }\n"
    ++ codes "    down Cast(o, held(parts, 1)) with piece();\n"
    ++ codes "  }\n"
    ++ codes "}\n"
    ++ codes "stack { hold; hold; }\n"

-- the file that the text spells
abbrev pub file : FileTree
file = file_of text

-- the block of its handler, at a place where a blank message has these headers
abbrev pub block_with : List Header → mean.StatementTrees
block_with blank =
    mean.more (
    mean.push 0 (mean.local 0) 16 record { numbers = mean.local 1 ∷ []; message = Some (mean.message 0) } (
    mean.more (
    mean.push 1 (mean.number 0) 4 record {
      numbers = [];
      message = Some (mean.cut (mean.message 0) (mean.number 0) (mean.number 8));
    }
    mean.none)
    mean.none)) (
    mean.more (
    mean.take 0 (mean.local 0) record { numbers = 2 ∷ []; message = Some (1, mean.whole blank) }
    (mean.more (mean.emit record {
      direction = Up;
      kind = kind.Cast;
      numbers = mean.local 2 ∷ [];
      content = Some record { message = mean.message 1; tag = 0; fields = [] };
    })
    mean.none)
    (mean.more (mean.bind 3 (mean.rows 1 (mean.number 0))) mean.none)) (
    mean.more (
    mean.branch Else (mean.binary Greater (mean.size (mean.message 0)) (mean.number 8))
    (mean.more (mean.emit record {
      direction = Up;
      kind = kind.Send;
      numbers = mean.item 0 (mean.local 0) (mean.number 0) 0 ∷ [];
      content = Some record {
        message = mean.held 0 (mean.local 0) (mean.number 0) (mean.whole blank);
        tag = 0;
        fields = [];
      };
    })
    mean.none)
    mean.none) (
    mean.more (mean.emit record {
      direction = Down;
      kind = kind.Cast;
      numbers = mean.local 0 ∷ [];
      content = Some record { message = mean.held 1 (mean.number 0) (mean.number 1) mean.part; tag = 2; fields = [] };
    })
    mean.none)))

-- the layer, at a place where a blank message has these headers
abbrev pub holding : List Header → mean.LayerTree
holding blank = record {
  name = codes "hold";
  cells =
      record {
        name = codes "early";
        form = mean.queues 16 record { numbers = codes "seq" ∷ []; message = Some (codes "m", mean.whole blank) };
      }
      ∷ record {
        name = codes "parts";
        form =
            mean.queue 4 record { numbers = []; message = Some (codes "p", mean.part) };
      }
      ∷ [];
  headers = record { name = codes "num"; fields = 1; ends = false } ∷
      record { name = codes "piece"; fields = 0; ends = true } ∷ [];
  handlers =
      record {
        direction = Up;
        kind = kind.Cast;
        tag = 1;
        expected = mean.rare;
        numbers = 2;
        messages = 1;
        block = block_with blank;
      }
      ∷ [];
}

-- The stack that it means: a blank message has one header, `none`, at the lower place, and none at the upper.
abbrev pub stack : List mean.LayerTree
stack = holding (none_header 1 ∷ []) ∷ holding [] ∷ []
