-- Small texts, worked out.
use Rattle.std.specs.Prelude.{◌≡◌, ℕ, List, [], ◌∷◌, ◌++◌, Some, None, codes, length}
use Rattle.layer_words.specs.declared.places.At.{At}
use Rattle.layer_ast.specs.declared.names.Name.{Name}
use Rattle.layer_ast.specs.declared.tokens.Lexed.{Lexed}
use Rattle.layer_words.specs.declared.events.Kind.TheVariants as kind
use Rattle.layer_words.specs.declared.signs.Sign.TheVariants as sign
use Rattle.layer_ast.specs.declared.tokens.Token.{Token}
use Rattle.layer_ast.specs.declared.tokens.Token.TheVariants as token
use Rattle.layer_words.specs.declared.events.Dir.TheVariants.{Up, Down}
use Rattle.layer_ast.specs.declared.syntax.Ending.TheVariants.{Passes}
use Rattle.layer_words.specs.declared.operators.Function.TheVariants.{Not}
use Rattle.layer_words.specs.declared.sorts.Likely.TheVariants.{First, Else}
use Rattle.layer_words.specs.declared.operators.Operator.TheVariants.{Add, Equal, Greater}
use Rattle.layer_words.specs.declared.sorts.Shape.TheVariants.{Square}
use Rattle.layer_words.specs.declared.sorts.Sort.TheVariants.{Msg}
use Rattle.layer_ast.specs.Cut.{text_tokens}
use Rattle.layer_ast.specs.Print.{file}
use Rattle.layer_ast.specs.Printed.{marks}
use Rattle.layer_ast.specs.Spells.{Spells}
use Rattle.layer_ast.specs.Tree.{ExpressionTree, NamesTree, ArgumentsTree, StatementTree, number, me, members, named}
use Rattle.layer_ast.specs.Tree.{item, rows, size, binary, apply, queue, bare, held, value, content, fixed, sized, bind}
use Rattle.layer_ast.specs.Tree.{set_square, push, take, when, choose, each, emit, none, always, common, HandlerTree}
use Rattle.layer_ast.specs.Tree.{param, int, rows_cell, header, FileTree}
use Rattle.layer_ast.specs.View.{trees}

-- a token at a line and a column
abbrev pub token_at : Token → ℕ → ℕ → Lexed
token_at t line col = record { token = t; at = record { line = line; col = col } }

-- a text with a comment, a reserved word that begins a name, long symbols and a bad byte
abbrev pub CutsText : Type 0
CutsText =
    text_tokens (codes "set setk # x == 1\n <=12 === Cast !up") ≡ record {
      tokens =
          token_at (token.Sign sign.Set) 1 1
          ∷ token_at (token.Name (codes "setk")) 1 5
          ∷ token_at (token.Sign sign.LessEqual) 2 2
          ∷ token_at (token.Number 12) 2 4
          ∷ token_at (token.Sign sign.Equal) 2 7
          ∷ token_at (token.Sign sign.Assign) 2 9
          ∷ token_at (token.Kind kind.Cast) 2 11
          ∷ [];
      bad_at = Some record { line = 2; col = 16 };
    }

-- a number with a letter directly after it is a token, and the letter is bad
abbrev pub CutsLetter : Type 0
CutsLetter =
    text_tokens (codes "0ab") ≡ record {
      tokens = token_at (token.Number 0) 1 1 ∷ [];
      bad_at = Some record { line = 1; col = 2 };
    }

-- a number with a leading zero and one that is too large are bad from their first digit on
abbrev pub CutsNumbers : Type 0
CutsNumbers =
    (text_tokens (codes "00") ≡ record { tokens = []; bad_at = Some record { line = 1; col = 1 } })
    × (text_tokens (codes "4294967296") ≡ record { tokens = []; bad_at = Some record { line = 1; col = 1 } })
    × (text_tokens (codes "4294967295") ≡
    record { tokens = token_at (token.Number 4294967295) 1 1 ∷ []; bad_at = None })

-- a place in a text
abbrev pub at : ℕ → ℕ → At
at line col = record { line = line; col = col }

-- a name at a line and a column
abbrev pub name_at : List ℕ → ℕ → ℕ → Name
name_at word line col = record { at = at line col; word = word }

-- a text spells the file with one place
abbrev pub SpellsPlace : Type 0
SpellsPlace =
    Spells (codes "stack {\n  a; }\n") record {
      layers = [];
      places = record { name = name_at (codes "a") 2 3; given = [] } ∷ [];
      library = [];
    }

-- the text of a layer with a param, a queue and a square array, and of a stack with a place that gives the param
abbrev pub sample_text : List ℕ
sample_text =
    codes "layer a {\n"
    ++ codes "  param keep = 4;\n"
    ++ codes "  state queue q[keep] of (m: msg);\n"
    ++ codes "  state int sum[n*n] = (me + 1);\n"
    ++ codes "  header num(v) passes;\n"
    ++ codes "  down Cast(p, m) {\n"
    ++ codes "    push q (m) else { take q (old) { push q (m) else { } } else { } }\n"
    ++ codes "    if rare (len(q) > 2) { each i below n max 4 { set sum[i][me] = at(q, i).m; } }\n"
    ++ codes "    down Send(p, held(q, 0)) with num(size(m));\n"
    ++ codes "  }\n"
    ++ codes "  up Cast(o, m) with num(v) common (v == 1) { if v { up Cast(o, m); } else { let x = not(v); } }\n"
    ++ codes "}\n"
    ++ codes "stack { a(keep = 8); a; }\n"

-- a name alone
abbrev pub one_name : Name → NamesTree
one_name n = record { first = n; rest = [] }

-- an argument alone, which is a number or a bare name
abbrev pub one_value : ExpressionTree → ArgumentsTree
one_value e = record { first = value e; rest = [] }

-- its push, with what is done where there is no room
abbrev pub sample_push : StatementTree
sample_push =
    push (at 7 5) (queue (name_at (codes "q") 7 10)) (one_value (named (name_at (codes "m") 7 13)))
    (trees (take (at 7 23) (queue (name_at (codes "q") 7 28)) (one_name (name_at (codes "old") 7 31))
    (trees (push (at 7 38) (queue (name_at (codes "q") 7 43)) (one_value (named (name_at (codes "m") 7 46))) none ∷ []))
    none ∷ []))

-- its rare condition, with a loop inside
abbrev pub sample_loop : StatementTree
sample_loop =
    when (at 8 5) Else (binary (at 8 13) (rows (at 8 14) (queue (name_at (codes "q") 8 18))) Greater
    (number (at 8 23) 2))
    (trees (each (at 8 28) (name_at (codes "i") 8 33) (members (at 8 41)) (fixed (at 8 47) 4)
    (trees (set_square (at 8 51) (name_at (codes "sum") 8 55) (named (name_at (codes "i") 8 59)) (me (at 8 62))
    (item (at 8 68) (queue (name_at (codes "q") 8 71)) (named (name_at (codes "i") 8 74)) (name_at (codes "m") 8 77)) ∷
    []))
    ∷ []))

-- its emission on the way down, with a header
abbrev pub sample_send : StatementTree
sample_send =
    emit (at 9 5) Down kind.Send record {
      first = value (named (name_at (codes "p") 9 15));
      rest = content (held (at 9 18) (queue (name_at (codes "q") 9 23)) (number (at 9 26) 0)) ∷ [];
    } (Some record {
      name = name_at (codes "num") 9 35;
      fields = Some (one_value (size (at 9 39) (bare (name_at (codes "m") 9 44))));
    })

-- its handler of casts on their way down
abbrev pub sample_down : HandlerTree
sample_down =
    record {
      at = at 6 3;
      direction = Down;
      kind = kind.Cast;
      names = record { first = name_at (codes "p") 6 13; rest = name_at (codes "m") 6 16 ∷ [] };
      popped = None;
      expected = always;
      block = trees (sample_push ∷ sample_loop ∷ sample_send ∷ []);
    }

-- its condition with two ways
abbrev pub sample_choice : StatementTree
sample_choice =
    choose (at 11 47) First (named (name_at (codes "v") 11 50))
    (trees (emit (at 11 54) Up kind.Cast record {
      first = value (named (name_at (codes "o") 11 62));
      rest = value (named (name_at (codes "m") 11 65)) ∷ [];
    } None ∷ []))
    (trees (bind (at 11 78) (name_at (codes "x") 11 82) (apply (at 11 86) Not (named (name_at (codes "v") 11 90))) ∷
    []))

-- its handler of casts on their way up
abbrev pub sample_up : HandlerTree
sample_up =
    record {
      at = at 11 3;
      direction = Up;
      kind = kind.Cast;
      names = record { first = name_at (codes "o") 11 11; rest = name_at (codes "m") 11 14 ∷ [] };
      popped = Some record { name = name_at (codes "num") 11 22; fields = Some (one_name (name_at (codes "v") 11 26)) };
      expected = common (binary (at 11 36) (named (name_at (codes "v") 11 37)) Equal (number (at 11 42) 1));
      block = trees (sample_choice ∷ []);
    }

-- the file that it spells
abbrev pub sample_file : FileTree
sample_file =
    record {
      layers =
          record {
            at = at 1 1;
            name = name_at (codes "a") 1 7;
            declarations =
                param (at 2 3) (name_at (codes "keep") 2 9) 4
                ∷ rows_cell (at 3 3) (name_at (codes "q") 3 15) (sized (name_at (codes "keep") 3 17)) record {
                  first = record { name = name_at (codes "m") 3 27; sort = Msg };
                  rest = [];
                }
                ∷ int (at 4 3) (name_at (codes "sum") 4 13) Square (Some (binary (at 4 24) (me (at 4 25)) Add
                (number (at 4 30) 1)))
                ∷ header (at 5 3) (name_at (codes "num") 5 10) (Some (one_name (name_at (codes "v") 5 14))) Passes
                ∷ [];
            handlers = sample_down ∷ sample_up ∷ [];
          }
          ∷ [];
      places =
          record {
            name = name_at (codes "a") 13 9;
            given = record { name = name_at (codes "keep") 13 11; value = 8 } ∷
                [];
          }
          ∷ record { name = name_at (codes "a") 13 22; given = [] }
          ∷ [];
      library = [];
    }

-- the text spells the file
abbrev pub SpellsLayer : Type 0
SpellsLayer = Spells sample_text sample_file

-- the file keeps the places of 73 of its 193 tokens
abbrev pub KeepsPlaces : Type 0
KeepsPlaces = (length (marks (file sample_file)) ≡ 73) × (length (file sample_file) ≡ 193)
