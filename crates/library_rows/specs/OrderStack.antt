-- A file of no layers whose stack puts casts into one order, and the stack that it means.
use Rattle.std.specs.Prelude.{ℕ, List, [], ◌∷◌, codes, false, Some}
use Rattle.layer_words.specs.declared.events.Dir.{Dir}
use Rattle.layer_words.specs.declared.events.Dir.TheVariants.{Up, Down}
use Rattle.layer_words.specs.declared.events.Kind.{Kind}
use Rattle.layer_words.specs.declared.events.Kind.TheVariants.{Cast, Send}
use Rattle.layer_words.specs.declared.sorts.Likely.TheVariants.{First}
use Rattle.layer_words.specs.declared.operators.Operator.TheVariants.{Add, Equal}
use Rattle.layer_words.specs.declared.sorts.Shape.TheVariants.{One}
use Rattle.layer_mean.specs.Tree as mean
use Rattle.layer_ast.specs.Reader.{file_of}
use Rattle.layer_ast.specs.Tree.{FileTree}
use Rattle.library_rows.specs.Bottom as bottom
use Rattle.library_rows.specs.Local as local
use Rattle.library_rows.specs.Total as total

-- Its text.
abbrev pub text : List ℕ
text = codes "stack { bottom; local; total; }\n"

-- The file.
abbrev pub file : FileTree
file = record (file_of text) {
  library = bottom.layer ∷ local.layer ∷ total.layer ∷ [];
}

-- The message of a handler goes on in an event of a kind to or from this peer, with the header of this tag and these
-- fields.
abbrev pub goes_on : Dir → Kind → mean.ExpressionTree → ℕ → List mean.ExpressionTree → mean.StatementTree
goes_on direction kind peer tag fields = mean.emit record {
  direction = direction;
  kind = kind;
  numbers = peer ∷ [];
  content = Some record { message = mean.message 0; tag = tag; fields = fields };
}

-- A handler that declares no names, for a direction, a kind and a popped tag.
abbrev pub handler : Dir → Kind → ℕ → mean.Expected → mean.StatementTrees → mean.HandlerTree
handler direction kind tag expected block = record {
  direction = direction;
  kind = kind;
  tag = tag;
  expected = expected;
  numbers = 0;
  messages = 0;
  block = block;
}

-- One statement alone, and two.
abbrev pub one : mean.StatementTree → mean.StatementTrees
one statement = mean.more statement mean.none

abbrev pub two : mean.StatementTree → mean.StatementTree → mean.StatementTrees
two first second = mean.more first (one second)

-- A condition that is predicted to hold, with a second block.
abbrev pub choice : mean.ExpressionTree → mean.StatementTrees → mean.StatementTrees → mean.StatementTrees
choice condition block otherwise = one (mean.branch First condition block otherwise)

-- What `bottom` tests: the field of its header is 1.
abbrev pub is_mine : mean.ExpressionTree
is_mine = mean.binary Equal (mean.local 1) (mean.number 1)

-- `bottom`: each message goes down after `net(1)`, and up where it came after that.
abbrev pub bottom_layer : mean.LayerTree
bottom_layer = record {
  name = codes "bottom";
  cells = [];
  headers = record { name = codes "net"; fields = 1; ends = false } ∷ [];
  handlers =
      handler Down Cast 0 mean.always (one (goes_on Down Cast (mean.local 0) 1 (mean.number 1 ∷ [])))
      ∷ handler Down Send 0 mean.always (one (goes_on Down Send (mean.local 0) 1 (mean.number 1 ∷ [])))
      ∷ handler Up Cast 1 (mean.common is_mine) (choice is_mine (one (goes_on Up Cast (mean.local 0) 0 [])) mean.none)
      ∷ handler Up Send 1 (mean.common is_mine) (choice is_mine (one (goes_on Up Send (mean.local 0) 0 [])) mean.none)
      ∷ [];
}

-- `local`: a cast goes down, and up to the member itself.
abbrev pub local_layer : mean.LayerTree
local_layer = record {
  name = codes "local";
  cells = [];
  headers = [];
  handlers =
      handler Down Cast 0 mean.always (two (goes_on Down Cast (mean.local 0) 0 []) (goes_on Up Cast mean.me 0 []))
      ∷ [];
}

-- A cell of one number, whether a member has rank 0, and a cell that counts on.
abbrev pub cell : ℕ → mean.ExpressionTree
cell c = mean.element c (mean.number 0)

abbrev pub is_first : mean.ExpressionTree
is_first = mean.binary Equal mean.me (mean.number 0)

abbrev pub counts_on : ℕ → mean.ExpressionTree → mean.StatementTree
counts_on c value = mean.assign c (mean.number 0) (mean.binary Add value (mean.number 1))

-- What `total` tests: a cast is the one that is due.
abbrev pub is_due : mean.ExpressionTree
is_due = mean.binary Equal (mean.local 2) (cell 1)

-- `total`: the member of rank 0 numbers all casts, which the others ask it to.
abbrev pub total_layer : mean.LayerTree
total_layer = record {
  name = codes "total";
  cells =
      record { name = codes "out"; form = mean.numbers One (mean.number 0) }
      ∷ record { name = codes "next"; form = mean.numbers One (mean.number 0) }
      ∷ [];
  headers = record { name = codes "num"; fields = 2; ends = false } ∷
      record { name = codes "ask"; fields = 0; ends = false } ∷ [];
  handlers =
      handler Down Cast 0 mean.always (
      choice is_first (two (goes_on Down Cast (mean.local 0) 1 (mean.me ∷ cell 0 ∷ [])) (counts_on 0 (cell 0)))
      (one (goes_on Down Send (mean.number 0) 2 [])))
      ∷ handler Up Send 2 mean.always (
      choice is_first (two (goes_on Down Cast mean.me 1 (mean.local 0 ∷ cell 0 ∷ [])) (counts_on 0 (cell 0))) mean.none)
      ∷ handler Up Cast 1 (mean.common is_due) (
      choice is_due (two (counts_on 1 (cell 1)) (goes_on Up Cast (mean.local 1) 0 [])) mean.none)
      ∷ [];
}

-- The stack that it means.
abbrev pub stack : List mean.LayerTree
stack = bottom_layer ∷ local_layer ∷ total_layer ∷ []
