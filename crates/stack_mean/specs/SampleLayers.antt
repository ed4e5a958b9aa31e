-- Layers of the samples, as trees: some of the library's, as far as they are needed, and some that are made to be
-- judged.
use Rattle.std.specs.Prelude.{ℕ, true, false, List, [], ◌∷◌, Some, codes}
use Rattle.layer_words.specs.declared.events.Dir.{Dir}
use Rattle.layer_words.specs.declared.events.Dir.TheVariants.{Up, Down}
use Rattle.layer_words.specs.declared.events.Kind.{Kind}
use Rattle.layer_words.specs.declared.events.Kind.TheVariants.{Cast, Send}
use Rattle.layer_words.specs.declared.sorts.Likely.TheVariants as likely
use Rattle.layer_words.specs.declared.operators.Operator.TheVariants.{Add, Equal, NotEqual, Greater, And}
use Rattle.layer_words.specs.declared.sorts.Shape.TheVariants.{One, Array}
use Rattle.layer_mean.specs.Tree.{Carried, whole, ExpressionTree, number, me, local, element, rows, item, size, binary}
use Rattle.layer_mean.specs.Tree.{MessageTree, message, nothing, held, tail, join, StatementTree, assign, push, take}
use Rattle.layer_mean.specs.Tree.{branch, each, emit, StatementTrees, none, more, Expected, always, common, rare}
use Rattle.layer_mean.specs.Tree.{HandlerTree, Form, numbers, queue, queues, HeaderTree, CellTree, LayerTree}

-- The statements of a block.
abbrev pub block : List StatementTree → StatementTrees
block [] = none
block (x ∷ xs) = more x (block xs)

-- A cast or a send of a message, with a header.
abbrev pub sends : Dir → Kind → ExpressionTree → MessageTree → ℕ → List ExpressionTree → StatementTree
sends dir kind peer m tag fields = emit (record {
  direction = dir;
  kind = kind;
  numbers = peer ∷ [];
  content = Some (record { message = m; tag = tag; fields = fields });
})

-- A handler of casts or sends whose own names are few.
abbrev pub on : Dir → Kind → ℕ → Expected → List StatementTree → HandlerTree
on dir kind tag expected statements = record {
  direction = dir;
  kind = kind;
  tag = tag;
  expected = expected;
  numbers = 4;
  messages = 2;
  block = block statements;
}

-- The number of a cell of one number.
abbrev pub cell : ℕ → ExpressionTree
cell c = element c (number 0)

-- A cell of one number, raised by 1.
abbrev pub raise : ℕ → StatementTree
raise c = assign c (number 0) (binary Add (cell c) (number 1))

-- A cell of this name and form.
abbrev pub named_cell : List ℕ → Form → CellTree
named_cell name form = record { name = name; form = form }

-- A header of this name, with so many fields, that passes to the layers above.
abbrev pub with_fields : List ℕ → ℕ → HeaderTree
with_fields name fields = record { name = name; fields = fields; ends = false }

-- A layer with handlers alone.
abbrev pub bare_layer : List ℕ → List HandlerTree → LayerTree
bare_layer name handlers = record { name = name; cells = []; headers = []; handlers = handlers }

-- Each cast carries the sender's count `k`; `e` has the number that is due from each member.
abbrev pub counter : LayerTree
counter = record {
  name = codes "cnt";
  cells = named_cell (codes "k") (numbers One (number 0)) ∷ named_cell (codes "e") (numbers Array (number 0)) ∷ [];
  headers = with_fields (codes "num") 1 ∷ [];
  handlers =
      on Down Cast 0 always (sends Down Cast (local 0) (message 0) 1 (cell 0 ∷ []) ∷ raise 0 ∷ []) ∷
      on Up Cast 1 (common (binary Equal (local 1) (element 1 (local 0))))
      (assign 1 (local 0) (binary Add (local 1) (number 1)) ∷ sends Up Cast (local 0) (message 0) 0 [] ∷ []) ∷ [];
}

-- Each message carries the number 1.
abbrev pub bottom : LayerTree
bottom = record {
  name = codes "bottom";
  cells = [];
  headers = with_fields (codes "net") 1 ∷ [];
  handlers =
      on Down Cast 0 always (sends Down Cast (local 0) (message 0) 1 (number 1 ∷ []) ∷ []) ∷
      on Down Send 0 always (sends Down Send (local 0) (message 0) 1 (number 1 ∷ []) ∷ []) ∷
      on Up Cast 1 (common (binary Equal (local 1) (number 1)))
      (branch likely.First (binary Equal (local 1) (number 1)) (block (sends Up Cast (local 0) (message 0) 0 [] ∷ []))
      none ∷ []) ∷
      on Up Send 1 (common (binary Equal (local 1) (number 1)))
      (branch likely.First (binary Equal (local 1) (number 1)) (block (sends Up Send (local 0) (message 0) 0 [] ∷ []))
      none ∷ []) ∷ [];
}

-- A cast comes back to its sender too.
abbrev pub local_copy : LayerTree
local_copy = bare_layer (codes "local")
    (on Down Cast 0 always (sends Down Cast (local 0) (message 0) 0 [] ∷ sends Up Cast me (message 0) 0 [] ∷ []) ∷ [])

-- The member of rank 0 numbers the casts of all.
abbrev pub total : LayerTree
total = record {
  name = codes "total";
  cells = named_cell (codes "out") (numbers One (number 0)) ∷ named_cell (codes "next") (numbers One (number 0)) ∷ [];
  headers = with_fields (codes "num") 2 ∷ with_fields (codes "ask") 0 ∷ [];
  handlers =
      on Down Cast 0 always (branch likely.First (binary Equal me (number 0))
      (block (sends Down Cast (local 0) (message 0) 1 (me ∷ cell 0 ∷ []) ∷ raise 0 ∷ []))
      (block (sends Down Send (number 0) (message 0) 2 [] ∷ [])) ∷ []) ∷
      on Up Send 2 always (branch likely.First (binary Equal me (number 0))
      (block (sends Down Cast me (message 0) 1 (local 0 ∷ cell 0 ∷ []) ∷ raise 0 ∷ [])) none ∷ []) ∷
      on Up Cast 1 (common (binary Equal (local 2) (cell 1))) (branch likely.First (binary Equal (local 2) (cell 1))
      (block (assign 1 (number 0) (binary Add (cell 1) (number 1)) ∷ sends Up Cast (local 1) (message 0) 0 [] ∷ []))
      none ∷ []) ∷ [];
}

-- Rows with messages of the layers above. (What stands in for a missing one plays no part in the samples.)
abbrev pub kept_rows : Carried
kept_rows = whole []

-- A full queue of kept casts loses its first for a new one.
abbrev pub making_room : List StatementTree
making_room = take 4 (number 0) (record { numbers = []; message = Some (1, kept_rows) })
    (block (raise 1 ∷ push 4 (number 0) 64 (record { numbers = []; message = Some (message 0) }) none ∷ [])) none ∷ []

-- A cast is kept, numbered and sent.
abbrev pub keeping : List StatementTree
keeping = push 4 (number 0) 64 (record { numbers = []; message = Some (message 0) }) (block making_room) ∷
    sends Down Cast (local 0) (message 0) 1 (cell 0 ∷ []) ∷ raise 0 ∷ []

-- How many casts of the sender wait.
abbrev pub waiting : ExpressionTree
waiting = rows 5 (local 0)

-- The first that waits goes to the back, unless it is the next.
abbrev pub turning : StatementTree
turning = branch likely.First (binary NotEqual (item 5 (local 0) (number 0) 0) (element 3 (local 0)))
    (block (take 5 (local 0) (record { numbers = 4 ∷ []; message = Some (1, kept_rows) })
    (block (branch likely.First (binary Greater (local 4) (element 3 (local 0)))
    (block (push 5 (local 0) 16 (record { numbers = local 4 ∷ []; message = Some (message 1) }) none ∷ [])) none ∷ []))
    none ∷ []))
    none

-- The first that waits goes up, if it is the next.
abbrev pub catching_up : StatementTree
catching_up = branch likely.First
    (binary And (binary Greater waiting (number 0))
    (binary Equal (item 5 (local 0) (number 0) 0) (element 3 (local 0))))
    (block (take 5 (local 0) (record { numbers = 4 ∷ []; message = Some (1, kept_rows) })
    (block (assign 3 (local 0) (binary Add (local 4) (number 1)) ∷ sends Up Cast (local 0) (message 1) 0 [] ∷ []))
    none ∷ []))
    none

-- The next cast of a sender goes up, and those that waited for it; a later one waits.
abbrev pub ordering : List StatementTree
ordering = branch likely.First (binary Equal (local 1) (element 3 (local 0)))
    (block (assign 3 (local 0) (binary Add (local 1) (number 1)) ∷ sends Up Cast (local 0) (message 0) 0 [] ∷
    branch likely.Else (binary Greater waiting (number 0))
    (block (each 2 waiting 16 (block (each 3 waiting 16 (block (turning ∷ [])) ∷ catching_up ∷ [])) ∷ [])) none ∷ []))
    (block (branch likely.First (binary Greater (local 1) (element 3 (local 0)))
    (block (push 5 (local 0) 16 (record { numbers = local 1 ∷ []; message = Some (message 0) }) none ∷
    sends Down Send (local 0) nothing 2 (element 3 (local 0) ∷ local 1 ∷ []) ∷ [])) none ∷ [])) ∷ []

-- Each cast is kept and numbered, and casts that come too early wait: the casts of `mnak`.
abbrev pub mnak : LayerTree
mnak = record {
  name = codes "mnak";
  cells =
      named_cell (codes "out") (numbers One (number 0)) ∷ named_cell (codes "base") (numbers One (number 0)) ∷
      named_cell (codes "told") (numbers One (number 0)) ∷ named_cell (codes "next") (numbers Array (number 0)) ∷
      named_cell (codes "kept") (queue 64 (record { numbers = []; message = Some (codes "m", kept_rows) })) ∷
      named_cell (codes "early")
      (queues 16 (record { numbers = codes "seq" ∷ []; message = Some (codes "m", kept_rows) })) ∷
      [];
  headers =
      with_fields (codes "num") 1 ∷ record { name = codes "nak"; fields = 2; ends = true } ∷
      with_fields (codes "again") 1 ∷ with_fields (codes "last") 1 ∷ [];
  handlers = on Down Cast 0 always keeping ∷ on Up Cast 1 (common (binary Equal (local 1) (element 3 (local 0))))
      ordering ∷ [];
}

-- A cast is sent back where it came from.
abbrev pub echo : LayerTree
echo = bare_layer (codes "echo")
    (on Down Cast 0 always (sends Up Cast (local 0) (message 0) 0 [] ∷ []) ∷
    on Up Cast 0 always (sends Down Cast (local 0) (message 0) 0 [] ∷ []) ∷ [])

-- A cast becomes sixteen.
abbrev pub fan : LayerTree
fan = bare_layer (codes "fan")
    (on Up Cast 0 always (each 1 (number 16) 16 (block (sends Up Cast (local 0) (message 0) 0 [] ∷ [])) ∷ []) ∷ [])

-- A cast is repeated in a loop, and so is a send.
abbrev pub repeater : LayerTree
repeater = bare_layer (codes "rep")
    (on Down Cast 0 always (each 1 (number 2) 2 (block (sends Down Cast (local 0) (message 0) 0 [] ∷ [])) ∷ []) ∷
    on Down Send 0 always (each 1 (number 1) 1 (block (sends Down Send (local 0) (message 0) 0 [] ∷ [])) ∷ []) ∷ [])

-- A cast is joined with itself in a loop inside another; the bound of the inner one is joined too.
abbrev pub joiner : ℕ → LayerTree
joiner inner = bare_layer (codes "joiner")
    (on Down Cast 0 always (each 1 (number 3) 3
    (block (each 2 (size (join (message 0) (message 0))) inner
    (block (sends Down Cast (local 0) (join (message 0) (join (message 0) (message 0))) 0 [] ∷ [])) ∷ [])) ∷ []) ∷ [])

-- A cast isn't expected at all.
abbrev pub surprised_layer : LayerTree
surprised_layer = bare_layer (codes "surprised")
    (on Down Cast 0 rare (sends Down Cast (local 0) (message 0) 0 [] ∷ []) ∷ [])

-- The oldest cast that was kept is sent in the place of the new one, though a loop comes after it.
abbrev pub late : LayerTree
late = record {
  name = codes "late";
  cells = named_cell (codes "kept") (queue 4 (record { numbers = []; message = Some (codes "m", kept_rows) })) ∷ [];
  headers = [];
  handlers = on Down Cast 0 always
      (push 0 (number 0) 4 (record { numbers = []; message = Some (message 0) }) none ∷
      take 0 (number 0) (record { numbers = []; message = Some (1, kept_rows) })
      (block (sends Down Cast (local 0) (message 1) 0 [] ∷ each 1 (number 1) 1 none ∷ [])) none ∷ []) ∷ [];
}

-- A cast comes back up with the headers with which it came down.
abbrev pub mirror : LayerTree
mirror = bare_layer (codes "mirror")
    (on Down Cast 0 always (sends Up Cast (local 0) (tail (message 0) (number 0)) 0 [] ∷ []) ∷ [])

-- In the place of a cast that comes down, one that was kept before goes up.
abbrev pub memory : LayerTree
memory = record {
  name = codes "memory";
  cells = named_cell (codes "kept") (queue 4 (record { numbers = []; message = Some (codes "m", kept_rows) })) ∷ [];
  headers = [];
  handlers = on Down Cast 0 always (sends Up Cast (local 0) (held 0 (number 0) (number 0) kept_rows) 0 [] ∷ []) ∷ [];
}

-- A cast that comes up with the first header is answered with the second one.
abbrev pub answering : LayerTree
answering = record {
  name = codes "answering";
  cells = [];
  headers = with_fields (codes "ask") 0 ∷ with_fields (codes "answer") 0 ∷ [];
  handlers =
      on Up Cast 1 always (sends Down Cast (local 0) (message 0) 2 [] ∷ []) ∷
      on Up Cast 2 always (sends Up Cast (local 0) (message 0) 0 [] ∷ []) ∷ [];
}

-- A cast becomes two.
abbrev pub doubler : LayerTree
doubler = bare_layer (codes "doubler")
    (on Down Cast 0 always (sends Down Cast (local 0) (message 0) 0 [] ∷ sends Down Cast (local 0) (message 0) 0 [] ∷
    []) ∷ [])

-- A layer with a header and without handlers.
abbrev pub silent_layer : LayerTree
silent_layer = record { name = codes "silent"; cells = []; headers = with_fields (codes "word") 1 ∷ []; handlers = [] }
