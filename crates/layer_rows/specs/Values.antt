-- What expressions are worth at their ends, and what reading and writing outside does.
use Rattle.std.specs.Prelude.{◌≡◌, ℕ, false, List, [], ◌∷◌, length, replicate, codes, Some, None}
use Rattle.msg_core.specs.Chain.{Content, plain}
use Rattle.msg_core.specs.Parts as parts
use Rattle.layer_words.specs.declared.operators.Function.TheVariants.{Not, Bit, Count, Lowest}
use Rattle.layer_words.specs.declared.operators.Operator.TheVariants.{Add, Subtract, Multiply, Less, And, BitXor}
use Rattle.layer_mean.specs.declared.run.Row.{Row}
use Rattle.layer_mean.specs.Tree.{number, square, rows, item, part, whole, held}
use Rattle.layer_mean.specs.State.{State, numbers, queues, number_at, with_number, with_row, without_front, has_room}
use Rattle.layer_mean.specs.Value.{applied, function_of, val, mval}
use Rattle.layer_mean.specs.Visit.{no_scope}

-- A message after one header.
abbrev pub headed_content : List ℕ → Content
headed_content body = record { headers = record { layer = 1; tag = 0; fields = [] } ∷ []; body = body }

-- A range is cut as far as there are bytes, its end is no sum that wraps, and it has no headers.
abbrev pub Cuts : Type 0
Cuts =
    (parts.cut (headed_content (codes "abcdef")) 4 10 ≡ plain (codes "ef"))
    × (parts.cut (headed_content (codes "abcdef")) 6 1 ≡ plain [])
    × (parts.cut (headed_content (codes "abcdef")) 1 4294967295 ≡ plain (codes "bcdef"))

-- A tail keeps the headers.
abbrev pub Tails : Type 0
Tails = (parts.tail (headed_content (codes "abc")) 1 ≡ headed_content (codes "bc")) ×
    (parts.tail (headed_content (codes "abc")) 3 ≡ headed_content [])

-- A join keeps the second's headers, and gives the second alone where the bytes would be more than 8,192.
abbrev pub Joins : Type 0
Joins =
    (parts.join (plain (codes "ab")) (headed_content (codes "c")) ≡ headed_content (codes "abc"))
    × (length (parts.join (plain (replicate 8191 0)) (headed_content (codes "c"))).body ≡ 8192)
    × (parts.join (plain (replicate 8192 0)) (headed_content (codes "c")) ≡ headed_content (codes "c"))

-- Sums and differences wrap, comparisons and `and` give 1 or 0, and the functions of bits end at bit 32.
abbrev pub Computes : Type 0
Computes =
    (applied Add 4294967295 2 ≡ 1)
    × (applied Subtract 0 1 ≡ 4294967295)
    × (applied Multiply 65536 65536 ≡ 0)
    × (applied Less 1 2 ≡ 1)
    × (applied And 2 0 ≡ 0)
    × (applied BitXor 6 3 ≡ 5)
    × (function_of Not 7 ≡ 0)
    × (function_of Bit 31 ≡ 2147483648)
    × (function_of Bit 32 ≡ 0)
    × (function_of Count 4294967295 ≡ 32)
    × (function_of Lowest 12 ≡ 2)
    × (function_of Lowest 0 ≡ 32)

-- A row of one number, and one that ends with a message.
abbrev pub number_row : ℕ → Row
number_row x = record { numbers = x ∷ []; message = None }

-- A row of one number and a message.
abbrev pub message_row : ℕ → Row
message_row x = record { numbers = x ∷ []; message = Some (plain (codes "hi")) }

-- A state of two members with an array, a square array and two queues, of which the first has a row.
abbrev pub filled_state : State
filled_state = record {
  me = 0;
  count = 2;
  ltime = 0;
  cells = numbers (5 ∷ 6 ∷ []) ∷ numbers (1 ∷ 2 ∷ 3 ∷ 4 ∷ []) ∷ queues ((message_row 7 ∷ []) ∷ [] ∷ []) ∷ [];
}

-- Reading outside an array, outside a square array or of a cell that there isn't gives 0; writing there does nothing.
abbrev pub OutsideArrays : Type 0
OutsideArrays =
    (number_at filled_state 0 1 ≡ 6)
    × (number_at filled_state 0 2 ≡ 0)
    × (number_at filled_state 3 0 ≡ 0)
    × (number_at filled_state 2 0 ≡ 0)
    × (val (square 1 (number 1) (number 0)) filled_state no_scope ≡ 3)
    × (val (square 1 (number 0) (number 2)) filled_state no_scope ≡ 0)
    × (with_number filled_state 0 2 9 ≡ filled_state)
    × (with_number filled_state 2 0 9 ≡ filled_state)

-- A queue outside its array is empty and full at once; a row that isn't there has no numbers, and its message is no
-- bytes for a part, and for a message of the layers above the headers that stand in for it.
abbrev pub OutsideQueues : Type 0
OutsideQueues =
    (val (rows 2 (number 0)) filled_state no_scope ≡ 1)
    × (val (rows 2 (number 2)) filled_state no_scope ≡ 0)
    × (has_room filled_state 2 2 8 ≡ false)
    × (has_room filled_state 2 0 1 ≡ false)
    × (with_row filled_state 2 2 (number_row 1) ≡ filled_state)
    × (without_front filled_state 2 1 ≡ filled_state)
    × (val (item 2 (number 0) (number 0) 0) filled_state no_scope ≡ 7)
    × (val (item 2 (number 0) (number 1) 0) filled_state no_scope ≡ 0)
    × (mval (held 2 (number 0) (number 0) part) filled_state no_scope ≡ plain (codes "hi"))
    × (mval (held 2 (number 1) (number 0) part) filled_state no_scope ≡ plain [])
    × (mval (held 2 (number 1) (number 0) (whole (record { layer = 1; tag = 0; fields = [] } ∷ []))) filled_state
    no_scope ≡
    headed_content [])
