-- What expressions are worth. Both functions are total: reading outside gives 0, or the message that stands in for a
-- missing one.
use Rattle.std.specs.Prelude.{ℕ, ◌+◌, ◌-◌, ◌*◌, ◌%◌, ◌^◌, ◌==◌, Bool, not, ◌&&◌, ◌||◌, nat_lt, nat_le, if◌then◌else◌}
use Rattle.std.specs.Prelude.{List, [], length, slice_index, slice_index_or, Option, Some, None}
use Rattle.std.specs.Option.{option_map_or}
use Rattle.std.specs.Int.Bits.{bit_and, bit_or, bit_xor}
use Rattle.std.specs.Int.Count.{ones_in, count_trailing_zeros}
use Rattle.msg_core.specs.Chain.{Content, plain}
use Rattle.msg_core.specs.Parts as parts
use Rattle.layer_words.specs.declared.operators.Function.{Function}
use Rattle.layer_words.specs.declared.operators.Function.TheVariants.{Not, Bit, Count, Lowest}
use Rattle.layer_words.specs.declared.operators.Operator.{Operator}
use Rattle.layer_words.specs.declared.operators.Operator.TheVariants.{Add, Subtract, Multiply, Equal, NotEqual, Less}
use Rattle.layer_words.specs.declared.operators.Operator.TheVariants.{LessOrEqual, Greater, GreaterOrEqual, And, Or}
use Rattle.layer_words.specs.declared.operators.Operator.TheVariants.{BitAnd}
use Rattle.layer_words.specs.declared.operators.Operator.TheVariants.{BitOr, BitXor}
use Rattle.layer_mean.specs.declared.run.Row.{Row}
use Rattle.layer_mean.specs.Tree.{Carried, part, whole, ExpressionTree, number, me, count, ltime, local, element}
use Rattle.layer_mean.specs.Tree.{square, rows, item, size, binary, apply, pick, MessageTree, message, nothing, held}
use Rattle.layer_mean.specs.Tree.{cut, tail, join}
use Rattle.layer_mean.specs.State.{State, number_at, flat_index, rows_at, row_at}

-- What a handler's block sees beside the state: numbers and messages, by their slots.
pub record Scope : Type 0 where
  pub numbers : List ℕ
  pub messages : List Content

-- Whether a number counts as true: it isn't 0.
abbrev pub is_true : ℕ → Bool
is_true x = not (x == 0)

-- Truth as a number: 1 for true, 0 for false.
abbrev pub of_bool : Bool → ℕ
of_bool b = if b then 1 else 0

-- Numbers are taken modulo 2^32.
abbrev pub wrapped : ℕ → ℕ
wrapped x = x % 2 ^ 32

-- An operator between two numbers: comparisons, `and` and `or` give 1 or 0, and `&`, `|`, `^` work on bits.
abbrev pub applied : Operator → ℕ → ℕ → ℕ
applied Add x y = wrapped (x + y)
applied Subtract x y = wrapped (x + 2 ^ 32 - y)
applied Multiply x y = wrapped (x * y)
applied Equal x y = of_bool (x == y)
applied NotEqual x y = of_bool (not (x == y))
applied Less x y = of_bool (nat_lt x y)
applied LessOrEqual x y = of_bool (nat_le x y)
applied Greater x y = of_bool (nat_lt y x)
applied GreaterOrEqual x y = of_bool (nat_le y x)
applied And x y = of_bool (is_true x && is_true y)
applied Or x y = of_bool (is_true x || is_true y)
applied BitAnd x y = bit_and x y
applied BitOr x y = bit_or x y
applied BitXor x y = bit_xor x y

-- A function of one number: `not`, the number with this bit alone (0 from bit 32 on), how many bits are set, and the
-- place of the lowest set bit (32 where none is).
abbrev pub function_of : Function → ℕ → ℕ
function_of Not x = of_bool (not (is_true x))
function_of Bit x = if nat_lt x 32 then 2 ^ x else 0
function_of Count x = ones_in 32 x
function_of Lowest x = count_trailing_zeros 32 x

-- The message that stands in for that of a missing row: no bytes, and for a message the header `none` of each place
-- above.
abbrev pub missing : Carried → Content
missing part = plain []
missing (whole blank) = record { headers = blank; body = [] }

-- Number k of a row, 0 where there is no row.
abbrev pub number_in : ℕ → Option Row → ℕ
number_in k None = 0
number_in k (Some row) = slice_index row.numbers k

-- The message of a row.
abbrev pub message_in : Carried → Option Row → Content
message_in carried None = missing carried
message_in carried (Some row) = option_map_or (λ m. m) row.message (missing carried)

abbrev mutual
  -- The number of an expression.
  pub val : ExpressionTree → State → Scope → ℕ
  val (number n) s l = n
  val me s l = s.me
  val count s l = s.count
  val ltime s l = s.ltime
  val (local k) s l = slice_index l.numbers k
  val (element c i) s l = number_at s c (val i s l)
  val (square c row column) s l = number_at s c (flat_index s.count (val row s l) (val column s l))
  val (rows c i) s l = length (rows_at s c (val i s l))
  val (item c i row k) s l = number_in k (row_at s c (val i s l) (val row s l))
  val (size m) s l = length (mval m s l).body
  val (binary operator a b) s l = applied operator (val a s l) (val b s l)
  val (apply function a) s l = function_of function (val a s l)
  val (pick c a b) s l = if is_true (val c s l) then val a s l else val b s l

  -- The message of a message expression.
  pub mval : MessageTree → State → Scope → Content
  mval (message k) s l = slice_index_or l.messages k (plain [])
  mval nothing s l = plain []
  mval (held c i row carried) s l = message_in carried (row_at s c (val i s l) (val row s l))
  mval (cut m from n) s l = parts.cut (mval m s l) (val from s l) (val n s l)
  mval (tail m from) s l = parts.tail (mval m s l) (val from s l)
  mval (join p m) s l = parts.join (mval p s l) (mval m s l)
