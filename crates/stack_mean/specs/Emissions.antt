-- What a handler may send at most, whatever way its visit goes, and how many joins it may make.
use Rattle.std.specs.Prelude.{ℕ, ◌+◌, ◌*◌, List, [], ◌∷◌, ◌++◌}
use Rattle.std.specs.List.{sum_by}
use Rattle.std.specs.Option.{option_map_or}
use Rattle.layer_mean.specs.Tree.{ExpressionTree, element, square, rows, item, size, binary, apply, pick, MessageTree}
use Rattle.layer_mean.specs.Tree.{held, cut, tail, join, ContentTree, EmissionTree, RowTree, StatementTree, bind}
use Rattle.layer_mean.specs.Tree.{assign, assign_square, push, take, branch, each, emit, StatementTrees, none, more}
use Rattle.layer_mean.specs.Tree.{Expected, common, HandlerTree}

-- An emission that is done at most `times` times.
pub record Repeated : Type 0 where
  pub times : ℕ
  pub emission : EmissionTree

abbrev mutual
  -- The emissions of a statement that is itself done `times` times, in all its blocks; a loop's maximum multiplies
  -- those inside.
  pub emissions : ℕ → StatementTree → List Repeated
  emissions times (push c i capacity row otherwise) = emissions_in times otherwise
  emissions times (take c i taken block otherwise) = emissions_in times block ++ emissions_in times otherwise
  emissions times (branch likely e block otherwise) = emissions_in times block ++ emissions_in times otherwise
  emissions times (each k below most block) = emissions_in (times * most) block
  emissions times (emit e) = record { times = times; emission = e } ∷ []
  emissions times _ = []

  -- The emissions of the statements of a block.
  pub emissions_in : ℕ → StatementTrees → List Repeated
  emissions_in times none = []
  emissions_in times (more x rest) = emissions times x ++ emissions_in times rest

abbrev mutual
  -- How often `join` is written in an expression.
  pub joins_in : ExpressionTree → ℕ
  joins_in (element c i) = joins_in i
  joins_in (square c row column) = joins_in row + joins_in column
  joins_in (rows c i) = joins_in i
  joins_in (item c i row k) = joins_in i + joins_in row
  joins_in (size m) = joins_in_message m
  joins_in (binary operator a b) = joins_in a + joins_in b
  joins_in (apply function a) = joins_in a
  joins_in (pick c a b) = joins_in c + joins_in a + joins_in b
  joins_in _ = 0

  -- How often `join` is written in a message.
  pub joins_in_message : MessageTree → ℕ
  joins_in_message (held c i row carried) = joins_in i + joins_in row
  joins_in_message (cut m from length) = joins_in_message m + joins_in from + joins_in length
  joins_in_message (tail m from) = joins_in_message m + joins_in from
  joins_in_message (join p m) = 1 + joins_in_message p + joins_in_message m
  joins_in_message _ = 0

-- The joins of an emission's message and of its header's fields.
abbrev pub joins_in_content : ContentTree → ℕ
joins_in_content c = joins_in_message c.message + sum_by joins_in c.fields

-- The joins of an emission: of its number arguments, its message and its header's fields.
abbrev pub joins_in_emission : EmissionTree → ℕ
joins_in_emission e = sum_by joins_in e.numbers + option_map_or joins_in_content e.content 0

-- The joins of the parts of a row that is pushed.
abbrev pub joins_in_row : RowTree → ℕ
joins_in_row r = sum_by joins_in r.numbers + option_map_or joins_in_message r.message 0

abbrev mutual
  -- The joins that a statement may make at most: those written in all its blocks, times the maxima of the loops around
  -- them. The bound of a loop stands outside it.
  pub joins : StatementTree → ℕ
  joins (bind k e) = joins_in e
  joins (assign c i e) = joins_in i + joins_in e
  joins (assign_square c row column e) = joins_in row + joins_in column + joins_in e
  joins (push c i capacity row otherwise) = joins_in i + joins_in_row row + joins_of otherwise
  joins (take c i taken block otherwise) = joins_in i + joins_of block + joins_of otherwise
  joins (branch likely e block otherwise) = joins_in e + joins_of block + joins_of otherwise
  joins (each k below most block) = joins_in below + most * joins_of block
  joins (emit e) = joins_in_emission e

  -- The joins of the statements of a block.
  pub joins_of : StatementTrees → ℕ
  joins_of none = 0
  joins_of (more x rest) = joins x + joins_of rest

-- The joins of the condition of a handler's common case, if there is one.
abbrev pub joins_expected : Expected → ℕ
joins_expected (common e) = joins_in e
joins_expected _ = 0

-- The joins of a handler.
abbrev pub handler_joins : HandlerTree → ℕ
handler_joins h = joins_expected h.expected + joins_of h.block
