-- Where in the layers' texts the decisions of an entry stand: the lines of the statements at which its predicted way
-- decides.
use Rattle.std.specs.Prelude.{ℕ, List, [], ◌∷◌, ◌++◌, map, slice_get, slice_index_or, Option, option_and_then}
use Rattle.std.specs.List.{enumerate_from, flat_map, position}
use Rattle.std.specs.Option.{option_map_or}
use Rattle.layer_ast.specs.Tree as ast
use Rattle.layer_ast.specs.Tree.{FileTree}
use Rattle.layer_words.specs.declared.sorts.Likely.TheVariants as likely
use Rattle.layer_words.specs.declared.events.Dir.{Dir}
use Rattle.layer_words.specs.declared.events.Dir.TheVariants.{Up, Down}
use Rattle.layer_mean.specs.Tree.{LayerTree, no_layer}
use Rattle.layer_mean.specs.Visit.{is_for}
use Rattle.layer_mean.specs.declared.run.Case.{Case}
use Rattle.layer_mean.specs.declared.run.Case.TheVariants.{First, Second}
use Rattle.fault_mean.specs.Places.{layer_at}
use Rattle.fault_mean.specs.Sorts.{expression_at}
use Rattle.stack_mean.specs.Shape.{ShapeVisit, Shape}

abbrev mutual
  -- The lines of the decisions of a statement on its predicted way in a case: of its own, then of the block that is
  -- predicted.
  pub statement_lines : Case → ast.StatementTree → List ℕ
  statement_lines case (ast.push at q items otherwise) = at.line ∷ []
  statement_lines case (ast.take at q names block otherwise) = at.line ∷ block_lines case block
  statement_lines case (ast.when at likely.First condition block) = at.line ∷ block_lines case block
  statement_lines case (ast.when at likely.Else condition block) = at.line ∷ []
  statement_lines First (ast.when at likely.Two condition block) = at.line ∷ block_lines First block
  statement_lines Second (ast.when at likely.Two condition block) = at.line ∷ []
  statement_lines case (ast.choose at likely.First condition block otherwise) = at.line ∷ block_lines case block
  statement_lines case (ast.choose at likely.Else condition block otherwise) = at.line ∷ block_lines case otherwise
  statement_lines First (ast.choose at likely.Two condition block otherwise) = at.line ∷ block_lines First block
  statement_lines Second (ast.choose at likely.Two condition block otherwise) = at.line ∷ block_lines Second otherwise
  statement_lines case (ast.each at name below most block) = at.line ∷ []
  statement_lines case _ = []

  -- Those of the statements of a block, in order.
  pub block_lines : Case → ast.StatementTrees → List ℕ
  block_lines case ast.none = []
  block_lines case (ast.more statement rest) = statement_lines case statement ++ block_lines case rest

-- The line of the condition where a handler is common, which it decides first; none for any other.
abbrev pub expected_lines : ast.Expected → List ℕ
expected_lines (ast.common condition) = (expression_at condition).line ∷ []
expected_lines _ = []

-- The lines of a handler's decisions on its predicted way in a case: of its own condition, and then of its block.
abbrev pub handler_lines : Case → ast.HandlerTree → List ℕ
handler_lines case h = expected_lines h.expected ++ block_lines case h.block

-- The layer of a file at a place of its stack, counted from 0.
abbrev pub layer_at_place : FileTree → ℕ → Option ast.LayerTree
layer_at_place file place = option_and_then (layer_at file) (slice_get file.places place)

-- The tag that is popped from an event with this first tag; going down, none is popped.
abbrev pub popped_tag : Dir → ℕ → ℕ
popped_tag Up tag = tag
popped_tag Down tag = 0

-- The number of the handler that a visit of a shape meets, among those of its layer.
abbrev pub handler_number : List LayerTree → ShapeVisit → Option ℕ
handler_number stack v =
    position (is_for v.dir v.kind (popped_tag v.dir v.tag)) (slice_index_or stack v.place no_layer).handlers

-- The handler of a file's layer that has this number.
abbrev pub handler_at : FileTree → ℕ → ℕ → Option ast.HandlerTree
handler_at file place number = option_and_then (λ layer. slice_get layer.handlers number) (layer_at_place file place)

-- The lines of the decisions of a visit: none where its layer passes the event on.
abbrev pub visit_lines : Case → FileTree → List LayerTree → ShapeVisit → List ℕ
visit_lines case file stack v =
    option_map_or (handler_lines case) (option_and_then (handler_at file v.place) (handler_number stack v)) []

-- A decision on the way of a shape: the visit in which it is made, counted from 1, the visit's place, and its line in
-- the text of the place's layer, which for a layer of the library is counted in that layer's own text.
pub record Spot : Type 0 where
  pub visit : ℕ
  pub place : ℕ
  pub line : ℕ

-- The decisions of a visit, which is given with its number, at its place of the stack.
abbrev pub visit_spots : Case → FileTree → List LayerTree → ℕ × ShapeVisit → List Spot
visit_spots case file stack x = map (λ line. record { visit = x.0; place = x.1.place; line = line })
    (visit_lines case file stack x.1)

-- The decisions of a shape, in order.
abbrev pub shape_spots : Case → FileTree → List LayerTree → Shape → List Spot
shape_spots case file stack s = flat_map (visit_spots case file stack) (enumerate_from 1 s.visits)
