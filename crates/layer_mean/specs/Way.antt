-- The predicted way of a handler in a case: the steps that its visit takes where all goes as predicted in it (the
-- common case of the SOSP 1999 paper, which a layer's text marks; that there may be two is this project's own).
use Rattle.std.specs.Prelude.{ℕ, ◌+◌, Bool, true, false, List, [], ◌∷◌, ◌++◌, length, Option, Some, None}
use Rattle.std.specs.List.{sum_by}
use Rattle.std.specs.Option.{option_map_or}
use Rattle.layer_words.specs.declared.sorts.Likely.TheVariants as likely
use Rattle.layer_mean.specs.declared.run.Case.{Case}
use Rattle.layer_mean.specs.declared.run.Case.TheVariants.{First, Second}
use Rattle.layer_mean.specs.Tree.{ExpressionTree, EmissionTree, RowTree, TakenTree, StatementTree, bind, assign}
use Rattle.layer_mean.specs.Tree.{assign_square, push, take, branch, each, emit, StatementTrees, none, more, Expected}
use Rattle.layer_mean.specs.Tree.{always, common, rare, HandlerTree}

-- A predicted step: a test that an expression is true, or 0; a condition with two predicted ways, which is to go the
-- way of a case; setting a number of the scope, of a cell or of a square cell; a push that finds room; a take that
-- finds a row; an emission; or a loop, which can't be predicted.
pub data Step : Type 0 where
  test : (wanted : Bool) → ExpressionTree → Step
  fork : Case → ExpressionTree → Step
  set_slot : (slot : ℕ) → ExpressionTree → Step
  set_number : (cell : ℕ) (index value : ExpressionTree) → Step
  set_square : (cell : ℕ) (row column value : ExpressionTree) → Step
  put : (cell : ℕ) (index : ExpressionTree) (capacity : ℕ) → RowTree → Step
  get : (cell : ℕ) (index : ExpressionTree) → TakenTree → Step
  send : EmissionTree → Step
  loop : Step

abbrev mutual
  -- The steps of a statement: a condition is predicted to choose its first block, a rare one the other, and one with
  -- two predicted ways the first in the first case and the other in the second; a push to have room; a take to find a
  -- row.
  pub way : Case → StatementTree → List Step
  way case (bind k e) = set_slot k e ∷ []
  way case (assign c i e) = set_number c i e ∷ []
  way case (assign_square c row column e) = set_square c row column e ∷ []
  way case (push c i capacity row otherwise) = put c i capacity row ∷ []
  way case (take c i taken block otherwise) = get c i taken ∷ ways case block
  way case (branch likely.First e block otherwise) = test true e ∷ ways case block
  way case (branch likely.Else e block otherwise) = test false e ∷ ways case otherwise
  way First (branch likely.Two e block otherwise) = fork First e ∷ ways First block
  way Second (branch likely.Two e block otherwise) = fork Second e ∷ ways Second otherwise
  way case (each k below most block) = loop ∷ []
  way case (emit e) = send e ∷ []

  -- The steps of the statements of a block, in order.
  pub ways : Case → StatementTrees → List Step
  ways case none = []
  ways case (more x rest) = way case x ++ ways case rest

-- The predicted way of a handler whose block has these steps: a common case is tested before them, and a rare handler
-- has no way.
abbrev pub expected_way : Expected → List Step → Option (List Step)
expected_way always steps = Some steps
expected_way (common e) steps = Some (test true e ∷ steps)
expected_way rare steps = None

-- The predicted way of a handler in a case, if it has one.
abbrev pub handler_way : Case → HandlerTree → Option (List Step)
handler_way case h = expected_way h.expected (ways case h.block)

-- How many predicted statements and arguments a step counts for: one, but two for a push or a take, and for an emission
-- one for each number that it evaluates.
abbrev pub weight_of : Step → ℕ
weight_of (put c i capacity row) = 2
weight_of (get c i taken) = 2
weight_of (send e) = length e.numbers + option_map_or (λ c. length c.fields) e.content 0
weight_of _ = 1

-- The length of a way.
abbrev pub way_length : List Step → ℕ
way_length steps = sum_by weight_of steps
