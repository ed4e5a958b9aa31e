-- What the steps of a predicted way cost is no more than what is counted of the statements.
use Rattle.std.proofs.Common.{◌≡◌, ℕ, ◌+◌, ◌≤◌, Bool, List, [], ◌∷◌, ◌++◌, arith}
use Rattle.std.specs.List.{AllByRecursion}
use Rattle.layer_words.specs.declared.sorts.Likely.TheVariants as likely
use Rattle.layer_mean.specs.declared.run.Case.{Case}
use Rattle.layer_mean.specs.declared.run.Case.TheVariants.{First, Second}
use Rattle.layer_mean.specs.Tree.{EmissionTree, StatementTree, bind, assign, assign_square, push, take, branch, each}
use Rattle.layer_mean.specs.Tree.{emit, StatementTrees, none, more, LayerTree}
use Rattle.layer_mean.specs.Way.{Step, put, get, send, way, ways}
use Rattle.stack_mean.specs.Emissions.{joins_in_emission, joins_in_row, joins, joins_of}
use Rattle.weight_laws.specs.Orderly.{KeepsMessage, IsOrderlyContent, IsOrderlyStatement, IsOrderlyBlock}
use Rattle.chain_laws.proofs.Lists.{each_append}
use Rattle.weight_laws.proofs.Sends.{total, total_in}

abbrev pub priced : (Step → ℕ) → List Step → ℕ
priced price [] = 0
priced price (x ∷ xs) = price x + priced price xs

pub priced_append : (price : Step → ℕ) (xs ys : List Step) → priced price (xs ++ ys) ≡ priced price xs + priced price ys
priced_append price [] ys = omega arith
priced_append price (x ∷ xs) ys = omega (arith, priced_append price xs ys)

-- the joins of the messages that a step emits or pushes
abbrev pub step_joins : Step → ℕ
step_joins (put c i capacity row) = joins_in_row row
step_joins (send e) = joins_in_emission e
step_joins _ = 0

-- what a step sends at most
abbrev pub step_sends : (EmissionTree → ℕ) → Step → ℕ
step_sends bound (send e) = bound e
step_sends bound _ = 0

mutual
  pub way_joins : (case : Case) (x : StatementTree) → priced step_joins (way case x) ≤ joins x
  way_joins case (bind k e) = omega arith
  way_joins case (assign c i e) = omega arith
  way_joins case (assign_square c row column e) = omega arith
  way_joins case (push c i capacity row otherwise) = omega arith
  way_joins case (take c i taken block otherwise) = omega (arith, ways_join case block)
  way_joins case (branch likely.First e block otherwise) = omega (arith, ways_join case block)
  way_joins case (branch likely.Else e block otherwise) = omega (arith, ways_join case otherwise)
  way_joins First (branch likely.Two e block otherwise) = omega (arith, ways_join First block)
  way_joins Second (branch likely.Two e block otherwise) = omega (arith, ways_join Second otherwise)
  way_joins case (each k below most block) = omega arith
  way_joins case (emit e) = omega arith

  pub ways_join : (case : Case) (xs : StatementTrees) → priced step_joins (ways case xs) ≤ joins_of xs
  ways_join case none = omega arith
  ways_join case (more x rest) =
      omega (arith, priced_append step_joins (way case x) (ways case rest), way_joins case x, ways_join case rest)

mutual
  pub way_sends : (bound : EmissionTree → ℕ) (case : Case) (x : StatementTree) →
      priced (step_sends bound) (way case x) ≤ total bound x
  way_sends bound case (bind k e) = omega arith
  way_sends bound case (assign c i e) = omega arith
  way_sends bound case (assign_square c row column e) = omega arith
  way_sends bound case (push c i capacity row otherwise) = omega arith
  way_sends bound case (take c i taken block otherwise) = omega (arith, ways_send bound case block)
  way_sends bound case (branch likely.First e block otherwise) = omega (arith, ways_send bound case block)
  way_sends bound case (branch likely.Else e block otherwise) = omega (arith, ways_send bound case otherwise)
  way_sends bound First (branch likely.Two e block otherwise) = omega (arith, ways_send bound First block)
  way_sends bound Second (branch likely.Two e block otherwise) = omega (arith, ways_send bound Second otherwise)
  way_sends bound case (each k below most block) = omega arith
  way_sends bound case (emit e) = omega arith

  pub ways_send : (bound : EmissionTree → ℕ) (case : Case) (xs : StatementTrees) →
      priced (step_sends bound) (ways case xs) ≤ total_in bound xs
  ways_send bound case none = omega arith
  ways_send bound case (more x rest) =
      omega (
        arith,
        priced_append (step_sends bound) (way case x) (ways case rest),
        way_sends bound case x,
        ways_send bound case rest,
      )

-- each step of an orderly block is orderly
abbrev pub OrderlyStep : LayerTree → Bool → Step → Type 0
OrderlyStep layer down (send e) = IsOrderlyContent layer e.direction e.kind e.content
OrderlyStep layer down (get c i taken) = KeepsMessage down taken.message
OrderlyStep layer down _ = Unit {0}

mutual
  pub way_orderly : (layer : LayerTree) (down : Bool) (case : Case) (x : StatementTree) →
      IsOrderlyStatement layer down x →
      AllByRecursion (OrderlyStep layer down) (way case x)
  way_orderly layer down case (bind k e) h = (tt, tt)
  way_orderly layer down case (assign c i e) h = (tt, tt)
  way_orderly layer down case (assign_square c row column e) h = (tt, tt)
  way_orderly layer down case (push c i capacity row otherwise) h = (tt, tt)
  way_orderly layer down case (take c i taken block otherwise) h = (h.0, ways_orderly layer down case block h.1)
  way_orderly layer down case (branch likely.First e block otherwise) h = (tt, ways_orderly layer down case block h.0)
  way_orderly layer down case (branch likely.Else e block otherwise) h =
      (tt, ways_orderly layer down case otherwise h.1)
  way_orderly layer down First (branch likely.Two e block otherwise) h = (tt, ways_orderly layer down First block h.0)
  way_orderly layer down Second (branch likely.Two e block otherwise) h =
      (tt, ways_orderly layer down Second otherwise h.1)
  way_orderly layer down case (each k below most block) h = (tt, tt)
  way_orderly layer down case (emit e) h = (h, tt)

  pub ways_orderly : (layer : LayerTree) (down : Bool) (case : Case) (xs : StatementTrees) →
      IsOrderlyBlock layer down xs →
      AllByRecursion (OrderlyStep layer down) (ways case xs)
  ways_orderly layer down case none h = tt
  ways_orderly layer down case (more x rest) h =
      each_append (OrderlyStep layer down) (way case x) (ways case rest) (way_orderly layer down case x h.0)
      (ways_orderly layer down case rest h.1)
