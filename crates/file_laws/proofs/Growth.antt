-- Slots are only ever added.
use Rattle.std.proofs.Common.{◌≤◌, [], ◌∷◌, Some, arith}
use Rattle.layer_ast.specs.Tree as ast
use Rattle.fault_mean.specs.Declared.{names_in}
use Rattle.file_mean.specs.Names.{Names, Slots, with_numbers}
use Rattle.file_mean.specs.Statements.{with_taken, after_block, following, after_all}

-- at least as many slots are taken, of numbers and of messages
pub record NoFewer (before after : Slots) : Type 0 where
  pub numbers : before.numbers ≤ after.numbers
  pub messages : before.messages ≤ after.messages

mutual
  pub grows : (x : ast.StatementTree) (names : Names) → NoFewer names.taken (following x names).taken
  grows (ast.bind at name e) names = record { numbers = omega arith; messages = omega arith }
  grows (ast.set at name index e) names = record { numbers = omega arith; messages = omega arith }
  grows (ast.set_square at name row column e) names = record { numbers = omega arith; messages = omega arith }
  grows (ast.push at q items otherwise) names = grows_all otherwise names
  grows (ast.take at q new block otherwise) names =
      let inner = with_taken q (names_in (Some new)) names in
      let one = grows_all block inner in
      let two = grows_all otherwise (after_block names (after_all block inner)) in
      record { numbers = omega (arith, one.numbers, two.numbers); messages = omega (arith, one.messages, two.messages) }
  grows (ast.when at likely e block) names = grows_all block names
  grows (ast.choose at likely e block otherwise) names =
      let one = grows_all block names in
      let two = grows_all otherwise (after_block names (after_all block names)) in
      record { numbers = omega (arith, one.numbers, two.numbers); messages = omega (arith, one.messages, two.messages) }
  grows (ast.each at name below most block) names =
      let one = grows_all block (with_numbers (name ∷ []) names) in
      record { numbers = omega (arith, one.numbers); messages = one.messages }
  grows (ast.emit at dir kind arguments pushed) names = record { numbers = omega arith; messages = omega arith }

  pub grows_all : (xs : ast.StatementTrees) (names : Names) → NoFewer names.taken (after_all xs names).taken
  grows_all ast.none names = record { numbers = omega arith; messages = omega arith }
  grows_all (ast.more x rest) names =
      let one = grows x names in
      let two = grows_all rest (following x names) in
      record { numbers = omega (arith, one.numbers, two.numbers); messages = omega (arith, one.messages, two.messages) }
