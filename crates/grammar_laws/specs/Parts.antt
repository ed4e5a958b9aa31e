-- The printed tokens of parts of the grammar that are read by themselves and are no trees of their own.
use Rattle.std.specs.Prelude.{List, ◌∷◌, Bool, true, false, Option, Some, None}
use Rattle.layer_words.specs.declared.signs.Sign.TheVariants as sign
use Rattle.layer_ast.specs.Print as print
use Rattle.layer_ast.specs.Printed.{Printed, plain}
use Rattle.layer_ast.specs.Tree.{SizeTree, StatementTrees}

-- the other way of a condition, where there is one
abbrev pub otherwise : Option StatementTrees → List Printed → List Printed
otherwise None k = k
otherwise (Some block) k = plain sign.Else ∷ print.block block k

-- between its square brackets, the capacity of a queue, or that it is an array of queues, and their capacity
abbrev pub capacity : Bool × SizeTree → List Printed → List Printed
capacity (false, size) k = print.size size ∷ k
capacity (true, size) k = plain sign.N ∷ plain sign.RightBracket ∷ plain sign.LeftBracket ∷ print.size size ∷ k

-- after `n`, what says that an array is a square one, where it does
abbrev pub square : Bool → List Printed → List Printed
square false k = k
square true k = plain sign.Star ∷ plain sign.N ∷ k
