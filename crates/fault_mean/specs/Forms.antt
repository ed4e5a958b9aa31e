-- What a declared name may be used as.
use Rattle.std.specs.Prelude.{Bool, true, false, List, []}
use Rattle.std.specs.Option.{option_map_or}
use denote.Enum.Bare.{sameb}
use Rattle.layer_words.specs.contracts.sorts.Shape as shape_row
use Rattle.layer_ast.specs.declared.names.Name.{Name}
use Rattle.layer_words.specs.declared.words.Word.{Word}
use Rattle.layer_ast.specs.declared.syntax.Ending.TheVariants.{Ends}
use Rattle.layer_words.specs.declared.sorts.Shape.{Shape}
use Rattle.layer_ast.specs.Tree.{DeclarationTree, int, rows_cell, rows_array, header, ItemTree, LayerTree, QueueTree}
use Rattle.layer_ast.specs.Tree.{queue, queue_at}
use Rattle.fault_mean.specs.Declared.{declaration_of, items_in, names_in}

-- Whether a layer declares a word, and a test holds of the declaration.
abbrev pub declared_as : (DeclarationTree → Bool) → LayerTree → Word → Bool
declared_as test layer word = option_map_or test (declaration_of layer word) false

-- Whether a declaration declares a cell of numbers of this shape.
abbrev pub is_numbers : Shape → DeclarationTree → Bool
is_numbers shape (int at name written initial) = sameb shape_row.the_type written shape
is_numbers shape _ = false

-- Whether a declaration declares a queue that is alone.
abbrev pub is_queue : DeclarationTree → Bool
is_queue (rows_cell at name capacity items) = true
is_queue _ = false

-- Whether a declaration declares an array of queues, one for each member.
abbrev pub is_queue_array : DeclarationTree → Bool
is_queue_array (rows_array at name capacity items) = true
is_queue_array _ = false

-- Whether a declaration declares a header that ends the chain.
abbrev pub is_end : DeclarationTree → Bool
is_end (header at name fields Ends) = true
is_end _ = false

-- The items of the rows that a declaration declares, for a queue or an array of queues; others have none.
abbrev pub items_of : DeclarationTree → List ItemTree
items_of (rows_cell at name capacity items) = items_in items
items_of (rows_array at name capacity items) = items_in items
items_of _ = []

-- The items of the rows of the queue or array of queues that a layer declares by this word; other words have none.
abbrev pub row_of : LayerTree → Word → List ItemTree
row_of layer word = option_map_or items_of (declaration_of layer word) []

-- The fields of the header that a declaration declares; other declarations have none.
abbrev pub labels_of : DeclarationTree → List Name
labels_of (header at name fields ending) = names_in fields
labels_of _ = []

-- The fields of the header that a layer declares by this word; other words have none.
abbrev pub fields_of : LayerTree → Word → List Name
fields_of layer word = option_map_or labels_of (declaration_of layer word) []

-- The name of a queue, or of the array to which it belongs.
abbrev pub queue_name : QueueTree → Name
queue_name (queue name) = name
queue_name (queue_at name index) = name
