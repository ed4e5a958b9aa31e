-- What a layer has to be at its place so that members can run it: each number that members keep in a byte fits there,
-- and no list is longer than they keep.
use Rattle.std.specs.Prelude.{◌≡◌, ℕ, ◌≤◌, ◌<◌, length, Option, Some, None, option_map}
use Rattle.std.specs.List.{AllByRecursion, enumerate_from}
use Rattle.layer_ast.specs.Spells.{HasPlace}
use Rattle.layer_ast.specs.Tree as ast
use Rattle.layer_mean.specs.Tree.{Carried, ContentTree, StatementTree, bind, push, take, branch, each, emit}
use Rattle.layer_mean.specs.Tree.{StatementTrees, none, more}
use Rattle.fault_mean.specs.Declared.{cells_of, headers_of, items_in, names_in}
use Rattle.fault_mean.specs.FileFault.{file_fault}
use Rattle.fault_mean.specs.Places.{layer_at}
use Rattle.fault_mean.specs.Scope.{head_names}
use Rattle.file_mean.specs.Layers.{handler_of}
use Rattle.file_mean.specs.Names.{Placed, size_value}
use Rattle.file_mean.specs.Stack.{blank_above}
use Rattle.fault_mean.specs.Limits.{most_names, most_cells, most_handlers}
use Rattle.msg_core.specs.Headers.{most_places, most_declared, most_fields, most_tags}

-- A number that a byte holds.
abbrev pub IsByte : ℕ → Type 0
IsByte n = n < 256

-- The slot of a taken row's message is a byte.
abbrev pub HoldsSlot : Option (ℕ × Carried) → Type 0
HoldsSlot None = Unit {0}
HoldsSlot (Some slot) = IsByte slot.0

-- A header that is put on has a tag that layers declare, and at most four fields.
abbrev pub HoldsContent : Option ContentTree → Type 0
HoldsContent None = Unit {0}
HoldsContent (Some c) = (c.tag < most_tags) × (length c.fields ≤ most_fields)

abbrev mutual
  -- A statement whose slots and sizes are bytes, and whose rows and events have at most four numbers; and a block of
  -- such.
  pub HoldsStatement : StatementTree → Type 0
  HoldsStatement (bind k e) = IsByte k
  HoldsStatement (push c i capacity row otherwise) = IsByte capacity × (length row.numbers ≤ most_fields) ×
      HoldsBlock otherwise
  HoldsStatement (take c i taken block otherwise) =
      AllByRecursion IsByte taken.numbers × HoldsSlot taken.message × HoldsBlock block × HoldsBlock otherwise
  HoldsStatement (branch likely e block otherwise) = HoldsBlock block × HoldsBlock otherwise
  HoldsStatement (each k below most block) = IsByte k × IsByte most × HoldsBlock block
  HoldsStatement (emit e) = (length e.numbers ≤ most_fields) × HoldsContent e.content
  HoldsStatement _ = Unit {0}

  pub HoldsBlock : StatementTrees → Type 0
  HoldsBlock none = Unit {0}
  HoldsBlock (more x rest) = HoldsStatement x × HoldsBlock rest

-- A handler that brings few names at its head, and declares as many as a byte counts.
pub record HoldsHandler (p : Placed) (h : ast.HandlerTree) : Type 0 where
  pub head : length (head_names h) ≤ most_names
  pub tag : (handler_of p h).tag < most_tags
  pub numbers : IsByte (handler_of p h).numbers
  pub messages : IsByte (handler_of p h).messages
  pub block : HoldsBlock (handler_of p h).block

-- A queue whose capacity is a byte and whose rows have at most four numbers and a message; a header of at most four
-- fields.
abbrev pub HoldsDeclaration : Placed → ast.DeclarationTree → Type 0
HoldsDeclaration p (ast.rows_cell at name capacity items) = IsByte (size_value p capacity) ×
    (length (items_in items) ≤ 5)
HoldsDeclaration p (ast.rows_array at name capacity items) = IsByte (size_value p capacity) ×
    (length (items_in items) ≤ 5)
HoldsDeclaration p (ast.header at name fields ending) = length (names_in fields) ≤ most_fields
HoldsDeclaration p _ = Unit {0}

-- A layer of few cells, headers and handlers, each of which is such.
pub record HoldsLayer (p : Placed) : Type 0 where
  pub cells : length (cells_of p.layer) ≤ most_cells
  pub headers : length (headers_of p.layer) ≤ most_declared
  pub handlers : length p.layer.handlers ≤ most_handlers
  pub declarations_are : AllByRecursion (HoldsDeclaration p) p.layer.declarations
  pub handlers_are : AllByRecursion (HoldsHandler p) p.layer.handlers

-- The layer that a place of a file names, where there is one, at this number of the stack.
abbrev pub placed_at : ast.FileTree → ℕ → ast.PlaceTree → Option Placed
placed_at file number place = option_map
    (λ layer. record { layer = layer; given = place.given; blank = blank_above number (length file.places) })
    (layer_at file place)

abbrev pub HoldsPlaced : Option Placed → Type 0
HoldsPlaced None = ⊥
HoldsPlaced (Some p) = HoldsLayer p

-- A file of some places, and few, each of which names a layer that members can run there.
pub record HoldsFile (file : ast.FileTree) : Type 0 where
  pub some : 1 ≤ length file.places
  pub few : length file.places ≤ most_places
  pub layers_are : AllByRecursion (λ x. HoldsPlaced (placed_at file x.0 x.1)) (enumerate_from 0 file.places)

-- A file with a place and no fault of names or types is within the bounds.
abbrev pub FilesAreHeld : Type 0
FilesAreHeld = (file : ast.FileTree) → HasPlace file → file_fault file ≡ None → HoldsFile file
