-- Stacks that name only cells, items of rows and slots of numbers that are there, each in the form in which it is used.
-- (A value that stands for "not there" names a cell of another form, or none.)
use Rattle.std.specs.Prelude.{◌≡◌, ℕ, ◌+◌, ◌<◌, ◌≤◌, ◌⊎◌, List, length, slice_get, Option, Some, None, option_and_then}
use Rattle.std.specs.List.{AllByRecursion}
use Rattle.std.specs.Option.{option_map_or}
use Rattle.layer_words.specs.declared.sorts.Shape.{Shape}
use Rattle.layer_words.specs.declared.sorts.Shape.TheVariants.{One, Array, Square}
use Rattle.layer_words.specs.declared.events.Kind.{Kind}
use Rattle.layer_words.specs.declared.events.Kind.TheVariants.{Stable, Ack}
use Rattle.layer_mean.specs.Headers.{header_of_tag}
use Rattle.layer_mean.specs.Limits.{longest_loop, largest_capacity}
use Rattle.layer_mean.specs.Tree.{ExpressionTree, number, local, element, square, rows, item, size, binary, apply, pick}
use Rattle.layer_mean.specs.Tree.{MessageTree, held, cut, tail, join, ContentTree, ItemsTree, Form, numbers, queue}
use Rattle.layer_mean.specs.Tree.{queues, StatementTree, bind, assign, assign_square, push, take, branch, each, emit}
use Rattle.layer_mean.specs.Tree.{StatementTrees, none, more, Expected, common, HandlerTree, LayerTree, no_layer}

-- What a cell of a form is: numbers of a shape, a queue that is alone, queues of an array.
abbrev pub shape_in : Form → Option Shape
shape_in (numbers shape initial) = Some shape
shape_in _ = None

abbrev pub alone_in : Form → Option ItemsTree
alone_in (queue capacity items) = Some items
alone_in _ = None

abbrev pub among_in : Form → Option ItemsTree
among_in (queues capacity items) = Some items
among_in _ = None

abbrev pub form_at : {A : Type 0} → (Form → Option A) → LayerTree → ℕ → Option A
form_at f layer c = option_and_then (λ cell. f cell.form) (slice_get layer.cells c)

-- A cell is named as one number by the index 0, or as an array by any; and as a square.
abbrev pub NamesNumber : LayerTree → ℕ → ExpressionTree → Type 0
NamesNumber layer c i = ((form_at shape_in layer c ≡ Some One) × (i ≡ number 0)) ⊎
    (form_at shape_in layer c ≡ Some Array)

abbrev pub NamesSquare : LayerTree → ℕ → Type 0
NamesSquare layer c = form_at shape_in layer c ≡ Some Square

-- A queue is named as one that is alone by the index 0, or as one of an array by any; it has these items.
abbrev pub NamesRows : LayerTree → ℕ → ExpressionTree → ItemsTree → Type 0
NamesRows layer c i items = ((form_at alone_in layer c ≡ Some items) × (i ≡ number 0)) ⊎
    (form_at among_in layer c ≡ Some items)

pub record NamesQueue (layer : LayerTree) (c : ℕ) (i : ExpressionTree) : Type 0 where
  pub items : ItemsTree
  pub listed : NamesRows layer c i items

-- The number that is named is one that the queue's rows have.
pub record NamesItem (layer : LayerTree) (c : ℕ) (i : ExpressionTree) (k : ℕ) : Type 0 where
  pub items : ItemsTree
  pub listed : NamesRows layer c i items
  pub below : k < length items.numbers

abbrev mutual
  -- All that an expression and a message name is there, in a scope with `slots` numbers.
  pub Named : LayerTree → ℕ → ExpressionTree → Type 0
  Named layer slots (local k) = k < slots
  Named layer slots (element c i) = NamesNumber layer c i × Named layer slots i
  Named layer slots (square c row column) = NamesSquare layer c × Named layer slots row × Named layer slots column
  Named layer slots (rows c i) = NamesQueue layer c i × Named layer slots i
  Named layer slots (item c i row k) = NamesItem layer c i k × Named layer slots i × Named layer slots row
  Named layer slots (size m) = NamedMessage layer slots m
  Named layer slots (binary operator a b) = Named layer slots a × Named layer slots b
  Named layer slots (apply function a) = Named layer slots a
  Named layer slots (pick condition a b) = Named layer slots condition × Named layer slots a × Named layer slots b
  Named layer slots _ = Unit {0}

  pub NamedMessage : LayerTree → ℕ → MessageTree → Type 0
  NamedMessage layer slots (held c i row carried) = NamesQueue layer c i × Named layer slots i × Named layer slots row
  NamedMessage layer slots (cut m from n) = NamedMessage layer slots m × Named layer slots from × Named layer slots n
  NamedMessage layer slots (tail m from) = NamedMessage layer slots m × Named layer slots from
  NamedMessage layer slots (join p m) = NamedMessage layer slots p × NamedMessage layer slots m
  NamedMessage layer slots _ = Unit {0}

-- A size is at least 1 and at most `most`.
abbrev pub IsSize : ℕ → ℕ → Type 0
IsSize most n = (1 ≤ n) × (n ≤ most)

abbrev pub NamedOption : LayerTree → ℕ → Option MessageTree → Type 0
NamedOption layer slots None = Unit {0}
NamedOption layer slots (Some m) = NamedMessage layer slots m

abbrev pub NamedContent : LayerTree → ℕ → Option ContentTree → Type 0
NamedContent layer slots None = Unit {0}
NamedContent layer slots (Some c) = NamedMessage layer slots c.message × AllByRecursion (Named layer slots) c.fields

abbrev mutual
  -- All that a statement names is there, and all that a block does.
  pub NamedStatement : LayerTree → ℕ → StatementTree → Type 0
  NamedStatement layer slots (bind k e) = (k < slots) × Named layer slots e
  NamedStatement layer slots (assign c i e) = NamesNumber layer c i × Named layer slots i × Named layer slots e
  NamedStatement layer slots (assign_square c row column e) =
      NamesSquare layer c × Named layer slots row × Named layer slots column × Named layer slots e
  NamedStatement layer slots (push c i capacity row otherwise) =
      NamesQueue layer c i × Named layer slots i × AllByRecursion (Named layer slots) row.numbers ×
      NamedOption layer slots row.message
      × NamedAll layer slots otherwise
  NamedStatement layer slots (take c i taken block otherwise) =
      NamesQueue layer c i × Named layer slots i × AllByRecursion (λ k. k < slots) taken.numbers ×
      NamedAll layer slots block
      × NamedAll layer slots otherwise
  NamedStatement layer slots (branch likely e block otherwise) =
      Named layer slots e × NamedAll layer slots block × NamedAll layer slots otherwise
  NamedStatement layer slots (each k below most block) = (k < slots) × Named layer slots below ×
      IsSize longest_loop most × NamedAll layer slots block
  NamedStatement layer slots (emit e) = AllByRecursion (Named layer slots) e.numbers ×
      NamedContent layer slots e.content

  pub NamedAll : LayerTree → ℕ → StatementTrees → Type 0
  NamedAll layer slots none = Unit {0}
  NamedAll layer slots (more x rest) = NamedStatement layer slots x × NamedAll layer slots rest

abbrev pub NamedExpected : LayerTree → ℕ → Expected → Type 0
NamedExpected layer slots (common e) = Named layer slots e
NamedExpected layer slots _ = Unit {0}

-- How many numbers an event of a kind brings; and how many a handler's scope has: those, the fields of the header that
-- it takes off, and those of its own.
abbrev pub event_number_count : Kind → ℕ
event_number_count Stable = 2
event_number_count Ack = 2
event_number_count _ = 1

abbrev pub slots_of : LayerTree → HandlerTree → ℕ
slots_of layer h = event_number_count h.kind + option_map_or (λ d. d.fields) (header_of_tag layer h.tag) 0 + h.numbers

-- All that a handler names is there, and all that a layer does; an initial value names no cell, and capacities
-- are sizes.
abbrev pub NamedHandler : LayerTree → HandlerTree → Type 0
NamedHandler layer h = NamedExpected layer (slots_of layer h) h.expected × NamedAll layer (slots_of layer h) h.block

abbrev pub NamedForm : Form → Type 0
NamedForm (numbers shape initial) = Named no_layer 0 initial
NamedForm (queue capacity items) = IsSize largest_capacity capacity
NamedForm (queues capacity items) = IsSize largest_capacity capacity

pub record NamedLayer (layer : LayerTree) : Type 0 where
  pub cells_are : AllByRecursion (λ cell. NamedForm cell.form) layer.cells
  pub handlers_are : AllByRecursion (NamedHandler layer) layer.handlers

abbrev pub NamedStack : List LayerTree → Type 0
NamedStack stack = AllByRecursion NamedLayer stack
