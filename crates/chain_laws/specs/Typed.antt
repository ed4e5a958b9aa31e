-- Layers whose visits keep chains, as can be seen from their trees alone: literals are numbers, the messages of the
-- scope and of queues are used as what they are, and each header that is pushed suits the message after it. Everything
-- else has a meaning that keeps chains whatever it is.
use Rattle.std.specs.Prelude.{◌≡◌, ℕ, Bool, true, false, if◌then◌else◌, List, [], ◌∷◌, length, slice_get, slice_set}
use Rattle.std.specs.Prelude.{Option, Some, None, IsSomeAnd, option_map, option_and_then}
use Rattle.std.specs.List.{AllByRecursion}
use Rattle.std.specs.Option.{option_map_or}
use Rattle.msg_core.specs.declared.message.Header.{Header}
use Rattle.layer_words.specs.declared.sorts.Sort.{Sort}
use Rattle.layer_words.specs.declared.sorts.Sort.TheVariants.{Int, Msg, Part}
use Rattle.layer_words.specs.declared.events.Dir.{Dir}
use Rattle.layer_words.specs.declared.events.Dir.TheVariants.{Up, Down}
use Rattle.layer_mean.specs.Event.{carries}
use Rattle.layer_mean.specs.Headers.{header_of_tag}
use Rattle.layer_mean.specs.Tree.{Carried, part, whole, ExpressionTree, number, binary, pick, MessageTree, message}
use Rattle.layer_mean.specs.Tree.{nothing, held, cut, tail, join, ContentTree, RowTree, ItemsTree, Form, numbers, queue}
use Rattle.layer_mean.specs.Tree.{queues, StatementTree, bind, assign, assign_square, push, take, branch, each, emit}
use Rattle.layer_mean.specs.Tree.{StatementTrees, none, more, HandlerTree, LayerTree}
use Rattle.layer_mean.specs.Visit.{with_room}
use Rattle.packet_mean.specs.ChainedState.{IsNumber}

-- The literals that an expression may be worth, alone or in a sum, are numbers.
abbrev pub Small : ExpressionTree → Type 0
Small (number n) = IsNumber n
Small (binary operator a b) = Small a × Small b
Small (pick condition a b) = Small a × Small b
Small _ = Unit {0}

-- A queue's capacity and the items of its rows, and those of a cell that is one or has several.
pub record Queue : Type 0 where
  pub capacity : ℕ
  pub items : ItemsTree

abbrev pub queue_in : Form → Option Queue
queue_in (numbers shape initial) = None
queue_in (queue capacity items) = Some record { capacity = capacity; items = items }
queue_in (queues capacity items) = Some record { capacity = capacity; items = items }

abbrev pub queue_at : LayerTree → ℕ → Option Queue
queue_at layer c = option_and_then (λ cell. queue_in cell.form) (slice_get layer.cells c)

-- The sort of what a queue carries.
abbrev pub sort_of : Carried → Sort
sort_of part = Part
sort_of (whole blank) = Msg

-- What stands in for a missing message is what the place says: its blank headers.
abbrev pub HasBlank : List Header → Carried → Type 0
HasBlank blank part = Unit {0}
HasBlank blank (whole headers) = headers ≡ blank

-- The rows of a cell's queues carry this.
pub record Carries (layer : LayerTree) (blank : List Header) (c : ℕ) (carried : Carried) : Type 0 where
  pub rows : Queue
  pub listed : queue_at layer c ≡ Some rows
  pub sort : option_map (λ item. sort_of item.1) rows.items.message ≡ Some (sort_of carried)
  pub blanks : HasBlank blank carried

-- A message expression is of a sort: `Msg` has the headers of a message of the layers above, and `Part` none. Its spine
-- alone says so. The sorts are those of the scope's messages; a slot that holds no message yet has the sort `Int`.
abbrev pub Sorted : LayerTree → List Header → List Sort → Sort → MessageTree → Type 0
Sorted layer blank sorts sort (message k) = slice_get sorts k ≡ Some sort
Sorted layer blank sorts sort nothing = sort ≡ Part
Sorted layer blank sorts sort (held c i row carried) = Carries layer blank c carried × (sort ≡ sort_of carried)
Sorted layer blank sorts sort (cut m from length) = sort ≡ Part
Sorted layer blank sorts sort (tail m from) = Sorted layer blank sorts sort m
Sorted layer blank sorts sort (join p m) = Sorted layer blank sorts sort m

-- What is sent up is a message of the layers above. What is sent down gets a header that the layer declares, of as many
-- fields: one that ends stands before a part, and one that passes before a message of the layers above.
abbrev pub sort_under : Bool → Sort
sort_under ends = if ends then Part else Msg

pub record Pushed (layer : LayerTree) (blank : List Header) (sorts : List Sort) (c : ContentTree) : Type 0 where
  pub fields : AllByRecursion Small c.fields
  pub declares : IsSomeAnd (header_of_tag layer c.tag) (λ d.
      (length c.fields ≡ d.fields) × Sorted layer blank sorts (sort_under d.ends) c.message)

abbrev pub Content : LayerTree → List Header → List Sort → Dir → ContentTree → Type 0
Content layer blank sorts Up c = Sorted layer blank sorts Msg c.message
Content layer blank sorts Down c = Pushed layer blank sorts c

-- An emission has a message exactly where its kind carries one.
abbrev pub Sends : LayerTree → List Header → List Sort → Bool → Dir → Option ContentTree → Type 0
Sends layer blank sorts true dir (Some c) = Content layer blank sorts dir c
Sends layer blank sorts false dir None = Unit {0}
Sends layer blank sorts _ dir _ = ⊥

-- What a row that is pushed ends with is what its queue's items say.
abbrev pub Ends : LayerTree → List Header → List Sort → Option (List ℕ × Carried) → Option MessageTree → Type 0
Ends layer blank sorts None None = Unit {0}
Ends layer blank sorts (Some item) (Some m) = Sorted layer blank sorts (sort_of item.1) m
Ends layer blank sorts _ _ = ⊥

-- A push is on a queue of the layer, with its capacity and a row of its items.
pub record Pushes (layer : LayerTree) (blank : List Header) (sorts : List Sort) (c capacity : ℕ) (row : RowTree) : Type
    0 where
  pub rows : Queue
  pub listed : queue_at layer c ≡ Some rows
  pub room : capacity ≡ rows.capacity
  pub count : length row.numbers ≡ length rows.items.numbers
  pub numbers_are : AllByRecursion Small row.numbers
  pub message : Ends layer blank sorts rows.items.message row.message

-- A take fills a slot that holds no message yet with what the queue carries.
abbrev pub Takes : LayerTree → List Header → List Sort → ℕ → Option (ℕ × Carried) → Type 0
Takes layer blank sorts c None = Unit {0}
Takes layer blank sorts c (Some item) = Carries layer blank c item.1 × (slice_get sorts item.0 ≡ Some Int)

abbrev pub with_taken_sort : List Sort → Option (ℕ × Carried) → List Sort
with_taken_sort sorts None = sorts
with_taken_sort sorts (Some item) = slice_set sorts item.0 (sort_of item.1)

abbrev mutual
  -- A statement in a scope with messages of these sorts.
  pub Typed : LayerTree → List Header → List Sort → StatementTree → Type 0
  Typed layer blank sorts (bind k e) = Small e
  Typed layer blank sorts (assign c i e) = Small e
  Typed layer blank sorts (assign_square c row column e) = Small e
  Typed layer blank sorts (push c i capacity row otherwise) =
      Pushes layer blank sorts c capacity row × TypedAll layer blank sorts otherwise
  Typed layer blank sorts (take c i taken block otherwise) =
      Takes layer blank sorts c taken.message
      × TypedAll layer blank (with_taken_sort sorts taken.message) block
      × TypedAll layer blank sorts otherwise
  Typed layer blank sorts (branch likely e block otherwise) =
      TypedAll layer blank sorts block × TypedAll layer blank sorts otherwise
  Typed layer blank sorts (each k below most block) = Small below × TypedAll layer blank sorts block
  Typed layer blank sorts (emit e) =
      AllByRecursion Small e.numbers × Sends layer blank sorts (carries e.kind) e.direction e.content

  -- The statements of a block, each in the same scope: what a take fills is given back after its block.
  pub TypedAll : LayerTree → List Header → List Sort → StatementTrees → Type 0
  TypedAll layer blank sorts none = Unit {0}
  TypedAll layer blank sorts (more x rest) = Typed layer blank sorts x × TypedAll layer blank sorts rest

-- The sorts of the messages that a handler is entered with: after a header that ends there is a part.
abbrev pub met_sorts : LayerTree → Dir → Bool → ℕ → List Sort
met_sorts layer dir false tag = []
met_sorts layer Down true tag = Msg ∷ []
met_sorts layer Up true tag = option_map_or (λ d. sort_under d.ends ∷ []) (header_of_tag layer tag) []

abbrev pub sorts_of : LayerTree → HandlerTree → List Sort
sorts_of layer h = with_room h.messages Int (met_sorts layer h.direction (carries h.kind) h.tag)

abbrev pub TypedHandler : LayerTree → List Header → HandlerTree → Type 0
TypedHandler layer blank h = TypedAll layer blank (sorts_of layer h) h.block

-- A cell: its initial value's literals are numbers, and so is its capacity.
abbrev pub TypedForm : Form → Type 0
TypedForm (numbers shape initial) = Small initial
TypedForm (queue capacity items) = IsNumber capacity
TypedForm (queues capacity items) = IsNumber capacity

-- A layer at a place above which the blank headers are these.
pub record TypedLayer (blank : List Header) (layer : LayerTree) : Type 0 where
  pub cells : AllByRecursion (λ cell. TypedForm cell.form) layer.cells
  pub handlers : AllByRecursion (TypedHandler layer blank) layer.handlers
