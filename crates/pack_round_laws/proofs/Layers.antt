-- Layers whose traces can be read as they are written.
use Rattle.std.specs.Prelude.{◌≡◌, ℕ, suc, ◌≤◌, true, List, length, is_some, Option, Some, None}
use Rattle.std.specs.List.{AllByRecursion}
use Rattle.layer_words.specs.declared.events.Dir.{Dir}
use Rattle.layer_words.specs.declared.events.Dir.TheVariants.{Up, Down}
use Rattle.layer_mean.specs.declared.run.Case.{Case}
use Rattle.layer_mean.specs.Event.{carries}
use Rattle.layer_mean.specs.Headers.{header_of_tag}
use Rattle.layer_mean.specs.Tree.{Carried, ExpressionTree, number, me, count, ltime, local, element, square, rows, item}
use Rattle.layer_mean.specs.Tree.{size, binary, apply, pick, MessageTree, message, nothing, held, cut, tail, join}
use Rattle.layer_mean.specs.Tree.{ContentTree, EmissionTree, RowTree, ItemsTree, HandlerTree, LayerTree}
use Rattle.layer_mean.specs.Way.{Step, test, fork, set_slot, set_number, set_square, put, get, send, loop, handler_way}
use Rattle.trace_mean.specs.Fuse.{form_at, fields_of}
use Rattle.pack_mean.specs.Named.{items_in, no_items}
use Rattle.pack_mean.specs.Operation.{numbers_of}
use Rattle.std.specs.Option.{unwrap_or}
use Rattle.pack_round_laws.proofs.Fits.{largest_number, Carries}

-- What the rows of a cell have.
abbrev pub cell_items : LayerTree → ℕ → ItemsTree
cell_items layer c = unwrap_or (items_in (form_at layer c)) no_items

abbrev mutual
  -- An expression and a message of a layer in which no more than n brackets are open at once, round and square
  -- ones together, whose literals are read, and in which a message that a queue holds is of the kind that its rows
  -- carry.
  pub ExpressionFits : LayerTree → ℕ → ExpressionTree → Type 0
  ExpressionFits layer n (number k) = k ≤ largest_number
  ExpressionFits layer n me = Unit {0}
  ExpressionFits layer n count = Unit {0}
  ExpressionFits layer n ltime = Unit {0}
  ExpressionFits layer n (local k) = Unit {0}
  ExpressionFits layer (suc n) (element c e) = ExpressionFits layer n e
  ExpressionFits layer (suc n) (square c row column) = ExpressionFits layer n row × ExpressionFits layer n column
  ExpressionFits layer (suc (suc n)) (rows c e) = ExpressionFits layer n e
  ExpressionFits layer (suc (suc n)) (item c e row k) = ExpressionFits layer n e × ExpressionFits layer (suc n) row
  ExpressionFits layer (suc n) (size m) = MessageFits layer n m
  ExpressionFits layer (suc n) (binary operator a b) = ExpressionFits layer n a × ExpressionFits layer n b
  ExpressionFits layer (suc n) (apply function a) = ExpressionFits layer n a
  ExpressionFits layer (suc n) (pick c a b) = ExpressionFits layer n c × ExpressionFits layer n a ×
      ExpressionFits layer n b
  ExpressionFits layer _ _ = ⊥

  pub MessageFits : LayerTree → ℕ → MessageTree → Type 0
  MessageFits layer n (message k) = Unit {0}
  MessageFits layer n nothing = Unit {0}
  MessageFits layer (suc (suc n)) (held c e row carried) =
      Carries (cell_items layer c) carried × ExpressionFits layer n e × ExpressionFits layer (suc n) row
  MessageFits layer (suc n) (cut m from most) = MessageFits layer n m × ExpressionFits layer n from ×
      ExpressionFits layer n most
  MessageFits layer (suc n) (tail m from) = MessageFits layer n m × ExpressionFits layer n from
  MessageFits layer (suc n) (join first m) = MessageFits layer n first × MessageFits layer n m
  MessageFits layer _ _ = ⊥

-- How many brackets may be open at once in a layer's own expressions; in what a trace checks, up to four more.
abbrev pub most_nested : ℕ
most_nested = 196

abbrev pub Fits : LayerTree → ExpressionTree → Type 0
Fits layer e = ExpressionFits layer most_nested e

-- A row has a message where the rows of its queue have one.
abbrev pub RowMessageFits : LayerTree → Option (List ℕ × Carried) → Option MessageTree → Type 0
RowMessageFits layer None None = Unit {0}
RowMessageFits layer (Some carried) (Some m) = MessageFits layer most_nested m
RowMessageFits layer _ _ = ⊥

-- A row that is pushed has as many numbers as its queue's rows.
pub record PutFits (layer : LayerTree) (c : ℕ) (index : ExpressionTree) (capacity : ℕ) (row : RowTree) : Type 0 where
  pub index_fits : Fits layer index
  pub capacity_fits : capacity ≤ largest_number
  pub numbers_fit : AllByRecursion (Fits layer) row.numbers
  pub numbers_are : length row.numbers ≡ length (cell_items layer c).numbers
  pub message_fits : RowMessageFits layer (cell_items layer c).message row.message

-- What a take fills a message with is what the rows of its queue carry.
abbrev pub TakenFits : LayerTree → ℕ → Option (ℕ × Carried) → Type 0
TakenFits layer c None = Unit {0}
TakenFits layer c (Some slot) = Carries (cell_items layer c) slot.1

-- A header that is put on going down is one of the layer's, with as many fields as it has.
abbrev pub HeaderFits : LayerTree → Dir → ContentTree → Type 0
HeaderFits layer Up c = Unit {0}
HeaderFits layer Down c = (is_some (header_of_tag layer c.tag) ≡ true) × (length c.fields ≡ fields_of layer c.tag)

pub record ContentFits (layer : LayerTree) (dir : Dir) (c : ContentTree) : Type 0 where
  pub message_fits : MessageFits layer most_nested c.message
  pub fields_fit : AllByRecursion (Fits layer) c.fields
  pub header_fits : HeaderFits layer dir c

abbrev pub SentContentFits : LayerTree → Dir → Option ContentTree → Type 0
SentContentFits layer dir None = Unit {0}
SentContentFits layer dir (Some c) = ContentFits layer dir c

-- An emission has as many numbers as its kind, and a message where that carries one.
pub record EmissionFits (layer : LayerTree) (e : EmissionTree) : Type 0 where
  pub count : length e.numbers ≡ numbers_of e.kind
  pub carried : is_some e.content ≡ carries e.kind
  pub numbers_fit : AllByRecursion (Fits layer) e.numbers
  pub content_fits : SentContentFits layer e.direction e.content

-- Each predicted step of a handler.
abbrev pub StepFits : LayerTree → Step → Type 0
StepFits layer (test wanted e) = Fits layer e
StepFits layer (fork case e) = Fits layer e
StepFits layer (set_slot k e) = Fits layer e
StepFits layer (set_number c i e) = Fits layer i × Fits layer e
StepFits layer (set_square c row column e) = Fits layer row × Fits layer column × Fits layer e
StepFits layer (put c i capacity row) = PutFits layer c i capacity row
StepFits layer (get c i taken) = Fits layer i × TakenFits layer c taken.message
StepFits layer (send e) = EmissionFits layer e
StepFits layer loop = Unit {0}

abbrev pub WayFits : LayerTree → Option (List Step) → Type 0
WayFits layer None = Unit {0}
WayFits layer (Some steps) = AllByRecursion (StepFits layer) steps

-- And so each handler of a layer, in each case.
abbrev pub HandlerFits : LayerTree → HandlerTree → Type 0
HandlerFits layer h = (case : Case) → WayFits layer (handler_way case h)

abbrev pub LayerFits : LayerTree → Type 0
LayerFits layer = AllByRecursion (HandlerFits layer) layer.handlers

abbrev pub LayersFit : List LayerTree → Type 0
LayersFit stack = AllByRecursion LayerFits stack
