-- Which stacks send only what their graphs tell. (Files without a fault of names or types mean no others.)
use Rattle.std.specs.Prelude.{◌≡◌, ℕ, ◌≤◌, Bool, true, List, Option, Some, None, is_some}
use Rattle.std.specs.List.{AllByRecursion}
use Rattle.layer_words.specs.declared.events.Dir.{Dir}
use Rattle.layer_words.specs.declared.events.Dir.TheVariants.{Up, Down}
use Rattle.layer_words.specs.declared.events.Kind.{Kind}
use Rattle.layer_mean.specs.Event.{carries}
use Rattle.layer_mean.specs.Headers.{header_of_tag}
use Rattle.layer_mean.specs.Tree.{Carried, ContentTree, StatementTree, push, take, branch, each, emit, StatementTrees}
use Rattle.layer_mean.specs.Tree.{none, more, HandlerTree, LayerTree}
use Rattle.stack_mean.specs.Graph.{goes_down}

-- What is sent with a message is of a kind that carries one; what is sent down has a header that its layer declares.
abbrev pub IsOrderlyContent : LayerTree → Dir → Kind → Option ContentTree → Type 0
IsOrderlyContent layer dir kind None = Unit {0}
IsOrderlyContent layer Up kind (Some c) = carries kind ≡ true
IsOrderlyContent layer Down kind (Some c) = (carries kind ≡ true) × (is_some (header_of_tag layer c.tag) ≡ true)

-- A taken row's message doesn't come in the place of a message from above.
abbrev pub KeepsMessage : Bool → Option (ℕ × Carried) → Type 0
KeepsMessage true (Some slot) = 1 ≤ slot.0
KeepsMessage _ _ = Unit {0}

abbrev mutual
  -- So it is with each emission and each take of a statement, in a handler of a message from above or of another event.
  pub IsOrderlyStatement : LayerTree → Bool → StatementTree → Type 0
  IsOrderlyStatement layer from_above (push c i capacity row otherwise) = IsOrderlyBlock layer from_above otherwise
  IsOrderlyStatement layer from_above (take c i taken block otherwise) =
      KeepsMessage from_above taken.message × IsOrderlyBlock layer from_above block ×
      IsOrderlyBlock layer from_above otherwise
  IsOrderlyStatement layer from_above (branch likely e block otherwise) =
      IsOrderlyBlock layer from_above block × IsOrderlyBlock layer from_above otherwise
  IsOrderlyStatement layer from_above (each k below most block) = IsOrderlyBlock layer from_above block
  IsOrderlyStatement layer from_above (emit e) = IsOrderlyContent layer e.direction e.kind e.content
  IsOrderlyStatement layer from_above _ = Unit {0}

  -- So it is with each statement of a block.
  pub IsOrderlyBlock : LayerTree → Bool → StatementTrees → Type 0
  IsOrderlyBlock layer from_above none = Unit {0}
  IsOrderlyBlock layer from_above (more x rest) =
      IsOrderlyStatement layer from_above x × IsOrderlyBlock layer from_above rest

-- So it is with each handler of a layer.
abbrev pub IsOrderlyHandler : LayerTree → HandlerTree → Type 0
IsOrderlyHandler layer h = IsOrderlyBlock layer (goes_down h.direction h.kind) h.block

abbrev pub IsOrderlyLayer : LayerTree → Type 0
IsOrderlyLayer layer = AllByRecursion (IsOrderlyHandler layer) layer.handlers

-- So it is with each layer of a stack.
abbrev pub IsOrderly : List LayerTree → Type 0
IsOrderly stack = AllByRecursion IsOrderlyLayer stack
