-- What a desk has to be made for, as the layer that works at it says.
use Rattle.std.specs.Prelude.{ℕ, List, map, max}
use Rattle.std.specs.List.{fold}
use Rattle.layer_mean.specs.Tree.{Form, numbers, queue, queues, LayerTree}
use Rattle.layer_desk.specs.Need.{Layout, block_in_hand}

-- The most of any.
abbrev pub most : {A : Type 0} → (A → ℕ) → List A → ℕ
most f xs = fold (λ m x. max m (f x)) 0 xs

-- How many rows a queue of a cell keeps.
abbrev pub rows_kept : Form → ℕ
rows_kept (numbers shape initial) = 0
rows_kept (queue capacity items) = capacity
rows_kept (queues capacity items) = capacity

-- The rows of each cell's queues, the most numbers and messages that a handler's block declares, and the most messages
-- that one has in hand; with `places` places for events.
abbrev pub layout_of : LayerTree → ℕ → Layout
layout_of layer places = record {
  rows = map (λ c. rows_kept c.form) layer.cells;
  numbers = most (λ h. h.numbers) layer.handlers;
  messages = most (λ h. h.messages) layer.handlers;
  hand = most (λ h. block_in_hand h.block) layer.handlers;
  places = places;
}
