-- How the cells of a layer lie: each has a part of one block of numbers, and its queues.
use Rattle.std.specs.Prelude.{◌≡◌, ℕ, ◌+◌, ◌<◌, ◌≤◌, List, [], ◌∷◌, map, length, take, drop, replicate, slice_get}
use Rattle.std.specs.Prelude.{slice_index_or, Option, Some, None}
use Rattle.std.specs.List.{flat_map, sum_by}
use Rattle.layer_words.specs.declared.sorts.Shape.{Shape}
use Rattle.layer_mean.specs.Tree as tree
use Rattle.layer_mean.specs.Tree.{CellTree}
use Rattle.layer_mean.specs.State.{size_of}
use Rattle.cell_store.specs.Kept.{KeptCell, numbers, queues, rows_of}
use Rattle.cell_store.specs.Fresh.{kept_first}
use Rattle.cell_store.specs.Frames.{numbers_for, queues_for, frame_in, capacity_in}
use Rattle.cell_store.specs.Rings.{CellQueues}
use Rattle.cell_store.specs.declared.slot.Frame.{Frame}
use Rattle.cell_store.specs.declared.slot.Frame.TheVariants.{Numbers, Queues}
use Rattle.cell_store.specs.declared.slot.StoredCell.{StoredCell}
use Rattle.msg_core.specs.View.{most_members}

-- The shape of a cell, with its capacity where it has queues; and its capacity, 0 where it has none.
abbrev pub form_framed : Frame → ℕ → Shape × Option ℕ
form_framed (Numbers shape) capacity = (shape, None)
form_framed (Queues shape) capacity = (shape, Some capacity)

abbrev pub capacity_framed : Frame → ℕ → ℕ
capacity_framed (Numbers shape) capacity = 0
capacity_framed (Queues shape) capacity = capacity

module _ {R : Type 0} where
  abbrev pub framed : Frame → List ℕ → CellQueues R → KeptCell R
  framed (Numbers shape) ns qs = numbers shape ns
  framed (Queues shape) ns qs = queues shape qs.capacity qs.rows

  -- What a cell keeps: the numbers of its part of the block, or its queues.
  abbrev pub slot_kept : List ℕ → StoredCell R → KeptCell R
  slot_kept block s = framed s.frame (take s.count (drop s.at block)) s.rings

  abbrev pub slot_form : StoredCell R → Shape × Option ℕ
  slot_form s = form_framed s.frame s.rings.capacity

  abbrev pub slot_capacity : StoredCell R → ℕ
  slot_capacity s = capacity_framed s.frame s.rings.capacity

  -- A cell of numbers has no queue, and no more numbers than there are for `most` members; one of queues has no
  -- numbers, and room for the queues of `most` members.
  abbrev pub FitsFrame : ℕ → Frame → ℕ → CellQueues R → Type 0
  FitsFrame most (Numbers shape) count qs = (count ≤ size_of most shape) × (qs.rows ≡ [])
  FitsFrame most (Queues shape) count qs = (count ≡ 0) × (qs.most ≡ size_of most shape)

  -- The cells' parts lie one after the other between two places.
  abbrev pub AreLaid : ℕ → ℕ → ℕ → List (StoredCell R) → Type 0
  AreLaid most at end [] = at ≤ end
  AreLaid most at end (s ∷ rest) =
      (at ≤ s.at) × (FitsFrame most s.frame s.count s.rings × AreLaid most (s.at + s.count) end rest)

  abbrev pub frames_of : List (StoredCell R) → List Frame
  frames_of slots = map (λ s. s.frame) slots

  -- The cells lie in a block, whose memory holds the numbers of the most members.
  pub record AreSlots (n most capacity : ℕ) (block : List ℕ) (slots : List (StoredCell R)) : Type 0 where
    pub few : n ≤ most
    pub most_few : most ≤ most_members
    pub laid : AreLaid most 0 (length block) slots
    pub room : sum_by (numbers_for most) (frames_of slots) ≤ capacity

  -- A cell of a form at a place of the block, with empty queues.
  abbrev pub slot_first : ℕ → ℕ → ℕ → tree.Form → StoredCell R
  slot_first n most at form = record {
    frame = frame_in form;
    at = at;
    count = numbers_for n (frame_in form);
    rings = record {
      capacity = capacity_in form;
      most = queues_for most (frame_in form);
      rows = replicate (queues_for n (frame_in form)) [];
    };
  }

  -- A cell at another place, with the empty queues of n members.
  abbrev pub slot_again : ℕ → ℕ → StoredCell R → StoredCell R
  slot_again n at s = record s {
    at = at;
    count = numbers_for n s.frame;
    rings = record s.rings { rows = replicate (queues_for n s.frame) [] };
  }

  -- The rows of some cells.
  abbrev pub slot_rows : List (StoredCell R) → List R
  slot_rows slots = flat_map (λ s. rows_of s.rings.rows) slots

  -- Queue i of cell c has a row, and none before it has.
  abbrev pub HasFirstIn : ℕ → Option (StoredCell R) → Type 0
  HasFirstIn i None = ⊥
  HasFirstIn i (Some s) = (0 < length (slice_index_or s.rings.rows i [])) × (rows_of (take i s.rings.rows) ≡ [])

  abbrev pub HasFirst : List (StoredCell R) → ℕ → ℕ → Type 0
  HasFirst slots c i = (slot_rows (take c slots) ≡ []) × HasFirstIn i (slice_get slots c)

  -- Cells and their block before the first event.
  pub record AreFirst (me n ltime most : ℕ) (cells : List CellTree) (block : List ℕ) (slots : List (StoredCell R)) :
      Type 0
    where
      pub laid : AreLaid most 0 (length block) slots
      pub kept : map (slot_kept block) slots ≡ map (λ c. kept_first me n ltime c.form) cells
      pub frames : frames_of slots ≡ map (λ c. frame_in c.form) cells
      pub size : length block ≡ sum_by (numbers_for n) (frames_of slots)
