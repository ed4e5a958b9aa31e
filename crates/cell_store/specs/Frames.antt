-- What a cell of a form has for n members.
use Rattle.std.specs.Prelude.{ℕ, List, [], replicate}
use Rattle.layer_words.specs.declared.sorts.Shape.TheVariants.{One, Array}
use Rattle.layer_mean.specs.Tree as tree
use Rattle.layer_mean.specs.State.{size_of}
use Rattle.cell_store.specs.Fresh.{initial_value}
use Rattle.cell_store.specs.declared.slot.Frame.{Frame}
use Rattle.cell_store.specs.declared.slot.Frame.TheVariants.{Numbers, Queues}

-- How many numbers a cell of a frame has, and how many queues.
abbrev pub numbers_for : ℕ → Frame → ℕ
numbers_for n (Numbers shape) = size_of n shape
numbers_for n (Queues shape) = 0

abbrev pub queues_for : ℕ → Frame → ℕ
queues_for n (Numbers shape) = 0
queues_for n (Queues shape) = size_of n shape

-- The frame of a cell of a form, and the capacity of its queues.
abbrev pub frame_in : tree.Form → Frame
frame_in (tree.numbers shape initial) = Numbers shape
frame_in (tree.queue capacity items) = Queues One
frame_in (tree.queues capacity items) = Queues Array

abbrev pub capacity_in : tree.Form → ℕ
capacity_in (tree.numbers shape initial) = 0
capacity_in (tree.queue capacity items) = capacity
capacity_in (tree.queues capacity items) = capacity

-- The numbers that a cell of a form has at first.
abbrev pub first_numbers : ℕ → ℕ → ℕ → tree.Form → List ℕ
first_numbers me n ltime (tree.numbers shape initial) = replicate (size_of n shape) (initial_value initial me n ltime)
first_numbers me n ltime (tree.queue capacity items) = []
first_numbers me n ltime (tree.queues capacity items) = []
