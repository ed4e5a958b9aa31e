-- The lines of cells, by queue.
use Rattle.std.specs.Prelude.{ℕ, Bool, true, false, List, [], ◌∷◌, None}
use Rattle.layer_mean.specs.Tree.{LayerTree}
use Rattle.layer_mean.specs.declared.run.Row.{Row}
use Rattle.std.specs.List.{enumerate_from, flat_map}
use Rattle.layer_mean.specs.State.{Contents, State, numbers_in, queues_in}
use Rattle.run_mean.specs.Lines.{cell_line, numbers_text, queue_name}
use Rattle.run_mean.specs.Member.{Member}
use Rattle.run_mean.specs.Report.{cell_lines}
use Rattle.group_feed.specs.Showing.{state_shown}
use Rattle.run_mean.specs.Text.{rows_text}
use Rattle.report_lines.specs.Cells.{index_text}

-- The name of a queue: that of its cell, or CELL[I] in an array.
abbrev pub queue_named : (is_array : Bool) → List ℕ → ℕ → List ℕ
queue_named false name i = name
queue_named true name i = queue_name name i

-- What stands after the name of a queue's cell.
abbrev pub index_if : (is_array : Bool) → ℕ → List ℕ
index_if false i = []
index_if true i = index_text i

-- The line of a queue of a cell.
abbrev pub queue_line : List LayerTree → (id place : ℕ) → LayerTree → (is_array : Bool) → (name : List ℕ) →
    ℕ × List Row → List ℕ
queue_line stack id place layer is_array name q = cell_line id place layer (queue_named is_array name q.0)
    (rows_text stack q.1)

-- What is read where there is no row.
abbrev pub no_row : Row
no_row = record { numbers = []; message = None }

abbrev pub one_queue : List LayerTree → (id place : ℕ) → LayerTree → (is_array : Bool) → (name : List ℕ) →
    ℕ × List Row → List (List ℕ)
one_queue stack id place layer is_array name q = queue_line stack id place layer is_array name q ∷ []

-- The lines of a cell of numbers, and of one of queues, by what it holds.
abbrev pub numbers_lines : (id place : ℕ) → LayerTree → (name : List ℕ) → Contents → List (List ℕ)
numbers_lines id place layer name held = cell_line id place layer name (numbers_text (numbers_in held)) ∷ []

abbrev pub queue_lines : List LayerTree → (id place : ℕ) → LayerTree → (is_array : Bool) → (name : List ℕ) → Contents →
    List (List ℕ)
queue_lines stack id place layer is_array name held =
    flat_map (one_queue stack id place layer is_array name) (enumerate_from 0 (queues_in held))

-- The lines of a layer's cells in a state, and those of all layers of a member.
abbrev pub cells_shown : List LayerTree → (id place : ℕ) → LayerTree → State → List (List ℕ)
cells_shown stack id place layer s = flat_map (cell_lines stack id place layer s) (enumerate_from 0 layer.cells)

abbrev pub layer_shown : List LayerTree → (id : ℕ) → Member → ℕ × LayerTree → List (List ℕ)
layer_shown stack id m l = cells_shown stack id l.0 l.1 (state_shown m l.0)

abbrev pub layers_shown : List LayerTree → (id : ℕ) → Member → List (List ℕ)
layers_shown stack id m = flat_map (layer_shown stack id m) (enumerate_from 0 stack)
