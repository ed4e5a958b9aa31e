-- What is kept at first.
use Rattle.std.specs.Prelude.{◌≡◌, ℕ, [], ◌∷◌, map, replicate, Option, Some, None}
use Rattle.layer_words.specs.declared.sorts.Shape.{Shape}
use Rattle.layer_words.specs.declared.sorts.Shape.TheVariants.{One, Array}
use Rattle.layer_mean.specs.Tree as tree
use Rattle.layer_mean.specs.Tree.{ExpressionTree, LayerTree}
use Rattle.layer_mean.specs.State.{size_of}
use Rattle.layer_mean.specs.Value.{val}
use Rattle.layer_mean.specs.Visit.{bare_state, no_scope}
use Rattle.cell_store.specs.Kept.{KeptCell, numbers, queues, Kept}

-- The value of an initial expression at the own rank, the number of members and the view's ltime.
abbrev pub initial_value : ExpressionTree → ℕ → ℕ → ℕ → ℕ
initial_value e me n ltime = val e (bare_state me n ltime) no_scope

module _ {R : Type 0} where
  -- What a cell of a form keeps before the first event: its initial value, or no row.
  abbrev pub kept_first : ℕ → ℕ → ℕ → tree.Form → KeptCell R
  kept_first me n ltime (tree.numbers shape initial) =
      numbers shape (replicate (size_of n shape) (initial_value initial me n ltime))
  kept_first me n ltime (tree.queue capacity items) = queues One capacity ([] ∷ [])
  kept_first me n ltime (tree.queues capacity items) = queues Array capacity (replicate n [])

  -- What the layer keeps before the first event at the member of rank `me` of n, with room for `most` members.
  abbrev pub kept_fresh : LayerTree → ℕ → ℕ → ℕ → ℕ → Kept R
  kept_fresh layer me n ltime most = record {
    me = me;
    count = n;
    ltime = ltime;
    most = most;
    cells = map (λ c. kept_first me n ltime c.form) layer.cells;
  }

  -- The shape of a cell, and the capacity where it has queues.
  abbrev pub kept_form : KeptCell R → Shape × Option ℕ
  kept_form (numbers shape ns) = (shape, None)
  kept_form (queues shape capacity qs) = (shape, Some capacity)

abbrev pub tree_form : tree.Form → Shape × Option ℕ
tree_form (tree.numbers shape initial) = (shape, None)
tree_form (tree.queue capacity items) = (One, Some capacity)
tree_form (tree.queues capacity items) = (Array, Some capacity)

-- The cells that are kept are those of a layer.
abbrev pub IsFor : {R : Type 0} → LayerTree → Kept R → Type 0
IsFor layer k = map kept_form k.cells ≡ map (λ c. tree_form c.form) layer.cells
