-- The front of the line of a cell.
use Rattle.std.specs.Prelude.{ℕ, List, ◌++◌, codes}
use Rattle.std.specs.Fmt.{decimal}

-- `cell M P LAYER.CELL`
abbrev pub cell_front : ℕ → ℕ → (layer name : List ℕ) → List ℕ
cell_front id place layer name = codes "cell " ++ decimal id ++ codes " " ++ decimal place ++ codes " " ++ layer ++
    codes "." ++ name

-- What the name of queue i of an array has after that of its cell.
abbrev pub index_text : ℕ → List ℕ
index_text i = codes "[" ++ decimal i ++ codes "]"
