-- How headers, messages and rows are written in a report.
use Rattle.std.specs.Prelude.{ℕ, ◌-◌, ◌==◌, false, if◌then◌else◌, List, [], ◌∷◌, ◌++◌, map, slice_index_or, codes}
use Rattle.std.specs.Prelude.{option_to_list}
use Rattle.std.specs.List.{join_by}
use Rattle.std.specs.Fmt.{decimal}
use Rattle.msg_core.specs.Chain.{Content}
use Rattle.msg_core.specs.declared.message.Header.{Header}
use Rattle.layer_mean.specs.declared.run.Row.{Row}
use Rattle.layer_mean.specs.Tree.{LayerTree, no_layer}
use Rattle.script_mean.specs.EventText.{hex_text}

-- The layer at a place, counted from 0.
abbrev pub layer_number : List LayerTree → ℕ → LayerTree
layer_number stack place = slice_index_or stack place no_layer

-- A header's name: tag 0 is `none`, and the declared headers are numbered from 1.
abbrev pub header_name : LayerTree → ℕ → List ℕ
header_name layer tag = if tag == 0 then codes "none"
    else (slice_index_or layer.headers (tag - 1) (record { name = []; fields = 0; ends = false })).name

-- A header: LAYER.HEADER(F,F).
abbrev pub header_text : List LayerTree → Header → List ℕ
header_text stack h =
    (layer_number stack h.layer).name ++ codes "." ++ header_name (layer_number stack h.layer) h.tag
    ++ codes "(" ++ join_by decimal (codes ",") h.fields ++ codes ")"

-- A chain of headers, lowest first, with `/` between, or `-` for none.
abbrev pub chain_text : List LayerTree → List Header → List ℕ
chain_text stack [] = codes "-"
chain_text stack (h ∷ hs) = join_by (header_text stack) (codes "/") (h ∷ hs)

-- A message in a row: CHAIN:HEX.
abbrev pub message_text : List LayerTree → Content → List ℕ
message_text stack m = chain_text stack m.headers ++ codes ":" ++ hex_text m.body

-- A row: its items in brackets, with commas between.
abbrev pub row_text : List LayerTree → Row → List ℕ
row_text stack row =
    codes "[" ++ join_by (λ item. item) (codes ",")
    (map decimal row.numbers ++ map (message_text stack) (option_to_list row.message))
    ++ codes "]"

-- Rows from the front, with a space between, or `-` for none.
abbrev pub rows_text : List LayerTree → List Row → List ℕ
rows_text stack [] = codes "-"
rows_text stack (r ∷ rows) = join_by (row_text stack) (codes " ") (r ∷ rows)
