-- Which headers a layer has.
use Rattle.std.specs.Prelude.{ℕ, false, List, [], ◌∷◌, slice_get, codes, Option, Some, None}
use Rattle.msg_core.specs.declared.message.Header.{Header}
use Rattle.layer_mean.specs.Tree.{HeaderTree, LayerTree}

-- The header `none`, which each layer has beside those that it declares: no fields, and the layers above follow.
abbrev pub header_none : HeaderTree
header_none = record { name = codes "none"; fields = 0; ends = false }

-- The header that a tag of a layer stands for: `none` for 0, and the declared ones from 1 on.
abbrev pub header_of_tag : LayerTree → ℕ → Option HeaderTree
header_of_tag layer tag = slice_get (header_none ∷ layer.headers) tag

-- The tag of a popped header; 0, which is that of `none`, where there is no header.
abbrev pub said_tag : Option Header → ℕ
said_tag None = 0
said_tag (Some h) = h.tag

-- The fields of a popped header; none where there is no header.
abbrev pub said_fields : Option Header → List ℕ
said_fields None = []
said_fields (Some h) = h.fields
