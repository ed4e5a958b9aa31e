-- Known headers as lines name them.
use Rattle.std.specs.Prelude.{ℕ, List, [], ◌++◌, codes, map, Option}
use Rattle.std.specs.List.{flat_map, join_by}
use Rattle.std.specs.Option.{option_map_or}
use Rattle.bypass_mean.specs.Text.{Written, atom_text, layer_of, link_text}
use Rattle.layer_mean.specs.Headers.{header_of_tag}
use Rattle.layer_mean.specs.Tree.{HeaderTree, LayerTree}
use Rattle.trace_core.specs.declared.node.Atom.{Atom}
use Rattle.trace_core.specs.View.{atom_tree}
use Rattle.trace_mean.specs.Trace.{Link}

-- The name of a header, where there is one.
abbrev pub header_called : Option HeaderTree → List ℕ
header_called header = option_map_or (λ h. h.name) header []

-- LAYER.HEADER(
abbrev pub header_front : List LayerTree → (place tag : ℕ) → List ℕ
header_front stack place tag = (layer_of stack place).name ++ codes "." ++
    header_called (header_of_tag (layer_of stack place) tag) ++ codes "("

-- Parts with commas between.
abbrev pub comma_list : List (List ℕ) → List ℕ
comma_list parts = join_by (λ part. part) (codes ",") parts

-- The texts of atoms.
abbrev pub atom_texts : Written → List Atom → List (List ℕ)
atom_texts w atoms = map (atom_text w) (map atom_tree atoms)

-- Headers after others, each with `/` in front.
abbrev pub slashed_link : List LayerTree → Written → Link → List ℕ
slashed_link stack w l = codes "/" ++ link_text stack (atom_text w) l

abbrev pub more_links : List LayerTree → Written → List Link → List ℕ
more_links stack w ls = flat_map (slashed_link stack w) ls
