-- A file of no layers whose stack is the whole library.
use Rattle.std.specs.Prelude.{ℕ, List, [], ◌∷◌, ◌++◌, codes}
use Rattle.layer_ast.specs.Reader.{file_of}
use Rattle.layer_ast.specs.Tree.{FileTree}
use Rattle.library_rows.specs.Bottom as bottom
use Rattle.library_rows.specs.Mnak as mnak
use Rattle.library_rows.specs.Pt2pt as pt2pt
use Rattle.library_rows.specs.Pt2ptw as pt2ptw
use Rattle.library_rows.specs.Mflow as mflow
use Rattle.library_rows.specs.Frag as frag
use Rattle.library_rows.specs.Collect as collect
use Rattle.library_rows.specs.Stable as stable
use Rattle.library_rows.specs.Local as local
use Rattle.library_rows.specs.Total as total
use Rattle.library_rows.specs.Suspect as suspect
use Rattle.library_rows.specs.Elect as elect
use Rattle.library_rows.specs.Sync as sync
use Rattle.library_rows.specs.Intra as intra
use Rattle.library_rows.specs.Top as top

-- Its text.
abbrev pub text : List ℕ
text =
    codes "stack {\n"
    ++ codes "  bottom;\n"
    ++ codes "  mnak;\n"
    ++ codes "  pt2pt;\n"
    ++ codes "  pt2ptw;\n"
    ++ codes "  mflow;\n"
    ++ codes "  frag;\n"
    ++ codes "  collect;\n"
    ++ codes "  stable;\n"
    ++ codes "  local;\n"
    ++ codes "  total;\n"
    ++ codes "  suspect;\n"
    ++ codes "  elect;\n"
    ++ codes "  sync;\n"
    ++ codes "  intra;\n"
    ++ codes "  top;\n"
    ++ codes "}\n"

-- The file.
abbrev pub file : FileTree
file = record (file_of text) {
  library =
      bottom.layer
      ∷ mnak.layer
      ∷ pt2pt.layer
      ∷ pt2ptw.layer
      ∷ mflow.layer
      ∷ frag.layer
      ∷ collect.layer
      ∷ stable.layer
      ∷ local.layer
      ∷ total.layer
      ∷ suspect.layer
      ∷ elect.layer
      ∷ sync.layer
      ∷ intra.layer
      ∷ top.layer
      ∷ [];
}
