-- The tree of the library layer `sync`.
use Rattle.layer_ast.specs.Tree.{LayerTree}
use Rattle.file_library.specs.Membership.{sync}
use Rattle.layer_ast.specs.Reader.{layer_of}

abbrev pub layer : LayerTree
layer = layer_of sync
