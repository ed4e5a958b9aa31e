-- The tree of the library layer `local`.
use Rattle.layer_ast.specs.Tree.{LayerTree}
use Rattle.file_library.specs.Order.{local}
use Rattle.layer_ast.specs.Reader.{layer_of}

abbrev pub layer : LayerTree
layer = layer_of local
