-- The tree of the library layer `pt2pt`.
use Rattle.layer_ast.specs.Tree.{LayerTree}
use Rattle.file_library.specs.Reliable.{pt2pt}
use Rattle.layer_ast.specs.Reader.{layer_of}

abbrev pub layer : LayerTree
layer = layer_of pt2pt
