-- The tree of the library layer `pt2ptw`.
use Rattle.layer_ast.specs.Tree.{LayerTree}
use Rattle.file_library.specs.Flow.{pt2ptw}
use Rattle.layer_ast.specs.Reader.{layer_of}

abbrev pub layer : LayerTree
layer = layer_of pt2ptw
