-- What declarations declare.
use Rattle.std.specs.Prelude.{Bool}
use Rattle.layer_ast.specs.Tree.{DeclarationTree}
use Rattle.fault_mean.specs.Declared.{is_cell, is_header, is_param}
use Rattle.file_names.specs.declared.layer.Form.{Form}
use Rattle.file_names.specs.declared.layer.Form.TheVariants.{Param, Cell, Header}

-- Whether a declaration is of a form.
abbrev pub test_of : Form → DeclarationTree → Bool
test_of Param = is_param
test_of Cell = is_cell
test_of Header = is_header
