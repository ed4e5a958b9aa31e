-- What the parser answers.
use Rattle.std.specs.Prelude.{ℕ, ◌<◌, ◌≤◌, List, length, Result, Ok, Err, ◌⊎◌}
use Rattle.file_mean.specs.Library.{IsFile}
use Rattle.layer_ast.specs.declared.syntax.File.{File}
use Rattle.layer_ast.specs.Spells.{longest_file}
use Rattle.layer_ast.specs.Stops.{StopsBad, StopsInside, StopsAtEnd}
use Rattle.layer_ast.specs.View.{file_tree}
use Rattle.file_parse.specs.declared.error.ParseError.{ParseError}
use Rattle.file_parse.specs.declared.error.ParseError.TheVariants.{TooLarge, BadToken, Unexpected, Memory}

-- what the parser answers: the file that a text is, with the layers that the library brings it; that the text is larger
-- than a file may be; where it stops being the beginning of a file, at a bad token, at a token that no file goes on
-- with or at its end; or that there was no memory
abbrev pub Answers : List ℕ → Result File ParseError → Type 0
Answers text (Ok f) = (length text ≤ longest_file) × IsFile text (file_tree f)
Answers text (Err TooLarge) = longest_file < length text
Answers text (Err (BadToken at)) = (length text ≤ longest_file) × StopsBad text at
Answers text (Err (Unexpected at)) = (length text ≤ longest_file) × (StopsInside text at ⊎ StopsAtEnd text at)
Answers text (Err Memory) = length text ≤ longest_file
