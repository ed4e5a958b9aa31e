-- The line that is being laid out, as the definitions see it.
use Rattle.std.specs.Prelude.{ℕ, List}
use Rattle.format_mean.specs.Layout.{Begun}
use Rattle.format_mean.specs.Pieces.{Piece}
use Rattle.format_layout.specs.declared.line.LineCursor.{LineCursor}

abbrev pub begun_of : LineCursor → Begun
begun_of line = record { stand = line.stand; line = line.bytes.items }

abbrev pub piece_of : ℕ → List ℕ → Piece
piece_of feeds spelling = record { feeds = feeds; spelling = spelling }
