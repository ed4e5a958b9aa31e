-- What was laid out is read and laid out again.
use Rattle.std.proofs.Common.{◌≡◌, ℕ, List, map, ap, ◌∙◌, arith}
use Rattle.std.specs.List.{concat}
use Rattle.format_mean.specs.Pieces.{Piece, pieces, marks}
use Rattle.format_mean.specs.Layout.{beginning, lines_from, formatted}
use Rattle.format_mean.proofs.Whole.{all_pieces}
use Rattle.format_mean.proofs.Rest.{settled, read_back, laid_again, same_marks}

settles : (text : List ℕ) → pieces (formatted text) ≡ settled beginning (pieces text)
settles text = read_back (pieces text) (all_pieces 0 0 text (omega arith))

pub keeps_marks : (text : List ℕ) → marks (formatted text) ≡ marks text
keeps_marks text = ap (map (λ (p : Piece). p.spelling)) (settles text) ∙ same_marks beginning (pieces text)

pub is_stable : (text : List ℕ) → formatted (formatted text) ≡ formatted text
is_stable text =
    ap (λ ps. concat (lines_from beginning ps)) (settles text) ∙ ap concat (laid_again beginning (pieces text))
