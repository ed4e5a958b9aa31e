-- A member's turns, line by line.
use Rattle.std.specs.Prelude.{◌≡◌, ℕ, List, ◌++◌}
use Rattle.chart_mean.specs.Place.{Line}
use Rattle.chart_mean.specs.Row.{turn_at, stays}
use Rattle.chart_mean.specs.declared.types.Turn.{Turn}

-- before a line a text lacks the stays from this turn on, and after the line those from the next turn on
abbrev pub TurnsTo : (member : ℕ) → Turn → Line → (old new : List ℕ) → Turn → Type 0
TurnsTo member turn line old new next =
    (end : ℕ) (turns : List Turn) → new ++ stays member end next turns ≡ old ++
    stays member end turn (turn_at member line ++ turns)
