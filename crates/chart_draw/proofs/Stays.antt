-- A member's stays, line by line.
use Rattle.std.proofs.Common.{◌≡◌, sym, ap, ◌∙◌, ℕ, suc, arith, ◌+◌, ◌<◌, ◌≤◌, List, ◌++◌, length, drop, get_or}
use Rattle.std.proofs.Common.{append_assoc, Some, None}
use Rattle.std.specs.Prelude.{map}
use Rattle.std.proofs.lemmas.List.{drop_more, drop_all}
use Rattle.chart_mean.specs.Place as spec
use Rattle.msg_core.specs.declared.packet.View.{View}
use Rattle.chart_mean.specs.Row.{members_below, ranked_in, stay_of, stay_turn, turn_at, turns_at, stay_band, stays}
use Rattle.chart_mean.specs.declared.types.Stay.{Stay}
use Rattle.chart_mean.specs.declared.types.Turn.{Turn}
use Rattle.chart_draw.specs.Reading.{line_shown}
use Rattle.chart_draw.specs.Turns.{TurnsTo}
use Rattle.chart_draw.specs.declared.lines.DrawnLine.{DrawnLine}

-- a member's stays from a turn on, over the lines from one on
abbrev pub stays_from : (member end : ℕ) → Turn → List DrawnLine → ℕ → List ℕ
stays_from member end turn lines i = stays member end turn (turns_at member (map line_shown (drop i lines)))

at_line : (member end : ℕ) (turn : Turn) (lines : List DrawnLine) (i : ℕ) (d : DrawnLine) → i < length lines →
    stays_from member end turn lines i
    ≡ stays member end turn
    (turn_at member (line_shown (get_or lines i d)) ++ turns_at member (map line_shown (drop (i + 1) lines)))
at_line member end turn lines i d lt = ap (λ ls. stays member end turn (turns_at member (map line_shown ls)))
    (drop_more lines i d lt)

-- one more line
pub stays_step : (member end : ℕ) (lines : List DrawnLine) (i : ℕ) (d : DrawnLine) (start text more : List ℕ)
    (turn next : Turn) →
    i < length lines →
    TurnsTo member turn (line_shown (get_or lines i d)) text more next → text ++ stays_from member end turn lines i ≡
    start →
    more ++ stays_from member end next lines (i + 1) ≡ start
stays_step member end lines i d start text more turn next lt to is =
    to end (turns_at member (map line_shown (drop (i + 1) lines)))
    ∙ ap (λ rest. text ++ rest) (sym (at_line member end turn lines i d lt))
    ∙ is

-- a line that ends no stay, and one that does
pub stands : (member : ℕ) (turn : Turn) (line : spec.Line) (text : List ℕ) → None ≡ stay_of member line.says →
    TurnsTo member turn line text text turn
stands member turn line text is = λ end turns. ap (λ s. text ++ stays member end turn (stay_turn line.x s ++ turns)) is

pub turns : (member : ℕ) (turn : Turn) (stay : Stay) (line : spec.Line) (text more : List ℕ) →
    Some stay ≡ stay_of member line.says →
    more ≡ text ++ stay_band member turn.x line.x turn.stay →
    TurnsTo member turn line text more (record { x = line.x; stay = stay })
turns member turn stay line text more is drew = λ end rest.
    ap (λ m. m ++ stays member end (record { x = line.x; stay = stay }) rest) drew
    ∙ append_assoc text (stay_band member turn.x line.x turn.stay)
    (stays member end (record { x = line.x; stay = stay }) rest)
    ∙ ap (λ s. text ++ stays member end turn (stay_turn line.x s ++ rest)) is

-- after the last line
pub stays_last : (member end : ℕ) (turn : Turn) (lines : List DrawnLine) (i : ℕ) → length lines ≤ i →
    stays_from member end turn lines i ≡ stay_band member turn.x end turn.stay
stays_last member end turn lines i le = ap (λ ls. stays member end turn (turns_at member (map line_shown ls)))
    (drop_all i lines le)

-- one more member of a view
pub members_more : (view : View) (id : ℕ) (start text longer : List ℕ) → text ≡ start ++ members_below view id →
    longer ≡ text ++ ranked_in view id → longer ≡ start ++ members_below view (id + 1)
members_more view id start text longer is put =
    let at : id + 1 ≡ suc id = omega arith in
    put ∙ ap (λ t. t ++ ranked_in view id) is ∙ append_assoc start (members_below view id) (ranked_in view id)
    ∙ sym (ap (λ n. start ++ members_below view n) at)
