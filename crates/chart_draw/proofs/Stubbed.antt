-- The stubs of packets, line by line, and the receptions that are kept.
use Rattle.std.proofs.Common.{◌≡◌, refl, sym, ap, ◌∙◌, ℕ, ◌+◌, ◌<◌, ◌≤◌, Bool, true, false, List, [], ◌∷◌, ◌++◌, length}
use Rattle.std.proofs.Common.{take, drop, get_or, append_assoc, append-nil, Option, Some}
use Rattle.std.specs.Prelude.{◌||◌, is_some, map, if◌then◌else◌}
use Rattle.std.proofs.lemmas.List.{take_more, map-append, drop_more, drop_all}
use Rattle.std.proofs.lemmas.List.Folds.{list_any-append}
use Rattle.msg_core.specs.declared.packet.View.{View}
use Rattle.chart_mean.specs.Place as spec
use Rattle.chart_mean.specs.Says.{give}
use Rattle.chart_mean.specs.Stub.{gives_at, stubs_at, stubs_from, view_after, was_given}
use Rattle.chart_draw.specs.Reading.{line_shown}
use Rattle.chart_draw.specs.Scenes.{NextReceived, Puts, Receives, same_reception}
use Rattle.chart_draw.specs.declared.lines.DrawnLine.{DrawnLine}
use Rattle.chart_draw.specs.declared.stubs.Reception.{Reception}

turned : (a b : Bool) → (b || a) ≡ (a || (b || false))
turned true true = refl
turned true false = refl
turned false true = refl
turned false false = refl

-- what is kept agrees with one more line
pub received_more : (old new : Reception → Option (Unit {0})) (lines : List DrawnLine) (i : ℕ) (d : DrawnLine) →
    i < length lines → Receives old (map line_shown (take i lines)) →
    NextReceived old new (line_shown (get_or lines i d)).says → Receives new (map line_shown (take (i + 1) lines))
received_more old new lines i d lt kept next = λ reception.
    let front = map line_shown (take i lines) in
    let line = line_shown (get_or lines i d) in
    let test : spec.Line → Bool = gives_at reception.number.now reception.member in
    next reception
    ∙ ap (λ b. test line || b) (kept reception)
    ∙ turned (was_given front reception.number.now reception.member) (test line)
    ∙ sym (ap (λ ls. was_given ls reception.number.now reception.member)
    (ap (map line_shown) (take_more lines i d lt) ∙ map-append line_shown (take i lines) (get_or lines i d ∷ []))
    ∙ list_any-append test front (line ∷ []))

is_put : (b : Bool) (o : Option (Unit {0})) → is_some (if b then Some tt else o) ≡ (b || is_some o)
is_put true o = refl
is_put false o = refl

-- what is kept after a line that tells of a reception
pub put_received : (old new : Reception → Option (Unit {0})) (given : Reception) → Puts old new given →
    NextReceived old new (give given.number.now given.member)
put_received old new given puts = λ reception.
    ap is_some (puts reception) ∙ is_put (same_reception given reception) (old reception)

-- the stubs of a sender's packets, over the lines from one on
abbrev pub stubs_left : List spec.Line → (rows sender : ℕ) → Option View → List DrawnLine → ℕ → List ℕ
stubs_left all rows sender known lines i = stubs_from all rows sender known (map line_shown (drop i lines))

-- one more line
pub stubs_step : (all : List spec.Line) (rows sender : ℕ) (known next : Option View) (lines : List DrawnLine) (i : ℕ)
    (d : DrawnLine) (text more whole : List ℕ) → i < length lines →
    more ≡ text ++ stubs_at all rows sender known (line_shown (get_or lines i d)).x (line_shown (get_or lines i d)).says
    →
    next ≡ view_after sender known (line_shown (get_or lines i d)).says →
    text ++ stubs_left all rows sender known lines i ≡ whole →
    more ++ stubs_left all rows sender next lines (i + 1) ≡ whole
stubs_step all rows sender known next lines i d text more whole lt drew is left =
    let line = line_shown (get_or lines i d) in
    let here = stubs_at all rows sender known line.x line.says in
    let rest = map line_shown (drop (i + 1) lines) in
    ap (λ m. m ++ stubs_from all rows sender next rest) drew
    ∙ ap (λ v. (text ++ here) ++ stubs_from all rows sender v rest) is
    ∙ append_assoc text here (stubs_from all rows sender (view_after sender known line.says) rest)
    ∙ sym (ap (λ ls. text ++ stubs_from all rows sender known (map line_shown ls)) (drop_more lines i d lt))
    ∙ left

-- after the last line
pub walked : (all : List spec.Line) (rows sender : ℕ) (known : Option View) (lines : List DrawnLine) (i : ℕ)
    (text whole : List ℕ) → length lines ≤ i → text ++ stubs_left all rows sender known lines i ≡ whole → text ≡ whole
walked all rows sender known lines i text whole le is =
    sym (append-nil text)
    ∙ sym (ap (λ ls. text ++ stubs_from all rows sender known (map line_shown ls)) (drop_all i lines le)) ∙ is
