-- The marks of lines, one by one.
use Rattle.std.proofs.Common.{◌≡◌, sym, ap, ◌∙◌, ℕ, ◌+◌, ◌<◌, List, [], ◌∷◌, ◌++◌, length, take, get_or, append_assoc}
use Rattle.std.proofs.Common.{append-nil, Bool, false, Option, Some, None}
use Rattle.std.specs.Prelude.{map, bytes_eq, if◌then◌else◌}
use Rattle.std.specs.Option.{option_map_or}
use Rattle.std.specs.List.{concat}
use Rattle.std.proofs.lemmas.List.{take_more, map-append}
use Rattle.std.proofs.lemmas.List.Folds.{concat-append}
use Rattle.std.proofs.lemmas.List.Sums.{fold-append}
use Rattle.chart_mean.specs.Mark.{Manner, bearer, bearer_next, bringer, key_of, mark, marks, sender_of}
use Rattle.chart_mean.specs.Place as spec
use Rattle.chart_mean.specs.declared.types.SentPacket.{SentPacket}
use Rattle.chart_draw.specs.Bearers.{Agrees, Bears, NextBearers}
use Rattle.chart_draw.specs.Reading.{line_shown}
use Rattle.chart_draw.specs.declared.lines.DrawnLine.{DrawnLine}
use Rattle.chart_draw.specs.declared.marks.Key.{Key}

-- the mark of a line after others
abbrev pub mark_after : Manner → List spec.Line → spec.Line → List ℕ
mark_after manner before line =
    mark manner (bringer manner.told (bearer manner.told before) line.says) line

one_more : (manner : Manner) (before lines : List spec.Line) (line : spec.Line) →
    marks manner before (lines ++ line ∷ []) ≡
    marks manner before lines ++ mark_after manner (before ++ lines) line ∷ []
one_more manner before [] line = ap (λ front. mark_after manner front line ∷ []) (sym (append-nil before))
one_more manner before (first ∷ lines) line =
    ap (λ more. mark_after manner before first ∷ more)
    (one_more manner (before ++ first ∷ []) lines line
    ∙ ap (λ front. marks manner (before ++ first ∷ []) lines ++ mark_after manner front line ∷ [])
    (append_assoc before (first ∷ []) lines))

shown_more : (lines : List DrawnLine) (i : ℕ) (d : DrawnLine) → i < length lines →
    map line_shown (take (i + 1) lines) ≡ map line_shown (take i lines) ++ line_shown (get_or lines i d) ∷ []
shown_more lines i d lt = ap (map line_shown) (take_more lines i d lt) ∙
    map-append line_shown (take i lines) (get_or lines i d ∷ [])

-- the text of the marks with one more
pub marks_more : (manner : Manner) (lines : List DrawnLine) (i : ℕ) (d : DrawnLine) → i < length lines →
    concat (marks manner [] (map line_shown (take (i + 1) lines)))
    ≡ concat (marks manner [] (map line_shown (take i lines))) ++
    mark_after manner (map line_shown (take i lines)) (line_shown (get_or lines i d))
marks_more manner lines i d lt =
    let front = map line_shown (take i lines) in
    let last = mark_after manner front (line_shown (get_or lines i d)) in
    ap (λ ls. concat (marks manner [] ls)) (shown_more lines i d lt)
    ∙ ap concat (one_more manner [] front (line_shown (get_or lines i d)))
    ∙ concat-append (marks manner [] front) (last ∷ [])
    ∙ ap (λ text. concat (marks manner [] front) ++ text) (append-nil last)

-- what is kept agrees with one more line
pub agrees_more : (told : Bool) (old new : Key → Option SentPacket) (lines : List DrawnLine) (i : ℕ) (d : DrawnLine) →
    i < length lines → Agrees told old (map line_shown (take i lines)) →
    NextBearers told old new (line_shown (get_or lines i d)) →
    Agrees told new (map line_shown (take (i + 1) lines))
agrees_more told old new lines i d lt agrees next = λ key.
    next key ∙ ap (λ sent. bearer_next told key.word.now sent (line_shown (get_or lines i d))) (agrees key)
    ∙ sym (ap (λ ls. bearer told ls key.word.now) (shown_more lines i d lt)
    ∙ fold-append (bearer_next told key.word.now) None (map line_shown (take i lines))
    (line_shown (get_or lines i d) ∷ []))

-- these marks are drawn, and what is kept are the bearers after their lines
pub record AreDrawn (manner : Manner) (lines : List spec.Line) (start text : List ℕ) (kept : Key → Option SentPacket)
    : Type 0 where
  pub drawn : text ≡ start ++ concat (marks manner [] lines)
  pub agrees : Agrees manner.told kept lines

-- both after one more line
pub drawn_more : (manner : Manner) (lines : List DrawnLine) (i : ℕ) (d : DrawnLine) (start text more : List ℕ)
    (sent : Option SentPacket) (old new : Key → Option SentPacket) → i < length lines →
    AreDrawn manner (map line_shown (take i lines)) start text old →
    ((before : List spec.Line) → Agrees manner.told old before →
    sent ≡ bringer manner.told (bearer manner.told before) (line_shown (get_or lines i d)).says) →
    more ≡ text ++ mark manner sent (line_shown (get_or lines i d)) →
    NextBearers manner.told old new (line_shown (get_or lines i d)) →
    AreDrawn manner (map line_shown (take (i + 1) lines)) start more new
drawn_more manner lines i d start text more sent old new lt are brings drew next =
    let front = map line_shown (take i lines) in
    let line = line_shown (get_or lines i d) in
    record {
      drawn = drew ∙ ap (λ s. text ++ mark manner s line) (brings front are.agrees)
          ∙ ap (λ t. t ++ mark_after manner front line) are.drawn
          ∙ append_assoc start (concat (marks manner [] front)) (mark_after manner front line)
          ∙ ap (λ t. start ++ t) (sym (marks_more manner lines i d lt));
      agrees = agrees_more manner.told old new lines i d lt are.agrees next;
    }

-- what is kept after a line that is found by a word, and after one that isn't
pub noted : (told : Bool) (line : spec.Line) (sent : SentPacket) (word : List ℕ) (old new : Key → Option SentPacket) →
    Some word ≡ key_of told line.says → sent ≡ record { x = line.x; member = sender_of line.says } →
    Bears old new sent word → NextBearers told old new line
noted told line sent word old new is sent_is bears = λ key.
    bears key ∙ ap (λ s. if bytes_eq word key.word.now then Some s else old key) sent_is
    ∙ ap (λ found. if option_map_or (λ k. bytes_eq k key.word.now) found false
    then Some (record { x = line.x; member = sender_of line.says }) else old key) is

pub not_noted : (told : Bool) (line : spec.Line) (old : Key → Option SentPacket) → None ≡ key_of told line.says →
    NextBearers told old old line
not_noted told line old is = λ key.
    ap (λ found. if option_map_or (λ k. bytes_eq k key.word.now) found false
    then Some (record { x = line.x; member = sender_of line.says }) else old key) is
