-- The steps of loops over the bytes of a text, the lines of a report and the lines of a picture.
use Rattle.std.proofs.Common.{◌≡◌, refl, sym, ap, ◌∙◌, ℕ, ◌+◌, ◌-◌, ◌*◌, ◌<◌, ◌≤◌, List, [], ◌∷◌, ◌++◌, length}
use Rattle.std.proofs.Common.{take}
use Rattle.std.proofs.Common.{drop, get_or, append_assoc, append-nil, arith, Bool, true, false}
use Rattle.std.specs.Prelude.{◌==◌, ◌||◌, map, min, max, slice_index, if◌then◌else◌}
use Rattle.std.specs.List.{flat_map, list_any}
use Rattle.std.proofs.lemmas.List.{take_more, map-append, length-take, take_min, take_rest, drop_min}
use Rattle.std.proofs.lemmas.List.{take-map, drop-map, drop_more, drop_all}
use Rattle.std.proofs.lemmas.List.Sums.{count_by-le-length, fold-append}
use Rattle.std.proofs.lemmas.List.Splits.{length-slice_split}
use Rattle.std.proofs.lemmas.Grind.{flat_map-append}
use Rattle.audit_mean.specs.Text.{lines_of, unended}
use Rattle.chart_mean.specs.Escape.{escaped, escaped_byte}
use Rattle.chart_mean.specs.Place as spec
use Rattle.chart_mean.specs.Label.{header_text}
use Rattle.chart_mean.specs.Mark.{are_told}
use Rattle.chart_mean.specs.Says.{aside, is_reception, says_of}
use Rattle.chart_mean.specs.Place.{first_says, first_x, line_at, lines_from, rows, rows_to, width_of, x_after, x_next}
use Rattle.chart_draw.specs.Reading.{line_shown, says_shown, text_shown, texts_shown}
use Rattle.chart_draw.specs.declared.lines.DrawnLine.{DrawnLine}
use Rattle.chart_draw.specs.declared.says.Says.{Says}
use denote.Ref.{Bor}

-- one more byte
pub escaped_more : (text : List ℕ) (i d : ℕ) → i < length text → escaped (take (i + 1) text) ≡ escaped (take i text) ++
    escaped_byte (get_or text i d)
escaped_more text i d lt =
    ap escaped (take_more text i d lt) ∙ flat_map-append escaped_byte (take i text) (get_or text i d ∷ [])
    ∙ ap (λ last. escaped (take i text) ++ last) (append-nil (escaped_byte (get_or text i d)))

-- one more header: what was put of those before it, and what is to be put of it and those after it
pub header_more : (hide text longer header : List ℕ) (following : List (List ℕ)) (whole : List ℕ) →
    longer ≡ text ++ header_text hide header → text ++ flat_map (header_text hide) (header ∷ following) ≡ whole →
    longer ++ flat_map (header_text hide) following ≡ whole
header_more hide text longer header following whole put is =
    ap (λ t. t ++ flat_map (header_text hide) following) put
    ∙ append_assoc text (header_text hide header) (flat_map (header_text hide) following) ∙ is

-- one more of the lines of a text
pub line_more : (front : List (Bor (List ℕ))) (line : Bor (List ℕ)) (following whole : List (List ℕ)) →
    texts_shown front ++ line.now ∷ following ≡ whole →
    texts_shown (front ++ line ∷ []) ++ following ≡ whole
line_more front line following whole is =
    ap (λ shown. shown ++ following) (map-append text_shown front (line ∷ [])) ∙
    append_assoc (texts_shown front) (line.now ∷ []) following ∙ is

short : (last : Bool) (text : List ℕ) → length (if last then take (length text - 1) text else text) ≤ length text
short true text = omega (arith, length-take (length text - 1) text)
short false text = omega arith

-- a text has at most one line more than bytes
pub lines_bound : (text : List ℕ) → length (lines_of text) ≤ length text + 1
lines_bound [] = omega arith
lines_bound (byte ∷ rest) =
    let text : List ℕ = byte ∷ rest in
    let parts = length-slice_split (λ b. b == 10) (unended text) in
    let feeds = count_by-le-length (λ b. b == 10) (unended text) in
    let bytes = short (slice_index text (length text - 1) == 10) text in
    omega arith

-- at first none is read
pub begins : (text : List ℕ) (front : List (Bor (List ℕ))) (left : List (List ℕ)) → front ≡ [] → left ≡ lines_of text →
    length text ≤ 67108864 →
    (texts_shown front ++ left ≡ lines_of text) × (length front + length left ≤ 67108865)
begins text front left none all small = let bound = lines_bound text in rw (none, all) (refl, omega arith)

-- those in a range
pub ranged : (first last : ℕ) (texts : List (Bor (List ℕ))) (end start : ℕ) → end ≡ min last (length texts) →
    start ≡ min (first - 1) (length (take end texts)) →
    texts_shown (take (length (take end texts) - start) (drop start (take end texts))) ≡
    drop (first - 1) (take last (texts_shown texts))
ranged first last texts end start is starts =
    let front : take end texts ≡ take last texts = ap (λ n. take n texts) is ∙ take_min last texts in
    ap texts_shown (take_rest (take end texts) start)
    ∙ ap (λ n. texts_shown (drop n (take end texts))) starts
    ∙ ap texts_shown (drop_min (first - 1) (take end texts))
    ∙ ap (λ ts. texts_shown (drop (first - 1) ts)) front
    ∙ sym (drop-map text_shown (first - 1) (take last texts))
    ∙ ap (drop (first - 1)) (sym (take-map text_shown last texts))

-- these lines are those of the first texts; the lines of the others follow from this place on
pub record ArePlaced (hide : List ℕ) (first i : ℕ) (texts : List (Bor (List ℕ))) (lines : List DrawnLine) (end : ℕ)
    : Type 0 where
  pub shown : map line_shown lines ++ lines_from hide first i end (texts_shown (drop i texts)) ≡
      lines_from hide first 0 first_x (texts_shown texts)
  pub next : x_after hide end (texts_shown (drop i texts)) ≡ x_after hide first_x (texts_shown texts)
  pub inside : end ≤ 52 + 378 * i

-- at first
pub placed_first : (hide : List ℕ) (first : ℕ) (texts : List (Bor (List ℕ))) (lines : List DrawnLine) → lines ≡ [] →
    ArePlaced hide first 0 texts lines first_x
placed_first hide first texts lines none = record {
  shown = ap (λ ls. map line_shown ls ++ lines_from hide first 0 first_x (texts_shown texts)) none;
  next = refl;
  inside = omega arith;
}

-- one more line of a picture
pub placed_on : (hide : List ℕ) (first i : ℕ) (texts : List (Bor (List ℕ))) (d : Bor (List ℕ))
    (lines more : List DrawnLine) (line : DrawnLine) (next : Says) (x width : ℕ) →
    i < length texts → ArePlaced hide first i texts lines x → more ≡ lines ++ line ∷ [] →
    says_shown next ≡ first_says (texts_shown (drop (i + 1) texts)) →
    line_shown line ≡ line_at first i x (get_or texts i d).now (says_shown next) →
    width ≡ width_of hide (says_shown line.says) (says_shown next) → width ≤ 378 →
    ArePlaced hide first (i + 1) texts more (x + width)
placed_on hide first i texts d lines more line next x width lt are is follows shown wide few =
    let text = (get_or texts i d).now in
    let rest = texts_shown (drop (i + 1) texts) in
    let here : texts_shown (drop i texts) ≡ text ∷ rest = ap texts_shown (drop_more texts i d lt) in
    let there : x + width ≡ x_next hide x text (first_says rest) =
    ap (λ w. x + w) wide ∙ ap (λ said. x + width_of hide said.says (says_shown next)) shown
    ∙ ap (x_next hide x text) follows in
    let placed : line_shown line ≡ line_at first i x text (first_says rest) =
    shown ∙ ap (line_at first i x text) follows in
    let inside = are.inside in
    record {
      shown = ap (λ ls. map line_shown ls ++ lines_from hide first (i + 1) (x + width) rest) is
          ∙ ap (λ ls. ls ++ lines_from hide first (i + 1) (x + width) rest) (map-append line_shown lines (line ∷ []))
          ∙ append_assoc (map line_shown lines) (line_shown line ∷ []) (lines_from hide first (i + 1) (x + width) rest)
          ∙ ap (λ l. map line_shown lines ++ l ∷ lines_from hide first (i + 1) (x + width) rest) placed
          ∙ ap (λ at. map line_shown lines ++ line_at first i x text (first_says rest) ∷
          lines_from hide first (i + 1) at rest) there
          ∙ sym (ap (λ ts. map line_shown lines ++ lines_from hide first i x ts) here)
          ∙ are.shown;
      next = ap (λ at. x_after hide at rest) there ∙ sym (ap (x_after hide x) here) ∙ are.next;
      inside = omega (arith, inside, few);
    }

-- after the last line
pub placed_all : (hide : List ℕ) (first i : ℕ) (texts : List (Bor (List ℕ))) (lines : List DrawnLine) (end : ℕ) →
    length texts ≤ i → ArePlaced hide first i texts lines end →
    (map line_shown lines ≡ lines_from hide first 0 first_x (texts_shown texts))
    × (end ≡ x_after hide first_x (texts_shown texts))
placed_all hide first i texts lines end le are =
    let none : texts_shown (drop i texts) ≡ [] = ap texts_shown (drop_all i texts le) in (
      sym (ap (λ ts. map line_shown lines ++ lines_from hide first i end ts) none
          ∙ append-nil (map line_shown lines)) ∙ are.shown,
      sym (ap (x_after hide end) none) ∙ are.next,
    )

-- what the line after one says, and where there is none
pub says_next : (texts : List (Bor (List ℕ))) (k : ℕ) (d : Bor (List ℕ)) → k < length texts →
    says_of (get_or texts k d).now ≡ first_says (texts_shown (drop k texts))
says_next texts k d lt = sym (ap (λ ts. first_says (texts_shown ts)) (drop_more texts k d lt))

pub says_last : (texts : List (Bor (List ℕ))) (k : ℕ) → length texts ≤ k →
    aside ≡ first_says (texts_shown (drop k texts))
says_last texts k le = sym (ap (λ ts. first_says (texts_shown ts)) (drop_all k texts le))

-- the beginning of a body
pub begun : (most : ℕ) (body : List ℕ) (end : ℕ) → end ≡ min most (length body) → take end body ≡ take most body
begun most body end is = ap (λ n. take n body) is ∙ take_min most body

-- the rows of one more line
pub rows_more : (lines : List DrawnLine) (i : ℕ) (d : DrawnLine) → i < length lines →
    rows (map line_shown (take (i + 1) lines)) ≡
    max (rows (map line_shown (take i lines))) (rows_to (line_shown (get_or lines i d)).says)
rows_more lines i d lt =
    ap (λ ls. rows (map line_shown ls)) (take_more lines i d lt)
    ∙ ap rows (map-append line_shown (take i lines) (get_or lines i d ∷ []))
    ∙ fold-append (λ (most : ℕ) (line : spec.Line). max most (rows_to line.says)) 0 (map line_shown (take i lines))
    (line_shown (get_or lines i d) ∷ [])

-- whether lines tell of receptions, by what each says
pub told_shown : (lines : List DrawnLine) →
    list_any (λ line. is_reception (says_shown line.says)) lines ≡ are_told (map line_shown lines)
told_shown [] = refl
told_shown (line ∷ lines) = ap (λ b. is_reception (says_shown line.says) || b) (told_shown lines)
