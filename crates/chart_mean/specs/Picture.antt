-- The whole picture, and which texts have one.
use Rattle.std.specs.Prelude.{ℕ, ◌+◌, ◌-◌, max, List, [], ◌++◌, take, drop, Result, Ok, Err, codes}
use Rattle.std.specs.Prelude.{if◌then◌else◌}
use Rattle.std.specs.List.{concat}
use Rattle.std.specs.Fmt.{decimal}
use Rattle.audit_mean.specs.Text.{is_too_large, lines_of}
use Rattle.audit_mean.specs.Line.{ReportLine}
use Rattle.audit_mean.specs.Report.{running, report_from}
use Rattle.audit_mean.specs.Finding.{AuditFault, too_large, bad_line}
use Rattle.chart_mean.specs.Place.{Line, left, first_x, x_after, down, axis, lines_from, rows}
use Rattle.chart_mean.specs.Mark.{Manner, numbered, marks, are_told}
use Rattle.chart_mean.specs.Excerpt.{Excerpt}
use Rattle.chart_mean.specs.Row.{rows_below}
use Rattle.chart_mean.specs.Stub.{stubs}
use Rattle.chart_mean.specs.Style.{style}

-- the first line of a picture of this width and height, in pixels
abbrev pub opening : (width height : ℕ) → List ℕ
opening width height =
    codes "<svg xmlns='http://www.w3.org/2000/svg'" ++ numbered (codes "width") width ++
    numbered (codes "height") height
    ++ codes " viewBox='0 0 " ++ decimal width ++ codes " " ++ decimal height ++ codes "'>\n"

-- the axis, up to the right end
abbrev pub axis_line : (end : ℕ) → List ℕ
axis_line end =
    codes "<line class='axis'" ++ numbered (codes "x1") left ++ numbered (codes "y1") axis ++
    numbered (codes "x2") end ++ numbered (codes "y2") axis ++ codes "/>\n"

-- a picture is as wide as its legend at least
abbrev pub legend_width : ℕ
legend_width = 830

-- how marks are drawn: by whether the lines tell of receptions, and by what is asked
abbrev pub manner_of : Excerpt → List Line → Manner
manner_of excerpt lines = record { told = are_told lines; breach = excerpt.breach; hide = excerpt.hide }

-- the picture of these lines, up to the right end: what it begins with, the members' rows, the stubs of packets that
-- never arrived, a mark for each line, and its last line
abbrev pub picture : Excerpt → (end : ℕ) → List Line → List ℕ
picture excerpt end lines =
    opening (max legend_width (end + 100)) (down (rows lines)) ++ style ++ axis_line end
    ++ rows_below (rows lines) end lines
    ++ stubs (rows lines) lines
    ++ concat (marks (manner_of excerpt lines) [] lines)
    ++ codes "</svg>\n"

-- the lines of a report that are in an excerpt: up to the last, without those before the first
abbrev pub in_range : Excerpt → List (List ℕ) → List (List ℕ)
in_range excerpt texts = drop (excerpt.first - 1) (take excerpt.last texts)

-- the picture of those lines of a report that are in an excerpt
abbrev pub picture_of : Excerpt → List (List ℕ) → List ℕ
picture_of excerpt texts =
    picture excerpt (x_after excerpt.hide first_x texts) (lines_from excerpt.hide excerpt.first 0 first_x texts)

-- the picture of an excerpt of a report's lines
abbrev pub range_picture : Excerpt → List (List ℕ) → List ℕ
range_picture excerpt texts = picture_of excerpt (in_range excerpt texts)

-- the picture of a text that is a report; else its first line that is out of form
abbrev pub report_picture : Excerpt → List (List ℕ) → Result (List ReportLine) ℕ → Result (List ℕ) AuditFault
report_picture excerpt texts (Err line) = Err (bad_line line)
report_picture excerpt texts (Ok said) = Ok (range_picture excerpt texts)

-- the picture of an excerpt of a text, unless the text is too large or no report: exactly the texts that an audit takes
-- have a picture
abbrev pub chart_of : Excerpt → List ℕ → Result (List ℕ) AuditFault
chart_of excerpt text = if is_too_large text then Err too_large else report_picture excerpt (lines_of text)
    (report_from running 1 (lines_of text))
