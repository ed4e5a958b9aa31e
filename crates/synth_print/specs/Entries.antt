-- The lines of entries and plans, as they are put.
use Rattle.std.specs.Prelude.{ℕ, ◌+◌, Bool, true, false, List, [], ◌∷◌, ◌++◌, codes, drop, take, Option, Some, None}
use Rattle.std.specs.Fmt.{decimal}
use Rattle.std.specs.List.{flat_map, join_by}
use denote.Ref.{Bor}
use Rattle.bypass_mean.specs.Bypasses as mean
use Rattle.bypass_mean.specs.Lines.{ended_line, entry_lines, made_lines, packet_word, plan_line, plan_name}
use Rattle.bypass_mean.specs.Text.{layer_of}
use Rattle.layer_mean.specs.Tree.{LayerTree}
use Rattle.stack_mean.specs.Plan.{Plan}
use Rattle.synth_print.specs.Headers.{header_front}
use Rattle.synth_print.specs.Lines.{ended_lines}
use Rattle.synth_print.specs.declared.counts.Counts.{Counts}
use Rattle.synth_print.specs.declared.name.Name.{Name}
use Rattle.synth_print.specs.declared.name.Name.TheVariants as names
use Rattle.trace_core.specs.Bypasses.{first_tree, second_tree}
use Rattle.trace_core.specs.declared.bypass.Cases.{Cases}
use Rattle.trace_mean.specs.Fuse.{fields_of}

-- What an entry is called, and what the lines of a case of it begin with.
abbrev pub name_text : Name → List ℕ
name_text names.Cast = codes "cast"
name_text names.Send = codes "send"
name_text (names.Plan k) = plan_name k

abbrev pub heading : Name → Bool → List ℕ
heading name false = codes "entry " ++ name_text name
heading name true = codes "entry " ++ name_text name ++ codes " second"

-- What is made of an entry in its first case, and in its second where there is one.
abbrev pub if_made : (mean.Made → List (List ℕ)) → Option mean.Made → List (List ℕ)
if_made lines None = []
if_made lines (Some made) = ended_lines (lines made)

abbrev pub second_lines : List LayerTree → Name → Option mean.Made → List (List ℕ)
second_lines stack name second = if_made (made_lines stack (heading name true)) second

abbrev pub case_lines : List LayerTree → Name → mean.Made → Option mean.Made → List (List ℕ)
case_lines stack name first second = ended_lines (made_lines stack (heading name false) first) ++
    second_lines stack name second

-- A field of a plan.
abbrev pub field_text : Option ℕ → List ℕ
field_text None = codes "?"
field_text (Some n) = decimal n

abbrev pub more_planned : List (Option ℕ) → List ℕ
more_planned fields = flat_map (λ field. codes "," ++ field_text field) fields

-- How many fields the header of a place with a tag has; and the header with these.
abbrev pub count_of : List LayerTree → (place tag : ℕ) → ℕ
count_of stack place tag = fields_of (layer_of stack place) tag

abbrev pub planned_header : List LayerTree → (place tag : ℕ) → List (Option ℕ) → List ℕ
planned_header stack place tag fields = header_front stack place tag ++ join_by field_text (codes ",") fields ++
    codes ")"

-- The headers from a place on, each with `/` in front.
abbrev pub more_headers : List LayerTree → ℕ → List ℕ → List (Option ℕ) → List ℕ
more_headers stack place [] fields = []
more_headers stack place (tag ∷ tags) fields =
    codes "/" ++ planned_header stack place tag (take (count_of stack place tag) fields)
    ++ more_headers stack (place + 1) tags (drop (count_of stack place tag) fields)

-- All headers of a plan.
abbrev pub all_headers : List LayerTree → List ℕ → List (Option ℕ) → List ℕ
all_headers stack [] fields = []
all_headers stack (tag ∷ tags) fields =
    planned_header stack 0 tag (take (count_of stack 0 tag) fields) ++
    more_headers stack 1 tags (drop (count_of stack 0 tag) fields)

-- The line of a plan, and the lines of its entry after it.
abbrev pub plan_text : List LayerTree → ℕ → Plan → List ℕ
plan_text stack k plan =
    ended_line (plan_name k ++ codes " " ++ packet_word plan.kind ++ codes " " ++
    all_headers stack plan.tags plan.fields)

abbrev pub plan_turn : List LayerTree → mean.Bypasses → ℕ × Plan → List (List ℕ)
plan_turn stack b x = ended_lines (plan_line stack x.0 x.1 ∷ entry_lines stack b (x.0 + 2) (plan_name x.0))

-- The lines of an entry of which something is made.
abbrev pub found_lines : List LayerTree → Name → Option Cases → List (List ℕ)
found_lines stack name None = []
found_lines stack name (Some cases) = case_lines stack name (first_tree cases) (second_tree cases)

abbrev pub cases_shown : Option (Bor Cases) → Option Cases
cases_shown None = None
cases_shown (Some cases) = Some cases.now

-- The end of the text.
abbrev pub counted_line : Counts → List ℕ
counted_line c = codes "end " ++ decimal c.fused ++ codes " fused " ++ decimal c.absent ++ codes " absent"
