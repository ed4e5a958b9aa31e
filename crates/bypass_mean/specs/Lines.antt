-- How bypasses are written: with their guarded handlers, to be read; and with the notes of their traces, to be loaded
-- again.
use Rattle.std.specs.Prelude.{ℕ, suc, ◌+◌, true, false, List, [], ◌∷◌, ◌++◌, map, slice_get, codes, option_to_list}
use Rattle.std.specs.Fmt.{decimal}
use Rattle.std.specs.List.{flat_map, sum_by}
use Rattle.std.specs.Option.{option_flatten}
use Rattle.layer_mean.specs.Tree.{LayerTree}
use Rattle.layer_words.specs.declared.events.Kind.{Kind}
use Rattle.layer_words.specs.declared.events.Kind.TheVariants.{Cast}
use Rattle.stack_mean.specs.NoShape as no_shape
use Rattle.stack_mean.specs.NoShape.{NoShape}
use Rattle.stack_mean.specs.Plan.{Plan}
use Rattle.trace_mean.specs.Trace.{Atom, number, TraceNumber, Guarded}
use Rattle.trace_mean.specs.Fuse.{field_atoms, entry_chain}
use Rattle.bypass_mean.specs.Bypasses.{Made, fused, absent, Bypasses}
use Rattle.bypass_mean.specs.Text.{nothing_written, number_text, chain_text, operation_lines}

-- Entry values of a guard, the first of which has the number k: `let v.K = NUMBER`.
abbrev pub value_lines : List LayerTree → ℕ → List TraceNumber → List (List ℕ)
value_lines stack k [] = []
value_lines stack k (e ∷ es) =
    (codes "let v." ++ decimal k ++ codes " = " ++ number_text stack nothing_written e) ∷ value_lines stack (suc k) es

-- A conjunct of a guard: `when NUMBER`.
abbrev pub conjunct_line : List LayerTree → TraceNumber → List ℕ
conjunct_line stack e = codes "when " ++ number_text stack nothing_written e

-- An operation that is done where the guard holds: `do OPERATION`.
abbrev pub done_line : List ℕ → List ℕ
done_line line = codes "do " ++ line

-- A guarded handler: its entry values, its conjuncts, and what is done where these hold.
abbrev pub guarded_lines : List LayerTree → Guarded → List (List ℕ)
guarded_lines stack g =
    value_lines stack 0 g.values ++ map (conjunct_line stack) g.conjuncts ++
    map done_line (operation_lines false stack g.operations)

-- Why there is no trace.
abbrev pub reason_text : NoShape → List ℕ
reason_text (no_shape.loop place) = codes "loop " ++ decimal place
reason_text (no_shape.rare place) = codes "rare " ++ decimal place
reason_text (no_shape.stored place) = codes "stored " ++ decimal place
reason_text no_shape.long = codes "long"
reason_text no_shape.same = codes "same"

-- What is made of an entry in a case, after a heading.
abbrev pub made_lines : List LayerTree → List ℕ → Made → List (List ℕ)
made_lines stack heading (fused trace guarded) = (heading ++ codes " fused") ∷ guarded_lines stack guarded
made_lines stack heading (absent reason) = (heading ++ codes " absent " ++ reason_text reason) ∷ []

-- What is made of the n-th entry in its first case.
abbrev pub first_made : Bypasses → ℕ → List Made
first_made b n = option_to_list (slice_get b.made n)

-- What is made of the n-th entry in its second case, where it has one.
abbrev pub second_made : Bypasses → ℕ → List Made
second_made b n = option_to_list (option_flatten (slice_get b.second n))

-- The lines of the n-th entry, which has this name: of its first case, and of its second where it has one.
abbrev pub entry_lines : List LayerTree → Bypasses → ℕ → List ℕ → List (List ℕ)
entry_lines stack b n name = flat_map (made_lines stack (codes "entry " ++ name)) (first_made b n)
    ++ flat_map (made_lines stack (codes "entry " ++ name ++ codes " second")) (second_made b n)

-- A field of a plan: its constant, or `?` where it varies.
abbrev pub planned_field : Atom → List ℕ
planned_field (number n) = decimal n
planned_field _ = codes "?"

-- The word for the packets of a plan: `cast` for those of casts, and `send` for any other.
abbrev pub packet_word : Kind → List ℕ
packet_word Cast = codes "cast"
packet_word _ = codes "send"

-- What plan k and the entry of its packet are called: `plan K`.
abbrev pub plan_name : ℕ → List ℕ
plan_name k = codes "plan " ++ decimal k

-- The line of a plan: its name, whether its packet is of a cast or a send, and its headers with `?` for a field that
-- varies.
abbrev pub plan_line : List LayerTree → ℕ → Plan → List ℕ
plan_line stack k plan = plan_name k ++ codes " " ++ packet_word plan.kind ++ codes " "
    ++ chain_text stack planned_field (entry_chain 0 stack plan.tags (field_atoms 0 plan.fields))

-- The plans from number k on, each before its entry.
abbrev pub plans_lines : List LayerTree → Bypasses → ℕ → List Plan → List (List ℕ)
plans_lines stack b k [] = []
plans_lines stack b k (plan ∷ plans) =
    plan_line stack k plan ∷ entry_lines stack b (k + 2) (plan_name k) ++ plans_lines stack b (suc k) plans

-- One for a case of which a trace is made, and nothing for any other.
abbrev pub a_fused : Made → ℕ
a_fused (fused trace guarded) = 1
a_fused (absent reason) = 0

-- One for a case of which no trace can be made, and nothing for any other.
abbrev pub an_absent : Made → ℕ
an_absent (fused trace guarded) = 0
an_absent (absent reason) = 1

-- What is made of all entries in all their cases.
abbrev pub all_made : Bypasses → List Made
all_made b = b.made ++ flat_map option_to_list b.second

-- The last line: `end N fused M absent`, of N cases with a trace and M without.
abbrev pub end_line : Bypasses → List ℕ
end_line b = codes "end " ++ decimal (sum_by a_fused (all_made b)) ++ codes " fused " ++
    decimal (sum_by an_absent (all_made b))
    ++ codes " absent"

-- The text of bypasses.
abbrev pub bypass_lines : List LayerTree → List Plan → Bypasses → List (List ℕ)
bypass_lines stack plans b = entry_lines stack b 0 (codes "cast") ++ entry_lines stack b 1 (codes "send") ++
    plans_lines stack b 0 plans
    ++ end_line b ∷ []

-- A line with the line feed that ends it.
abbrev pub ended_line : List ℕ → List ℕ
ended_line line = line ++ codes "\n"

-- The text of bypasses as it is printed, each line with its line feed.
abbrev pub printed_lines : List LayerTree → List Plan → Bypasses → List (List ℕ)
printed_lines stack plans b = map ended_line (bypass_lines stack plans b)

-- A case in a file: this heading, and the trace's operations, each note on a line of its own; nothing where there is no
-- trace.
abbrev pub trace_lines : List LayerTree → List ℕ → Made → List (List ℕ)
trace_lines stack heading (fused trace guarded) = heading ∷ operation_lines true stack trace
trace_lines stack heading (absent reason) = []

-- The cases of the n-th entry in a file, which has this name there.
abbrev pub entry_traces : List LayerTree → Bypasses → ℕ → List ℕ → List (List ℕ)
entry_traces stack b n name = flat_map (trace_lines stack (codes "entry " ++ name ++ codes " case 1")) (first_made b n)
    ++ flat_map (trace_lines stack (codes "entry " ++ name ++ codes " case 2")) (second_made b n)

-- The cases of the packets of plans in a file, the first of which is plan k.
abbrev pub plans_traces : List LayerTree → Bypasses → ℕ → List Plan → List (List ℕ)
plans_traces stack b k [] = []
plans_traces stack b k (plan ∷ plans) = entry_traces stack b (k + 2) (plan_name k) ++ plans_traces stack b (suc k) plans

-- Bypasses as a file: the traces that were made, each with its notes, between `bypasses 1` and `end`.
abbrev pub file_lines : List LayerTree → List Plan → Bypasses → List (List ℕ)
file_lines stack plans b = codes "bypasses 1" ∷ entry_traces stack b 0 (codes "cast") ++
    entry_traces stack b 1 (codes "send")
    ++ plans_traces stack b 0 plans ++ codes "end" ∷ []
