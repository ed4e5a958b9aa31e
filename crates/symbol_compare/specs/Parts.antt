-- The parts of a trace's expressions, and the forms that are made of their values.
use Rattle.std.specs.Prelude.{ℕ, ◌<◌, List, [], ◌∷◌, slice_index}
use Rattle.std.specs.List.{AllByRecursion}
use Rattle.trace_core.specs.declared.node.Node.{Node}
use Rattle.trace_core.specs.declared.node.Node.TheVariants as nodes
use Rattle.symbol_compare.specs.declared.sort.Sort.{Sort}
use Rattle.symbol_compare.specs.declared.sort.Sort.TheVariants as sorts
use Rattle.symbol_compare.specs.declared.counts.Counts.{Counts}
use Rattle.symbol_compare.specs.declared.form.Seen.{Seen}
use Rattle.symbol_compare.specs.declared.form.ValueForm.{ValueForm}
use Rattle.symbol_compare.specs.declared.form.ValueForm.TheVariants as forms
use Rattle.symbol_compare.specs.declared.form.NumberForm.TheVariants as numbers
use Rattle.symbol_compare.specs.declared.form.MessageForm.TheVariants as messages
use Rattle.symbol_compare.specs.Counts.{count_in}

abbrev pub sort_of : Node → Sort
sort_of (nodes.Atom a) = sorts.Number a
sort_of (nodes.Core c) = sorts.Message c
sort_of _ = sorts.Parts

-- The nodes that a node names.
abbrev pub parts_of : Node → List ℕ
parts_of (nodes.Element place cell index) = index ∷ []
parts_of (nodes.Square place cell row column) = row ∷ column ∷ []
parts_of (nodes.Rows place cell index) = index ∷ []
parts_of (nodes.Item place cell index row k) = index ∷ row ∷ []
parts_of (nodes.Size m) = m ∷ []
parts_of (nodes.Binary operator left right) = left ∷ right ∷ []
parts_of (nodes.Apply function operand) = operand ∷ []
parts_of (nodes.Pick condition first second) = condition ∷ first ∷ second ∷ []
parts_of (nodes.Held place cell index row load) = index ∷ row ∷ []
parts_of (nodes.Cut m from n) = m ∷ from ∷ n ∷ []
parts_of (nodes.Tail m from) = m ∷ from ∷ []
parts_of (nodes.Join first second) = first ∷ second ∷ []
parts_of _ = []

abbrev pub AreBelow : ℕ → List ℕ → Type 0
AreBelow n ks = AllByRecursion (λ k. k < n) ks

abbrev pub seen_in : Counts → ℕ → ℕ → Seen
seen_in counts p c = record { place = p; cell = c; writes = count_in counts p c }

-- The form of a node whose parts have these values, with its cell as `seen` has it.
abbrev pub form_of : (ℕ → ℕ → Seen) → Node → List ℕ → ValueForm
form_of seen nodes.Me vs = forms.Number numbers.Me
form_of seen nodes.Count vs = forms.Number numbers.Count
form_of seen nodes.Ltime vs = forms.Number numbers.Ltime
form_of seen (nodes.Element p c i) vs = forms.Number (numbers.Element (seen p c) (slice_index vs 0))
form_of seen (nodes.Square p c i j) vs = forms.Number (numbers.Square (seen p c) (slice_index vs 0) (slice_index vs 1))
form_of seen (nodes.Rows p c i) vs = forms.Number (numbers.Rows (seen p c) (slice_index vs 0))
form_of seen (nodes.Item p c i j k) vs = forms.Number (numbers.Item (seen p c) (slice_index vs 0) (slice_index vs 1) k)
form_of seen (nodes.Size m) vs = forms.Number (numbers.Size (slice_index vs 0))
form_of seen (nodes.Binary o i j) vs = forms.Number (numbers.Binary o (slice_index vs 0) (slice_index vs 1))
form_of seen (nodes.Apply f i) vs = forms.Number (numbers.Apply f (slice_index vs 0))
form_of seen (nodes.Pick i j k) vs =
    forms.Number (numbers.Pick (slice_index vs 0) (slice_index vs 1) (slice_index vs 2))
form_of seen (nodes.Held p c i j load) vs =
    forms.Message (messages.Held (seen p c) (slice_index vs 0) (slice_index vs 1) load)
form_of seen (nodes.Cut m i j) vs =
    forms.Message (messages.Cut (slice_index vs 0) (slice_index vs 1) (slice_index vs 2))
form_of seen (nodes.Tail m i) vs = forms.Message (messages.Tail (slice_index vs 0) (slice_index vs 1))
form_of seen (nodes.Join m n) vs = forms.Message (messages.Join (slice_index vs 0) (slice_index vs 1))
form_of seen _ vs = forms.Number (numbers.Number 0)
