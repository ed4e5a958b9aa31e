-- Bypasses of small stacks, written out.
use Rattle.std.specs.Prelude.{◌≡◌, ℕ, Bool, true, false, List, [], ◌∷◌, map, length, take, codes, Option, Some, None}
use Rattle.std.specs.Prelude.{Result, Ok, Err}
use Rattle.layer_words.specs.declared.operators.Operator.TheVariants.{Add, Equal}
use Rattle.layer_mean.specs.declared.run.Case.TheVariants.{First, Second}
use Rattle.layer_mean.specs.Tree.{LayerTree}
use Rattle.stack_mean.specs.NoShape as no_shape
use Rattle.stack_mean.specs.NoShape.{NoShape}
use Rattle.stack_mean.specs.Plans.{plans_of}
use Rattle.stack_mean.specs.SampleLayers.{counter}
use Rattle.stack_mean.specs.TwoCases.{flip}
use Rattle.trace_mean.specs.Trace as trace
use Rattle.trace_mean.specs.Trace.{number, peer, field, value, atom, element, binary, Operation, set, push}
use Rattle.trace_mean.specs.Fuse.{trace_of}
use Rattle.trace_mean.specs.Samples.{joiner, joiner_trace, keeper}
use Rattle.bypass_mean.specs.Bypasses.{Entry, entries_of, Made, fused, absent, Bypasses}
use Rattle.bypass_mean.specs.Lines.{made_lines, bypass_lines, file_lines}
use Rattle.bypass_mean.specs.Text.{operation_lines}

-- What is made of an entry, with its checks still among its operations.
abbrev pub unguarded : Result (List Operation) NoShape → Made
unguarded (Ok trace) = fused trace (record { values = []; conjuncts = []; operations = trace })
unguarded (Err reason) = absent reason

-- What is made of an entry in its second case, with its checks among its operations; none where it has no such case.
abbrev pub second_unguarded : Result (List Operation) NoShape → Option Made
second_unguarded (Err no_shape.same) = None
second_unguarded r = Some (unguarded r)

-- The bypasses of a stack, with the checks among the operations, and no guards.
abbrev pub all_unguarded : List LayerTree → Bypasses
all_unguarded stack = record {
  made = map (λ (e : Entry). unguarded (trace_of First stack e.known e.fields)) (entries_of stack);
  second = map (λ (e : Entry). second_unguarded (trace_of Second stack e.known e.fields)) (entries_of stack);
}

-- These bypasses, written out.
abbrev pub unguarded_lines : List LayerTree → List (List ℕ)
unguarded_lines stack = bypass_lines stack (plans_of stack) (all_unguarded stack)

-- A layer that counts casts.
abbrev pub CounterText : Type 0
CounterText = unguarded_lines (counter ∷ []) ≡
    codes "entry cast fused" ∷ codes "do bind t.0 = peer" ∷ codes "do bind t.1 = 0.k" ∷ codes "do set 0.k = (0.k + 1)" ∷
    codes "do out down Cast(t.0,body) cnt.num(t.1)" ∷
    codes "entry send fused" ∷ codes "do out down Send(peer,body) cnt.none()" ∷
    codes "plan 0 cast cnt.num(?)" ∷
    codes "entry plan 0 fused" ∷ codes "do check (in.0 == 0.e[peer])" ∷ codes "do set 0.e[peer] = (in.0 + 1)" ∷
    codes "do bind t.0 = peer" ∷ codes "do out up Cast(t.0,body)" ∷
    codes "plan 1 send cnt.none()" ∷
    codes "entry plan 1 fused" ∷ codes "do out up Send(peer,body)" ∷
    codes "end 4 fused 0 absent" ∷ []

-- The counter's packet, with its check as a guard: an entry value, and a conjunct over it.
abbrev pub due : Made
due = fused [] (record {
  values = element 0 1 (atom peer) ∷ [];
  conjuncts = binary Equal (atom (field 0)) (atom (value 0)) ∷ [];
  operations = set 0 1 (atom peer) (binary Add (atom (field 0)) (atom (number 1))) ∷ [];
})

-- A guard is written before its operations: entry values after `let`, and conjuncts after `when`.
abbrev pub GuardText : Type 0
GuardText = made_lines (counter ∷ []) (codes "entry plan 0") due ≡
    codes "entry plan 0 fused" ∷ codes "let v.0 = 0.e[peer]" ∷ codes "when (in.0 == v.0)" ∷
    codes "do set 0.e[peer] = (in.0 + 1)" ∷ []

-- A layer with two cases, whose packets of casts have no handler.
abbrev pub FlipText : Type 0
FlipText = unguarded_lines (flip ∷ []) ≡
    codes "entry cast fused" ∷ codes "do set 0.k = (0.k + 1)" ∷ codes "do check ((0.k & 1) == 1)" ∷
    codes "do bind t.0 = peer" ∷
    codes "do bind t.1 = 0.k" ∷ codes "do out down Cast(t.0,body) flip.a(t.1)" ∷
    codes "entry cast second fused" ∷ codes "do set 0.k = (0.k + 1)" ∷ codes "do check (((0.k & 1) == 1) == 0)" ∷
    codes "do bind t.0 = peer" ∷ codes "do bind t.1 = 0.k" ∷ codes "do out down Cast(t.0,body) flip.b(t.1)" ∷
    codes "entry send fused" ∷ codes "do out down Send(peer,body) flip.none()" ∷
    codes "plan 0 cast flip.a(?)" ∷ codes "entry plan 0 absent rare 0" ∷
    codes "plan 1 send flip.none()" ∷ codes "entry plan 1 fused" ∷ codes "do out up Send(peer,body)" ∷
    codes "plan 2 cast flip.b(?)" ∷ codes "entry plan 2 absent rare 0" ∷
    codes "end 4 fused 2 absent" ∷ []

-- The lines of the joiner's trace, with each note on a line of its own if `noting`.
abbrev pub lines_of : Bool → Result (List Operation) NoShape → List (List ℕ)
lines_of noting (Ok trace) = operation_lines noting (joiner ∷ []) trace
lines_of noting (Err reason) = []

-- A layer that keeps a part, takes it back and joins it: with its notes written out, and with lines of their own.
abbrev pub JoinedText : Type 0
JoinedText =
    (lines_of false joiner_trace ≡ codes "check (len(0.q) < 4)" ∷ codes "push 0.q (7,cut(body,0,2))" ∷
    codes "check (len(0.q) > 0)" ∷
    codes "take 0.q row.0" ∷ codes "bind t.0 = row.0.x" ∷ codes "out down Cast(t.0,join(row.0,body)) joiner.none()" ∷
    []) ×
    (lines_of true joiner_trace ≡ codes "check (len(0.q) < 4)" ∷ codes "note m.0 = cut(body,0,2)" ∷
    codes "push 0.q (7,m.0)" ∷
    codes "check (len(0.q) > 0)" ∷ codes "take 0.q row.0" ∷ codes "bind t.0 = row.0.x" ∷
    codes "note m.1 = join(row.0,body)" ∷
    codes "out down Cast(t.0,m.1) joiner.none()" ∷ [])

-- A queue for each member is written with its index.
abbrev pub KeeperText : Type 0
KeeperText = operation_lines false (keeper ∷ [])
    (push 0 0 (atom peer) (atom peer ∷ []) None ∷ trace.take 0 0 (atom (number 0)) ∷ []) ≡
    codes "push 0.from[peer] (peer)" ∷ codes "take 0.from[0] row.0" ∷ []

-- The traces of the counter as a file.
abbrev pub counter_file : List (List ℕ)
counter_file = file_lines (counter ∷ []) (plans_of (counter ∷ [])) (all_unguarded (counter ∷ []))

-- That file has sixteen lines, of which the first six open it and hold the counter's cast.
abbrev pub FileText : Type 0
FileText = (length counter_file ≡ 16) × (take 6 counter_file ≡
    codes "bypasses 1" ∷ codes "entry cast case 1" ∷ codes "bind t.0 = peer" ∷ codes "bind t.1 = 0.k" ∷
    codes "set 0.k = (0.k + 1)" ∷
    codes "out down Cast(t.0,body) cnt.num(t.1)" ∷ [])
