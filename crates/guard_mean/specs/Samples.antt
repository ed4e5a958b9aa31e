-- Guards of small traces, made by evaluation.
use Rattle.std.specs.Prelude.{◌≡◌, ℕ, List, [], ◌∷◌, Option, Some, None, Ok, codes}
use Rattle.layer_words.specs.declared.events.Dir.TheVariants.{Up, Down}
use Rattle.layer_words.specs.declared.events.Kind.TheVariants.{Cast}
use Rattle.layer_words.specs.declared.sorts.Likely.TheVariants as likely
use Rattle.layer_words.specs.declared.operators.Operator.TheVariants.{Add, Subtract, Equal, Less, And, BitAnd}
use Rattle.layer_mean.specs.Tree as tree
use Rattle.layer_mean.specs.Tree.{part, local, message, branch, none, always, common, ExpressionTree, LayerTree}
use Rattle.layer_mean.specs.declared.run.Case.TheVariants.{First}
use Rattle.stack_mean.specs.NoShape.{drawn_from}
use Rattle.stack_mean.specs.SampleLayers.{block, sends, on, with_fields, counter}
use Rattle.stack_mean.specs.Shape.{Known, app_cast, packet_entry}
use Rattle.stack_mean.specs.TwoCases.{flip}
use Rattle.trace_mean.specs.Trace.{peer, field, bound, value, body, TraceNumber, atom, count, element, rows, item, size}
use Rattle.trace_mean.specs.Trace.{binary, pick, held, Operation, bind, check, set, push, take, output, Guarded}
use Rattle.trace_mean.specs.Fuse.{trace_of}
use Rattle.trace_mean.specs.Samples.{lit, cell, link, with_chain}
use Rattle.guard_mean.specs.Prune.{hoist}
use Rattle.guard_mean.specs.Simplify.{simplified}
use Rattle.guard_mean.specs.Code as code
use Rattle.guard_mean.specs.Code.{Code, require, make}
use Rattle.guard_mean.specs.Straight.{code_of}

-- The guarded handler of operations, with its checks carried to the entry and made simpler.
abbrev pub guard_of : List Operation → Guarded
guard_of operations = simplified (hoist operations)

-- The guarded handler of an entry in the first case.
abbrev pub IsGuardOf : LayerTree → Known → List (Option ℕ) → Guarded → Type 0
IsGuardOf layer k fields g = drawn_from (λ operations. Ok (guard_of operations)) (trace_of First (layer ∷ []) k fields)
    ≡ Ok g

-- The code that is run for the guarded handler of an entry in the first case.
abbrev pub IsCodeOf : LayerTree → Known → List (Option ℕ) → Code → Type 0
IsCodeOf layer k fields c = drawn_from (λ operations. Ok (code_of (guard_of operations)))
    (trace_of First (layer ∷ []) k fields) ≡ Ok c

-- The counter's check of a packet: its number is the one that is due of its sender.
abbrev pub due : TraceNumber
due = binary Equal (atom (field 0)) (element 0 1 (atom peer))

-- A packet of the counter is common where its number is the one that is due. No entry value is needed.
abbrev pub CounterGuard : Type 0
CounterGuard = IsGuardOf counter (packet_entry Cast (1 ∷ [])) (None ∷ []) (record {
  values = [];
  conjuncts = due ∷ [];
  operations = set 0 1 (atom peer) (binary Add (atom (field 0)) (lit 1)) ∷ bind (atom peer) ∷
      output Up Cast (bound 0 ∷ []) (with_chain [] body) ∷ [];
})

-- Its code compares as it tests, and what is there already is bound without a step.
abbrev pub CounterCode : Type 0
CounterCode = IsCodeOf counter (packet_entry Cast (1 ∷ [])) (None ∷ []) (record {
  tests = code.prepare (code.element 0 1 code.peer) ∷ require (code.binary Equal (code.field 0) (code.made 0)) ∷ [];
  steps = make (code.binary Add (code.field 0) (code.number 1)) ∷ code.set 0 1 code.peer (code.made 1)
      ∷ code.output Up Cast (code.peer ∷ []) (Some (record { chain = []; core = code.body })) ∷ [];
})

-- A number that is checked after it was written is what was written.
abbrev pub FlipGuard : Type 0
FlipGuard = IsGuardOf flip app_cast [] (record {
  values = binary Add (cell 0 0) (lit 1) ∷ [];
  conjuncts = binary Equal (binary BitAnd (atom (value 0)) (lit 1)) (lit 1) ∷ [];
  operations = set 0 0 (lit 0) (binary Add (cell 0 0) (lit 1)) ∷ bind (atom peer) ∷ bind (cell 0 0)
      ∷ output Down Cast (bound 0 ∷ []) (with_chain (link 0 1 (bound 1 ∷ []) ∷ []) body) ∷ [];
})

-- After a write a number is read anew; before it, it isn't made twice.
abbrev pub FlipCode : Type 0
FlipCode = IsCodeOf flip app_cast [] (record {
  tests = code.prepare (code.element 0 0 (code.number 0)) ∷ code.prepare (code.binary Add (code.made 0) (code.number 1))
      ∷ code.prepare (code.binary BitAnd (code.made 1) (code.number 1)) ∷
      require (code.binary Equal (code.made 2) (code.number 1)) ∷ [];
  steps = code.set 0 0 (code.number 0) (code.made 1) ∷ make (code.element 0 0 (code.number 0))
      ∷ code.output Down Cast (code.peer ∷ []) (Some (record {
        chain = record { place = 0; tag = 1; fields = code.made 3 ∷ [] } ∷ [];
        core = code.body;
      })) ∷ [];
})

-- By an index, it is what was written only where the indexes are the same, and below n.
abbrev pub AliasedGuard : Type 0
AliasedGuard = guard_of (set 0 1 (cell 0 0) (lit 5) ∷ check (binary Equal (element 0 1 (atom peer)) (lit 7)) ∷ []) ≡
    record {
      values = pick (binary And (binary Equal (atom peer) (cell 0 0)) (binary Less (atom peer) count)) (lit 5)
          (element 0 1 (atom peer)) ∷ [];
      conjuncts = binary Equal (atom (value 0)) (lit 7) ∷ [];
      operations = set 0 1 (cell 0 0) (lit 5) ∷ [];
    }

-- How many rows the queue has after one push, in entry terms.
abbrev pub more_rows : TraceNumber
more_rows = binary Add (rows 0 1 (lit 0)) (lit 1)

-- A push of a row whose one number is that of the first cell, with the body as its message.
abbrev pub pushing : Operation
pushing = push 0 1 (lit 0) (cell 0 0 ∷ []) (with_chain [] body)

-- A row is pushed on a queue that is empty at entry, and then counted and looked at.
abbrev pub QueueGuard : Type 0
QueueGuard = guard_of (check (binary Equal (rows 0 1 (lit 0)) (lit 0)) ∷ pushing
    ∷ check (binary Equal (rows 0 1 (lit 0)) (lit 1)) ∷ check (binary Equal (item 0 1 (lit 0) (lit 0) 0) (lit 7)) ∷ [])
    ≡ record {
      values = more_rows
          ∷ pick (binary Less (lit 0) more_rows)
          (pick (binary Equal (lit 0) (rows 0 1 (lit 0))) (cell 0 0) (item 0 1 (lit 0) (lit 0) 0)) (lit 0) ∷ [];
      conjuncts = binary Equal (rows 0 1 (lit 0)) (lit 0) ∷ binary Equal (atom (value 0)) (lit 1) ∷
          binary Equal (atom (value 1)) (lit 7) ∷ [];
      operations = pushing ∷ [];
    }

-- The size of the message that a row of the queue holds.
abbrev pub few_bytes : TraceNumber → TraceNumber
few_bytes row = size (held 0 1 (lit 0) row part)

-- The size of a held row's message after another row was taken is that of the next row.
abbrev pub HeldGuard : Type 0
HeldGuard = guard_of (check (binary Less (few_bytes (lit 0)) (lit 100)) ∷ take 0 1 (lit 0) ∷
    check (binary Less (few_bytes (lit 0)) (lit 9)) ∷ []) ≡ record {
      values = pick (binary Less (lit 0) (binary Subtract (rows 0 1 (lit 0)) (lit 1))) (few_bytes (lit 1)) (lit 0) ∷ [];
      conjuncts = binary Less (few_bytes (lit 0)) (lit 100) ∷ binary Less (atom (value 0)) (lit 9) ∷ [];
      operations = take 0 1 (lit 0) ∷ [];
    }

-- A layer whose casts carry a number that is written as a sum, and come back where it is that number, and where what is
-- expected holds.
abbrev pub literal : ExpressionTree → LayerTree
literal expected = record {
  name = codes "lit";
  cells = [];
  headers = with_fields (codes "h") 1 ∷ [];
  handlers =
      on Down Cast 0 always
      (sends Down Cast (local 0) (message 0) 1 (tree.binary Add (tree.number 2) (tree.number 3) ∷ []) ∷ []) ∷
      on Up Cast 1 (common expected)
      (branch likely.First (tree.binary Equal (local 1) (tree.number 5))
      (block (sends Up Cast (local 0) (message 0) 0 [] ∷ [])) none ∷ []) ∷ [];
}

-- The layer whose packet is common where its field is 5, and 1 is less than 2.
abbrev pub is_five : LayerTree
is_five = literal (tree.binary And (tree.binary Equal (local 1) (tree.number 5))
    (tree.binary Less (tree.number 1) (tree.number 2)))

-- The layer whose packet is common where 1 is 2, so never.
abbrev pub is_never : LayerTree
is_never = literal (tree.binary Equal (tree.number 1) (tree.number 2))

-- What a common packet does: its sender is bound, and its body is delivered.
abbrev pub passed_on : List Operation
passed_on = bind (atom peer) ∷ output Up Cast (bound 0 ∷ []) (with_chain [] body) ∷ []

-- Numbers are computed, in operations too; what is known leaves no test, and what never holds leaves the guard 0.
abbrev pub LiteralGuards : Type 0
LiteralGuards =
    IsGuardOf is_five app_cast [] (record {
      values = [];
      conjuncts = [];
      operations = bind (atom peer) ∷ bind (lit 5) ∷
          output Down Cast (bound 0 ∷ []) (with_chain (link 0 1 (bound 1 ∷ []) ∷ []) body) ∷ [];
    }) ×
    IsGuardOf is_five (packet_entry Cast (1 ∷ [])) (Some 5 ∷ [])
    (record { values = []; conjuncts = []; operations = passed_on }) ×
    IsGuardOf is_never (packet_entry Cast (1 ∷ [])) (Some 5 ∷ [])
    (record { values = []; conjuncts = lit 0 ∷ []; operations = passed_on })
