-- Traces of small stacks, made and followed by evaluation.
use Rattle.std.specs.Prelude.{◌≡◌, ℕ, ⊤, List, [], ◌∷◌, length, Option, Some, None, Result, Ok, Err, codes}
use Rattle.layer_words.specs.declared.events.Dir.TheVariants.{Up, Down}
use Rattle.layer_words.specs.declared.events.Kind.TheVariants.{Cast, Send}
use Rattle.layer_words.specs.declared.operators.Operator.TheVariants.{Add, Equal, Less, Greater, And, BitAnd}
use Rattle.layer_mean.specs.Tree as tree
use Rattle.layer_mean.specs.Tree.{part, local, message, none, always, queue, queues, LayerTree}
use Rattle.layer_mean.specs.declared.run.Case.TheVariants.{First, Second}
use Rattle.layer_mean.specs.declared.run.Event.{Event}
use Rattle.msg_core.specs.Chain.{plain}
use Rattle.layer_mean.specs.declared.run.Row.{Row}
use Rattle.layer_mean.specs.State as state
use Rattle.layer_mean.specs.State.{State}
use Rattle.layer_mean.specs.Visit.{fresh, step}
use Rattle.stack_mean.specs.NoShape as no_shape
use Rattle.stack_mean.specs.NoShape.{NoShape, drawn_from}
use Rattle.stack_mean.specs.SampleLayers.{block, sends, on, named_cell, counter, surprised_layer, bottom, late}
use Rattle.stack_mean.specs.Cases.{parting}
use Rattle.stack_mean.specs.Samples.{keeping_stack}
use Rattle.stack_mean.specs.Shape.{app_cast, app_send, packet_entry, has_second_case}
use Rattle.stack_mean.specs.TwoCases.{flip}
use Rattle.trace_mean.specs.Trace.{Atom, number, peer, field, bound, taken_number, Core, body, noted, taken_message}
use Rattle.trace_mean.specs.Trace.{TraceNumber, atom, me, count, element, rows, binary, core, held, cut, join, Link}
use Rattle.trace_mean.specs.Trace.{Chained, Operation, bind, note, check, set, push, take, output}
use Rattle.trace_mean.specs.Follow.{Answer, follow, reached, stopped}
use Rattle.trace_mean.specs.Fuse.{made_trace, trace_of}
use Rattle.trace_mean.specs.Worth.{Input}
use Rattle.trace_mean.specs.Counts.{trace_length, trace_notes, trace_outputs, trace_joins}

-- What traces of small stacks compute with, which a proof by evaluation unfolds at once.
unfoldable pub evaluated : ⊤
unfolding step has_second_case made_trace follow
evaluated = tt

-- A literal.
abbrev pub lit : ℕ → TraceNumber
lit n = atom (number n)

-- Number c of the layer at place p, a cell without an index.
abbrev pub cell : ℕ → ℕ → TraceNumber
cell p c = element p c (lit 0)

-- A known header: its place, its tag, and its fields.
abbrev pub link : ℕ → ℕ → List Atom → Link
link p tag fields = record { place = p; tag = tag; fields = fields }

-- A message that is sent or stored, with its known headers.
abbrev pub with_chain : List Link → Core → Option Chained
with_chain chain c = Some (record { chain = chain; core = c })

-- The counter's four entries: its own cast and send, and the packets of both.
abbrev pub CounterTraces : Type 0
CounterTraces =
    (trace_of First (counter ∷ []) app_cast [] ≡ Ok
    (bind (atom peer) ∷ bind (cell 0 0) ∷ set 0 0 (lit 0) (binary Add (cell 0 0) (lit 1)) ∷
    output Down Cast (bound 0 ∷ []) (with_chain (link 0 1 (bound 1 ∷ []) ∷ []) body) ∷ [])) ×
    (trace_of First (counter ∷ []) app_send [] ≡
    Ok (output Down Send (peer ∷ []) (with_chain (link 0 0 [] ∷ []) body) ∷ [])) ×
    (trace_of First (counter ∷ []) (packet_entry Cast (1 ∷ [])) (None ∷ []) ≡ Ok
    (check (binary Equal (atom (field 0)) (element 0 1 (atom peer))) ∷
    set 0 1 (atom peer) (binary Add (atom (field 0)) (lit 1)) ∷ bind (atom peer) ∷
    output Up Cast (bound 0 ∷ []) (with_chain [] body) ∷ [])) ×
    (trace_of First (counter ∷ []) (packet_entry Send (0 ∷ [])) [] ≡
    Ok (output Up Send (peer ∷ []) (with_chain [] body) ∷ []))

-- A cast that comes back to its sender before its packet goes out: one bind for each number argument, the headers'
-- fields after the event's peer, and the delivery first.
abbrev pub KeptTrace : Type 0
KeptTrace = trace_of First keeping_stack app_cast [] ≡ Ok
    (check (binary Equal me (lit 0)) ∷ bind (atom peer) ∷ bind me ∷ bind (cell 3 0) ∷
    set 3 0 (lit 0) (binary Add (cell 3 0) (lit 1)) ∷
    bind (atom (bound 0)) ∷ bind me ∷
    check (binary Less (rows 1 4 (lit 0)) (lit 64)) ∷
    push 1 4 (lit 0) [] (with_chain (link 2 0 [] ∷ link 3 1 (bound 1 ∷ bound 2 ∷ []) ∷ []) body) ∷
    bind (atom (bound 3)) ∷ bind (cell 1 0) ∷ set 1 0 (lit 0) (binary Add (cell 1 0) (lit 1)) ∷
    check (binary Equal (atom (bound 2)) (cell 3 1)) ∷ check (binary Equal (atom (bound 2)) (cell 3 1)) ∷
    set 3 1 (lit 0) (binary Add (cell 3 1) (lit 1)) ∷ bind (atom (bound 1)) ∷
    bind (atom (bound 5)) ∷ bind (lit 1) ∷
    output Up Cast (bound 7 ∷ []) (with_chain [] body) ∷
    output Down Cast (bound 8 ∷ []) (with_chain
    (link 0 1 (bound 9 ∷ []) ∷ link 1 1 (bound 6 ∷ []) ∷ link 2 0 [] ∷ link 3 1 (bound 1 ∷ bound 2 ∷ []) ∷ []) body) ∷
    [])

-- That trace has twenty operations.
abbrev pub KeptLength : Type 0
KeptLength = drawn_from (λ ops. Ok (length ops)) (trace_of First keeping_stack app_cast []) ≡ Ok 20

-- The condition that the layer's count is odd.
abbrev pub odd : TraceNumber
odd = binary Equal (binary BitAnd (cell 0 0) (lit 1)) (lit 1)

-- A layer with two common cases: its cast has a trace in each, with a check and a header of its own; its send has no
-- second case.
abbrev pub FlipTraces : Type 0
FlipTraces =
    (trace_of First (flip ∷ []) app_cast [] ≡ Ok
    (set 0 0 (lit 0) (binary Add (cell 0 0) (lit 1)) ∷ check odd ∷ bind (atom peer) ∷ bind (cell 0 0) ∷
    output Down Cast (bound 0 ∷ []) (with_chain (link 0 1 (bound 1 ∷ []) ∷ []) body) ∷ [])) ×
    (trace_of Second (flip ∷ []) app_cast [] ≡ Ok
    (set 0 0 (lit 0) (binary Add (cell 0 0) (lit 1)) ∷ check (binary Equal odd (lit 0)) ∷ bind (atom peer) ∷
    bind (cell 0 0) ∷
    output Down Cast (bound 0 ∷ []) (with_chain (link 0 2 (bound 1 ∷ []) ∷ []) body) ∷ [])) ×
    (trace_of Second (flip ∷ []) app_send [] ≡ Err no_shape.same)

-- There is no trace where a layer sends a message that was stored, nor for a packet that no handler takes.
abbrev pub NoTraces : Type 0
NoTraces =
    (trace_of First (bottom ∷ surprised_layer ∷ late ∷ []) app_cast [] ≡ Err (no_shape.stored 2)) ×
    (trace_of First (flip ∷ []) (packet_entry Cast (1 ∷ [])) (None ∷ []) ≡ Err (no_shape.rare 0))

-- The first of two members casts one byte.
abbrev pub first_input : Input
first_input = record { me = 0; count = 2; ltime = 0; peer = 0; fields = []; body = codes "x" }

-- Member 1's packet of number 5 comes, where 0 is due.
abbrev pub early_input : Input
early_input = record first_input { peer = 1; fields = 5 ∷ [] }

-- The counter's state at the first of two members, after n casts of its own.
abbrev pub counting : ℕ → State
counting n = record (fresh counter 0 2 0) { cells = state.numbers (n ∷ []) ∷ state.numbers (0 ∷ 0 ∷ []) ∷ [] }

-- The cast of number n of the counter as it leaves the stack, with these bytes as its body.
abbrev pub cast_of : ℕ → List ℕ → Event
cast_of n text = record {
  kind = Cast;
  peer = 0;
  a = 0;
  b = 0;
  message = Some (record { headers = record { layer = 0; tag = 1; fields = n ∷ [] } ∷ []; body = text });
}

-- A trace, if there is one, followed from one layer's state on.
abbrev pub followed_trace : Input → State → Result (List Operation) NoShape → Result Answer NoShape
followed_trace i s = drawn_from (λ operations. Ok (follow i operations (s ∷ [])))

-- The counter's cast followed by the first of two members, and a packet that comes too early, which stops at the first
-- check.
abbrev pub CounterFollowed : Type 0
CounterFollowed =
    (followed_trace first_input (fresh counter 0 2 0) (trace_of First (counter ∷ []) app_cast []) ≡
    Ok (reached (counting 1 ∷ []) ((Down, cast_of 0 (codes "x")) ∷ []))) ×
    (followed_trace early_input (fresh counter 0 2 0)
    (trace_of First (counter ∷ []) (packet_entry Cast (1 ∷ [])) (None ∷ []))
    ≡ Ok (stopped 0))

-- A part is cut, kept, taken back and sent, and then one that is held: each is noted where it is pushed or sent.
abbrev pub NotedTrace : Type 0
NotedTrace = trace_of First (parting ∷ []) app_cast [] ≡ Ok
    (check (binary Less (rows 0 0 (lit 0)) (lit 4)) ∷ note (cut (core body) (lit 0) (lit 8)) ∷
    push 0 0 (lit 0) [] (with_chain [] (noted 0)) ∷
    check (binary Greater (rows 0 0 (lit 0)) (lit 0)) ∷ take 0 0 (lit 0) ∷
    bind (atom peer) ∷ note (core (taken_message 0 part)) ∷ bind (atom peer) ∷ note (held 0 0 (lit 0) (lit 0) part) ∷
    output Down Cast (bound 0 ∷ []) (with_chain (link 0 1 [] ∷ []) (noted 1)) ∷
    output Down Cast (bound 1 ∷ []) (with_chain (link 0 1 [] ∷ []) (noted 2)) ∷ [])

-- That trace counts for eight operations, without its notes.
abbrev pub NotedLength : Type 0
NotedLength = drawn_from (λ ops. Ok (trace_length ops)) (trace_of First (parting ∷ []) app_cast []) ≡ Ok 8

-- A layer that keeps a number and a part of its cast, takes them back, and sends the part before the cast's body.
abbrev pub joiner : LayerTree
joiner = record {
  name = codes "joiner";
  cells = named_cell (codes "q") (queue 4 (record { numbers = codes "x" ∷ []; message = Some (codes "p", part) })) ∷ [];
  headers = [];
  handlers = on Down Cast 0 always
      (tree.push 0 (tree.number 0) 4
      (record { numbers = tree.number 7 ∷ []; message = Some (tree.cut (message 0) (tree.number 0) (tree.number 2)) })
      none ∷
      tree.take 0 (tree.number 0) (record { numbers = 1 ∷ []; message = Some (1, part) })
      (block (sends Down Cast (local 1) (tree.join (message 1) (message 0)) 0 [] ∷ [])) none ∷ []) ∷ [];
}

-- The trace of its cast.
abbrev pub joiner_trace : Result (List Operation) NoShape
joiner_trace = trace_of First (joiner ∷ []) app_cast []

-- A number and a part are kept and taken back, and the part is put before the message that is sent.
abbrev pub JoinedTrace : Type 0
JoinedTrace = joiner_trace ≡ Ok
    (check (binary Less (rows 0 0 (lit 0)) (lit 4)) ∷ note (cut (core body) (lit 0) (lit 2)) ∷
    push 0 0 (lit 0) (lit 7 ∷ []) (with_chain [] (noted 0)) ∷
    check (binary Greater (rows 0 0 (lit 0)) (lit 0)) ∷ take 0 0 (lit 0) ∷
    bind (atom (taken_number 0 0)) ∷ note (join (core (taken_message 0 part)) (core body)) ∷
    output Down Cast (bound 0 ∷ []) (with_chain (link 0 0 [] ∷ []) (noted 1)) ∷ [])

-- It counts for six operations, with two notes, one join and one output.
abbrev pub JoinedCounts : Type 0
JoinedCounts =
    (drawn_from (λ ops. Ok (trace_length ops)) joiner_trace ≡ Ok 6) ×
    (drawn_from (λ ops. Ok (trace_notes ops)) joiner_trace ≡ Ok 2) ×
    (drawn_from (λ ops. Ok (trace_joins ops)) joiner_trace ≡ Ok 1) ×
    (drawn_from (λ ops. Ok (trace_outputs ops)) joiner_trace ≡ Ok 1)

-- The first of two members casts three bytes.
abbrev pub abc : Input
abc = record first_input { body = codes "abc" }

-- Followed, it sends what it took before what it was given, and leaves its queue empty.
abbrev pub JoinedFollowed : Type 0
JoinedFollowed = followed_trace abc (fresh joiner 0 2 0) joiner_trace ≡ Ok (reached (fresh joiner 0 2 0 ∷ []) ((
  Down,
  record {
    kind = Cast;
    peer = 7;
    a = 0;
    b = 0;
    message = Some (record { headers = record { layer = 0; tag = 0; fields = [] } ∷ []; body = codes "ababc" });
  },
) ∷ []))

-- A layer with a queue for each member, which pushes on the caster's and takes from the first member's.
abbrev pub keeper : LayerTree
keeper = record {
  name = codes "keeper";
  cells = named_cell (codes "from") (queues 4 (record { numbers = codes "p" ∷ []; message = None })) ∷ [];
  headers = [];
  handlers = on Down Cast 0 always
      (tree.push 0 (local 0) 4 (record { numbers = local 0 ∷ []; message = None }) none ∷
      tree.take 0 (tree.number 0) (record { numbers = 1 ∷ []; message = None })
      (block (sends Down Cast (local 1) (message 0) 0 [] ∷ [])) none ∷ []) ∷ [];
}

-- A queue for each member is told with its index, also where that is written as 0.
abbrev pub KeeperTrace : Type 0
KeeperTrace = trace_of First (keeper ∷ []) app_cast [] ≡ Ok
    (check (binary And (binary Less (atom peer) count) (binary Less (rows 0 0 (atom peer)) (lit 4))) ∷
    push 0 0 (atom peer) (atom peer ∷ []) None ∷
    check (binary Greater (rows 0 0 (lit 0)) (lit 0)) ∷ take 0 0 (lit 0) ∷
    bind (atom (taken_number 0 0)) ∷ output Down Cast (bound 0 ∷ []) (with_chain (link 0 0 [] ∷ []) body) ∷ [])

-- A layer that sends the part in the first row of its queue, and then takes that row.
abbrev pub leaver : LayerTree
leaver = record {
  name = codes "leaver";
  cells = named_cell (codes "q") (queue 4 (record { numbers = []; message = Some (codes "p", part) })) ∷ [];
  headers = [];
  handlers = on Down Cast 0 always
      (sends Down Cast (local 0) (tree.held 0 (tree.number 0) (tree.number 0) part) 0 [] ∷
      tree.take 0 (tree.number 0) (record { numbers = []; message = None }) none none ∷ []) ∷ [];
}

-- A part that is held is noted where it is sent, and then its row is taken.
abbrev pub LeaverTrace : Type 0
LeaverTrace = trace_of First (leaver ∷ []) app_cast [] ≡ Ok
    (bind (atom peer) ∷ note (held 0 0 (lit 0) (lit 0) part) ∷ check (binary Greater (rows 0 0 (lit 0)) (lit 0)) ∷
    take 0 0 (lit 0) ∷
    output Down Cast (bound 0 ∷ []) (with_chain (link 0 0 [] ∷ []) (noted 0)) ∷ [])

-- With its note directly before the output it would send nothing of the part.
abbrev pub noted_late : List Operation
noted_late = bind (atom peer) ∷ check (binary Greater (rows 0 0 (lit 0)) (lit 0)) ∷ take 0 0 (lit 0) ∷
    note (held 0 0 (lit 0) (lit 0) part) ∷ output Down Cast (bound 0 ∷ []) (with_chain (link 0 0 [] ∷ []) (noted 0)) ∷
    []

-- That layer's state with these rows in its queue.
abbrev pub leaving : List Row → State
leaving kept = record (fresh leaver 0 2 0) { cells = state.queues (kept ∷ []) ∷ [] }

-- A row with a part of two bytes.
abbrev pub kept_part : Row
kept_part = record { numbers = []; message = Some (plain (codes "ab")) }

-- The answer where a cast with these bytes is sent, and the queue is empty then.
abbrev pub left_with : List ℕ → Answer
left_with text = reached (leaving [] ∷ []) ((
  Down,
  record {
    kind = Cast;
    peer = 0;
    a = 0;
    b = 0;
    message = Some (record { headers = record { layer = 0; tag = 0; fields = [] } ∷ []; body = text });
  },
) ∷ [])

-- Followed, the trace sends the held part; with the note after the take it sends nothing of it.
abbrev pub LeaverFollowed : Type 0
LeaverFollowed =
    (followed_trace first_input (leaving (kept_part ∷ [])) (trace_of First (leaver ∷ []) app_cast []) ≡
    Ok (left_with (codes "ab"))) ×
    (follow first_input noted_late (leaving (kept_part ∷ []) ∷ []) ≡ left_with [])
