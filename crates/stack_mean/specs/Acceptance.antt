-- Which stacks are accepted: those for which it is known beforehand that each run ends, and how much it may take. (This
-- project's own.)
use Rattle.std.specs.Prelude.{ℕ, zero, suc, ◌+◌, ◌*◌, ◌-◌, nat_lt, max, min, if◌then◌else◌, List, ◌++◌, map, fold}
use Rattle.std.specs.Prelude.{length, Option, Some, None, Result, Ok, Err}
use Rattle.std.specs.List.{sum_by}
use Rattle.std.specs.Option.{option_map_or}
use Rattle.layer_words.specs.declared.events.Dir.TheVariants.{Up, Down}
use Rattle.layer_words.specs.declared.events.Kind.{Kind}
use Rattle.layer_words.specs.declared.events.Kind.TheVariants.{Cast, Send, Timer, Leave}
use Rattle.layer_mean.specs.Tree.{Form, numbers, queue, queues, ItemsTree, LayerTree}
use Rattle.layer_mean.specs.Queue.{is_place}
use Rattle.stack_mean.specs.Emissions.{handler_joins}
use Rattle.stack_mean.specs.Graph.{Node, nodes, nodes_of, arrows, entered_handler, first_on_cycle}

-- The largest of some numbers, 0 where there is none.
abbrev pub largest : List ℕ → ℕ
largest = fold max 0

-- The most that a node and all that follows from it may cost, in n steps: its own cost, and for each arrow the largest
-- cost of the nodes that may follow, as many times as the arrow stands for.
abbrev pub cost_in : ℕ → List LayerTree → (Node → ℕ) → Node → ℕ
cost_in zero stack own node = own node
cost_in (suc steps) stack own node =
    own node + sum_by (λ arrow. arrow.times * largest (map (cost_in steps stack own) arrow.targets)) (arrows stack node)

-- The most that a node and all that follows from it may cost, in as many steps as there are nodes, which is enough
-- where no node lies on a cycle.
abbrev pub cost : List LayerTree → (Node → ℕ) → Node → ℕ
cost stack own node = cost_in (length (nodes stack)) stack own node

-- The weight of a node: how many tasks follow from it at most, itself counted.
abbrev pub weight : List LayerTree → Node → ℕ
weight stack node = cost stack (λ node. 1) node

-- The joins of the handler that a node enters.
abbrev pub own_joins : List LayerTree → Node → ℕ
own_joins stack node = if is_place (length stack) node.at then option_map_or handler_joins (entered_handler stack node)
    0 else 0

-- The most joins that are made in what follows from a node.
abbrev pub most_joins : List LayerTree → Node → ℕ
most_joins stack node = cost stack (own_joins stack) node

-- The events that a run can begin with: a packet or a tick at the lowest place, a cast, a send or a leave at the
-- highest.
abbrev pub entries : List LayerTree → List Node
entries stack =
    nodes_of stack 1 Up Cast ++ nodes_of stack 1 Up Send ++ nodes_of stack 1 Up Timer ++
    nodes_of stack (length stack) Down Cast ++ nodes_of stack (length stack) Down Send ++
    nodes_of stack (length stack) Down Leave

-- The weight of a stack is that of its heaviest entry.
abbrev pub largest_weight : List LayerTree → ℕ
largest_weight stack = largest (map (weight stack) (entries stack))

-- The most joins that an entry of a stack makes.
abbrev pub largest_joins : List LayerTree → ℕ
largest_joins stack = largest (map (most_joins stack) (entries stack))

-- The greatest weight that an entry may have.
abbrev pub weight_limit : ℕ
weight_limit = 65536

-- The most joins that an entry may have.
abbrev pub joins_limit : ℕ
joins_limit = 1024

-- Why a stack isn't accepted: a node of this kind at this place, counted from 0, lies on a cycle; an entry is too
-- heavy, with the weight of the heaviest; or an entry makes too many joins.
pub data Refusal : Type 0 where
  cycle : (place : ℕ) → Kind → Refusal
  too_many : (weight : ℕ) → Refusal
  too_many_joins : Refusal

-- A number, or the largest that 32 bits hold, if it is larger.
abbrev pub held_at_most : ℕ → ℕ
held_at_most n = min n 4294967295

-- The judgement of a stack whose first node on a cycle is this, if it has one: refused for the cycle, for the weight of
-- its heaviest entry or for too many joins, in this order, and else accepted.
abbrev pub without_cycle : List LayerTree → Option Node → Result (List LayerTree) Refusal
without_cycle stack (Some node) = Err (cycle (node.at - 1) node.kind)
without_cycle stack None =
    if nat_lt weight_limit (largest_weight stack) then Err (too_many (held_at_most (largest_weight stack)))
    else if nat_lt joins_limit (largest_joins stack) then Err too_many_joins
    else Ok stack

-- A stack that is accepted, or the first reason why it isn't. Cycles are judged first: the lowest place on one, and
-- there the first kind.
abbrev pub acceptance : List LayerTree → Result (List LayerTree) Refusal
acceptance stack = without_cycle stack (first_on_cycle stack)

-- How many rows with messages a queue of a capacity keeps at most: none, if its rows carry no message.
abbrev pub capacity_for : ItemsTree → ℕ → ℕ
capacity_for items capacity = option_map_or (λ carried. capacity) items.message 0

-- How many rows with messages a cell of a form keeps at most, at a member of a view of n.
abbrev pub message_rows : ℕ → Form → ℕ
message_rows n (numbers shape initial) = 0
message_rows n (queue capacity items) = capacity_for items capacity
message_rows n (queues capacity items) = capacity_for items capacity * n

-- The most rows with messages that a member of a view of n keeps.
abbrev pub rows_of : List LayerTree → ℕ → ℕ
rows_of stack n = sum_by (λ layer. sum_by (λ cell. message_rows n cell.form) layer.cells) stack

-- The most rows with messages that a member may keep.
abbrev pub most_rows : ℕ
most_rows = 8192
