-- What readers of numbers, messages and queues answer: where they take something, nodes that stand for it.
use Rattle.std.specs.Prelude.{ℕ, ◌≡◌, List, Option, Some, None, Result, Ok, Err}
use Rattle.layer_mean.specs.Tree.{LayerTree}
use Rattle.trace_mean.specs.Trace.{TraceMessage, TraceNumber, element, square}
use Rattle.pack_mean.specs.Reader.{Reader, ◌>>=◌, a_name}
use Rattle.pack_mean.specs.Named.{Named}
use Rattle.pack_mean.specs.Expression.{QueueNamed, a_cell, inside, most_brackets}
use Rattle.trace_core.specs.declared.node.Node.{Node}
use Rattle.trace_core.specs.Arena.{Made}
use Rattle.trace_core.specs.View.{Term, a_message, a_number, message_in, number_in, terms}
use Rattle.pack_words.specs.declared.error.LineError.{LineError}
use Rattle.pack_words.specs.declared.error.LineError.TheVariants.{Form, Memory}
use Rattle.pack_read.specs.declared.queued.PackedQueue.{PackedQueue}
use Rattle.pack_read.specs.declared.targeted.Target.{Target}
use Rattle.pack_read.specs.declared.targeted.Target.TheVariants as targets

-- A queue, and a number of a cell, by nodes.
abbrev pub queue_in : List Term → PackedQueue → QueueNamed
queue_in ts q = record { place = q.spot.place; cell = q.spot.cell; index = number_in ts q.index }

abbrev pub target_in : List Term → Target → TraceNumber
target_in ts (targets.Element spot index) = element spot.place spot.cell (number_in ts index)
target_in ts (targets.Square spot row column) = square spot.place spot.cell (number_in ts row) (number_in ts column)

-- The number of a cell that is to be set.
abbrev pub a_target : List LayerTree → Named → Reader TraceNumber
a_target stack s = a_name >>= a_cell stack (inside stack s most_brackets)

-- Nodes were added, and the one of this number is a number.
abbrev pub NumberMade : List Node → List Node → ℕ → Type 0
NumberMade old new k = Made old new k (a_number (number_in (terms new) k))

abbrev pub TargetMade : List Node → List Node → Target → Type 0
TargetMade old new (targets.Element spot index) = NumberMade old new index
TargetMade old new (targets.Square spot row column) = NumberMade old new row × NumberMade old new column

-- What was taken, the bytes after it, and the nodes that stand for it.
pub record NumberRead (taken : Option (TraceNumber × List ℕ)) (old new : List Node) (rest : List ℕ) (k : ℕ) : Type 0
  where
    pub is : taken ≡ Some (number_in (terms new) k, rest)
    pub made : NumberMade old new k

pub record MessageRead (taken : Option (TraceMessage × List ℕ)) (old new : List Node) (rest : List ℕ) (k : ℕ) : Type 0
  where
    pub is : taken ≡ Some (message_in (terms new) k, rest)
    pub made : Made old new k (a_message (message_in (terms new) k))

pub record QueueRead (taken : Option (QueueNamed × List ℕ)) (old new : List Node) (rest : List ℕ)
    (q : PackedQueue) : Type 0 where
  pub is : taken ≡ Some (queue_in (terms new) q, rest)
  pub made : NumberMade old new q.index

pub record TargetRead (taken : Option (TraceNumber × List ℕ)) (old new : List Node) (rest : List ℕ) (t : Target) : Type
    0 where
  pub is : taken ≡ Some (target_in (terms new) t, rest)
  pub made : TargetMade old new t

-- A reader took this and nodes stand for it; or it takes nothing; or memory was wanted.
abbrev pub ReadsNumber : Option (TraceNumber × List ℕ) → List Node → List Node → List ℕ → Result ℕ LineError → Type 0
ReadsNumber taken old new rest (Ok k) = NumberRead taken old new rest k
ReadsNumber taken old new rest (Err Form) = taken ≡ None
ReadsNumber taken old new rest (Err Memory) = Unit {0}

abbrev pub ReadsMessage : Option (TraceMessage × List ℕ) → List Node → List Node → List ℕ → Result ℕ LineError → Type 0
ReadsMessage taken old new rest (Ok k) = MessageRead taken old new rest k
ReadsMessage taken old new rest (Err Form) = taken ≡ None
ReadsMessage taken old new rest (Err Memory) = Unit {0}

abbrev pub ReadsQueue : Option (QueueNamed × List ℕ) → List Node → List Node → List ℕ → Result PackedQueue LineError →
    Type 0
ReadsQueue taken old new rest (Ok q) = QueueRead taken old new rest q
ReadsQueue taken old new rest (Err Form) = taken ≡ None
ReadsQueue taken old new rest (Err Memory) = Unit {0}

abbrev pub ReadsTarget : Option (TraceNumber × List ℕ) → List Node → List Node → List ℕ → Result Target LineError →
    Type 0
ReadsTarget taken old new rest (Ok t) = TargetRead taken old new rest t
ReadsTarget taken old new rest (Err Form) = taken ≡ None
ReadsTarget taken old new rest (Err Memory) = Unit {0}
