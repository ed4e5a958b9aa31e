-- An event with a message that is put after others.
use Rattle.std.specs.Prelude.{◌≡◌, Bool, true, false, List, [], ◌∷◌, ◌++◌, Some}
use Rattle.circular_buffer.specs.Buffer.{Buffer, buffer}
use Rattle.slot_pool.specs.Held.{Held, IsFull}
use Rattle.msg_core.specs.Chain.{Content}
use Rattle.layer_words.specs.declared.events.Dir.{Dir}
use Rattle.layer_mean.specs.declared.envelope.Envelope.{Envelope}
use Rattle.pool_message.specs.Moves.{Made}
use Rattle.pool_message.specs.Sent.{pool_event}
use Rattle.pool_message.specs.declared.event.PoolEvent.{PoolEvent}
use Rattle.pool_message.specs.declared.message.PoolMessage.{PoolMessage}

-- In a pool that wasn't full a message was made that shows this, and an event with it is the last.
pub record PutLast (p : List Held) (old : Buffer (Dir × PoolEvent)) (dir : Dir) (envelope : Envelope)
    (content : Content) (q : List Held)
    (new : Buffer (Dir × PoolEvent)) : Type 0 where
  pub message : PoolMessage
  pub made : Made p q [] content message
  pub last : new ≡ buffer (old.items ++ (dir, pool_event envelope (Some message)) ∷ []) old.capacity
  pub room : IsFull p → ⊥

-- Such an event was put; or the pool is full, and nothing has changed.
abbrev pub Puts : List Held → Buffer (Dir × PoolEvent) → Dir → Envelope → Content → List Held →
    Buffer (Dir × PoolEvent) → Bool → Type 0
Puts p old dir envelope content q new true = PutLast p old dir envelope content q new
Puts p old dir envelope content q new false = IsFull p × (q ≡ p) × (new ≡ old)
