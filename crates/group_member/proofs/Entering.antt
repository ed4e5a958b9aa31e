-- What entered is the only task.
use Rattle.std.proofs.Common.{◌≡◌, ◌∙◌, ℕ, List, [], ◌∷◌, ◌++◌, length, Some, None, refl, sym, ap, subst, arith}
use Rattle.circular_buffer.specs.Buffer.{Buffer, buffer}
use Rattle.slot_pool.specs.Held.{Held}
use Rattle.slot_pool.specs.References.{Moved}
use Rattle.slot_pool.proofs.References.{moved-same}
use Rattle.msg_core.specs.Chain.{Content}
use Rattle.msg_core.specs.declared.packet.Dest.{Dest}
use Rattle.msg_core.specs.declared.packet.Dest.TheVariants as dest
use Rattle.msg_core.specs.declared.packet.Packet.{Packet}
use Rattle.layer_words.specs.declared.events.Dir.TheVariants as dir
use Rattle.layer_words.specs.declared.events.Kind.{Kind}
use Rattle.layer_mean.specs.declared.envelope.Envelope.{Envelope}
use Rattle.layer_mean.specs.Event.{event_of}
use Rattle.layer_mean.specs.declared.run.Event.{Event}
use Rattle.layer_mean.specs.Tree.{LayerTree}
use Rattle.layer_mean.specs.Queue.{Task}
use Rattle.pool_message.specs.Seen.{event_refs, EventLies}
use Rattle.packet_mean.specs.Plan.{kind_of}
use Rattle.packet_mean.specs.declared.here.Here.{Here}
use Rattle.run_mean.specs.Member as member
use Rattle.run_mean.specs.Member.{Entered, from_peer}
use Rattle.stack_queue.specs.Pending.{first_task, task_seen}
use Rattle.stack_queue.specs.Put.{carrying_task, PutLast}
use Rattle.stack_queue.specs.declared.tasks.PoolTask.{PoolTask}
use Rattle.group_member.specs.Entering.{Brings}
use Rattle.group_member.specs.Judged.{entry_meant}
use Rattle.group_member.specs.declared.entry.Entry.{Entry}

-- the task of what enters
abbrev pub entering : List LayerTree → Here → Entry → Task Event
entering stack here entry = member.first_task stack here.rank (entry_meant here entry)

-- the envelope of an event that names a peer; and the task of one of the application's
abbrev pub of_peer : Kind → ℕ → Envelope
of_peer kind peer = record { kind = kind; peer = peer; a = 0; b = 0 }

abbrev pub from_top : List LayerTree → Content → Envelope → Task Event
from_top stack content envelope =
    carrying_task (record { at = length stack; direction = dir.Down; envelope = envelope }) content

-- a task that is put where there was none is the only one
pub only_task : (old new : Buffer PoolTask) (task : PoolTask) → old.items ≡ [] →
    new ≡ buffer (old.items ++ task ∷ []) old.capacity →
    new ≡ buffer (task ∷ []) old.capacity
only_task old new task none last = last ∙ ap (λ ts. buffer (ts ++ task ∷ []) old.capacity) none

pub only_first : (old new : Buffer PoolTask) (task : PoolTask) → old.items ≡ [] →
    new ≡ buffer (old.items ++ task ∷ []) old.capacity →
    new ≡ buffer (first_task new.items ∷ []) old.capacity
only_first old new task none last =
    let only = only_task old new task none last in
    only ∙ ap (λ t. buffer (t ∷ []) old.capacity) (sym (ap (λ (b : Buffer PoolTask). first_task b.items) only))

module _ (stack : List LayerTree) (me : ℕ) (what : Entered) (p q : List Held) (old new : Buffer PoolTask)
    (none : old.items ≡ []) where
  brings : (task : PoolTask) → new ≡ buffer (old.items ++ task ∷ []) old.capacity → Brings stack me p q what task →
      Brings stack me p q what (first_task new.items)
  brings task last is =
      subst (Brings stack me p q what)
      (sym (ap (λ (b : Buffer PoolTask). first_task b.items) (only_task old new task none last))) is

  -- one with a message
  pub brings_carried : (shown : Task Event) → PutLast p old shown q new → shown ≡ member.first_task stack me what →
      Brings stack me p q what (first_task new.items)
  brings_carried shown put is = brings put.task put.last record {
    seen = put.seen ∙ is;
    moved = put.moved;
    lies = put.lies;
    slots = put.slots;
  }

-- and one without
pub brings_bare : (stack : List LayerTree) (me : ℕ) (what : Entered) (p : List Held) (old new : Buffer PoolTask)
    (task : PoolTask) →
    old.items ≡ [] → new ≡ buffer (old.items ++ task ∷ []) old.capacity → task.event.message ≡ None →
    task_seen p task ≡ member.first_task stack me what →
    Brings stack me p p what (first_task new.items)
brings_bare stack me what p old new task none last bare is = brings stack me what p p old new none task last record {
  seen = is;
  moved = subst (λ m. Moved p p [] (event_refs (record task.event { message = m }))) (sym bare) (moved-same p []);
  lies = subst (λ m. EventLies p (record task.event { message = m })) (sym bare) tt;
  slots = omega arith;
}

-- the task of a packet that came is told by its destination
pub packet_task : (stack : List LayerTree) (me : ℕ) (packet : Packet) →
    carrying_task (record { at = 1; direction = dir.Up; envelope = of_peer (kind_of packet.dest) packet.sender })
    packet.message
    ≡ member.first_task stack me (from_peer packet)
packet_task stack me packet = go packet.dest where
  go : (d : Dest) → carrying_task (record { at = 1; direction = dir.Up; envelope = of_peer (kind_of d) packet.sender })
      packet.message
      ≡ record { at = 1; dir = dir.Up; event = event_of (kind_of d) (packet.sender ∷ []) (Some packet.message) }
  go dest.All = refl
  go (dest.Rank r) = refl
