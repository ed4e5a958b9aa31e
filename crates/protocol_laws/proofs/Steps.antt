-- What any step sends and delivers: its packets are from the member's rank, its deliveries the member's, and no output
-- tells of a view.
use Rattle.std.proofs.Common.{◌≡◌, ℕ, ◌+◌, ◌==◌, ◌&&◌, not, Bool, true, false, List, [], ◌∷◌, ◌++◌, map, length, refl}
use Rattle.std.proofs.Common.{sym}
use Rattle.std.proofs.Common.{subst}
use Rattle.std.specs.Prelude.{nat_lt, if◌then◌else◌}
use Rattle.std.specs.List.{AllByRecursion, filter_map, flat_map}
use Rattle.std.proofs.lemmas.List.Concat.{flat_map-cons}
use Rattle.msg_core.specs.View.{member_count}
use Rattle.msg_core.specs.declared.packet.Dest.TheVariants.{Rank}
use Rattle.msg_core.specs.declared.packet.Packet.{Packet}
use Rattle.layer_words.specs.declared.events.Dir.{Dir}
use Rattle.layer_words.specs.declared.events.Dir.TheVariants.{Up, Down}
use Rattle.layer_words.specs.declared.events.Kind.{Kind}
use Rattle.layer_words.specs.declared.events.Kind.TheVariants as kind
use Rattle.layer_mean.specs.declared.run.Event.{Event}
use Rattle.audit_mean.specs.Segment.{Entry}
use Rattle.packet_mean.specs.declared.here.Here.{Here}
use Rattle.chain_laws.proofs.Lists.{Where}
use Rattle.member_laws.proofs.Members.{cons_each}
use Rattle.run_mean.specs.Member.{Output, deliver_cast, deliver_send, block, announce, packet, packet_to}
use Rattle.run_mean.specs.Member.{nowhere, timer, quiet}
use Rattle.run_mean.specs.Member.{above, below, output_of, packet_in}
use Rattle.order_laws.specs.Said.{output_said}
use Rattle.order_laws.specs.Calm.{AreCalm, deliveries_from}
use Rattle.order_laws.proofs.Calm.{calm_both, deliveries_both}

-- whether a packet is from a rank
abbrev pub IsFrom : ℕ → Packet → Type 0
IsFrom rank p = p.sender ≡ rank

from_above : (r : ℕ) (k : Kind) (e : Event) → Where (IsFrom r) (packet_in (above k e))
from_above r kind.Cast e = tt
from_above r kind.Send e = tt
from_above r kind.Block e = tt
from_above r kind.View e = tt
from_above r _ e = tt

from_below : (here : Here) (k : Kind) (e : Event) → Where (IsFrom here.rank) (packet_in (below here k e))
from_below here kind.Cast e = refl
from_below here kind.Send e = by (nat_lt e.peer (member_count here.view) && not (e.peer == here.rank)) where
  by : (b : Bool) → Where (IsFrom here.rank)
      (packet_in (if b then packet (packet_to here (Rank e.peer) e) else nowhere))
  by true = refl
  by false = tt
from_below here kind.Timer e = tt
from_below here _ e = tt

from_edge : (here : Here) (x : Dir × Event) → Where (IsFrom here.rank) (packet_in (output_of here x))
from_edge here (Up, e) = from_above here.rank e.kind e
from_edge here (Down, e) = from_below here e.kind e

pub sent_from : (here : Here) (outs : List (Dir × Event)) →
    AllByRecursion (IsFrom here.rank) (filter_map packet_in (map (output_of here) outs))
sent_from here [] = tt
sent_from here (x ∷ outs) =
    cons_each (IsFrom here.rank) (packet_in (output_of here x)) _ (from_edge here x) (sent_from here outs)

-- the lines of outputs are calm, and their deliveries are the member's

said_calm : (id : ℕ) (o : Output) → AreCalm (output_said id o)
said_calm id (deliver_cast peer body) = (tt, tt)
said_calm id (deliver_send peer body) = (tt, tt)
said_calm id (block a) = (tt, tt)
said_calm id (announce a) = (tt, tt)
said_calm id (packet p) = (tt, tt)
said_calm id nowhere = tt
said_calm id (timer a) = (tt, tt)
said_calm id (quiet dir event) = tt

pub outputs_calm : (id : ℕ) (outputs : List Output) → AreCalm (flat_map (output_said id) outputs)
outputs_calm id [] = tt
outputs_calm id (o ∷ outputs) =
    subst AreCalm (sym (flat_map-cons (output_said id) o outputs))
    (calm_both (output_said id o) (flat_map (output_said id) outputs) (said_calm id o) (outputs_calm id outputs))

abbrev pub IsOf : ℕ → Entry → Type 0
IsOf id e = e.member ≡ id

each_both : {A : Type 0} (P : A → Type 0) (xs ys : List A) → AllByRecursion P xs → AllByRecursion P ys →
    AllByRecursion P (xs ++ ys)
each_both P [] ys h more = more
each_both P (x ∷ xs) ys h more = (h.0, each_both P xs ys h.1 more)

said_of : (n id : ℕ) (o : Output) → AllByRecursion (IsOf id) (deliveries_from n (output_said id o))
said_of n id (deliver_cast peer body) = (refl, tt)
said_of n id (deliver_send peer body) = tt
said_of n id (block a) = tt
said_of n id (announce a) = tt
said_of n id (packet p) = tt
said_of n id nowhere = tt
said_of n id (timer a) = tt
said_of n id (quiet dir event) = tt

pub delivered_of : (n id : ℕ) (outputs : List Output) →
    AllByRecursion (IsOf id) (deliveries_from n (flat_map (output_said id) outputs))
delivered_of n id [] = tt
delivered_of n id (o ∷ outputs) =
    subst (λ lines. AllByRecursion (IsOf id) (deliveries_from n lines)) (sym (flat_map-cons (output_said id) o outputs))
    (subst (AllByRecursion (IsOf id)) (sym (deliveries_both n (output_said id o) (flat_map (output_said id) outputs)))
    (each_both (IsOf id) (deliveries_from n (output_said id o)) _ (said_of n id o)
    (delivered_of (n + length (output_said id o)) id outputs)))
