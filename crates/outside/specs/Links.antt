-- What links between members tell, and what each call on them does.
use Rattle.std.specs.Prelude.{◌≡◌, ℕ, ◌==◌, Bool, true, false, List, [], ◌∷◌, ◌++◌, take, drop, Option, None, Some}
use Rattle.std.specs.Prelude.{Result, Ok, Err, IfSome, if◌then◌else◌}
use Rattle.std.specs.Option.{option_map}
use Rattle.outside.specs.declared.links.LinkError.{LinkError}
use Rattle.outside.specs.declared.links.LinkError.TheVariants.{Failed, Memory}
use Rattle.outside.specs.declared.links.Peer.{Peer}
use Rattle.outside.specs.declared.links.Fate.{Fate}
use Rattle.outside.specs.declared.links.Fate.TheVariants.{Fails, Lost, Once, Twice, First}
use Rattle.outside.specs.Count.{next_count}
use Rattle.outside.specs.Shelf.{is_next_to_fail}

-- a listen: which member listens, and where each member is reached
pub record Listen : Type 0 where
  pub member : ℕ
  pub peers : List Peer

-- a listen of this member, where the members are reached at these peers
abbrev pub listen_of : List Peer → ℕ → Listen
listen_of peers member = record { member = member; peers = peers }

-- a datagram: who sent it, to whom, and its bytes
pub record Sent : Type 0 where
  pub from : ℕ
  pub to : ℕ
  pub bytes : List ℕ

-- what a call of recv met: a datagram, nothing, or a failure
pub data Met : Type 0 where
  Came : List ℕ → Met
  Quiet : Met
  Broke : Met

-- What links tell. So far: who was to listen and where, and what was handed to send, both with the calls that failed,
-- and what the calls of recv met, each in order. Now: what waits to be received. For the calls to come, in order: what
-- becomes of each send, and which calls of listen and of recv are to fail; past the end of a list a send arrives once,
-- and no call is to fail
pub record Network : Type 0 where
  pub listened : List Listen
  pub handed : List Sent
  pub met : List Met
  pub waiting : List Sent
  pub fates : List Fate
  pub listens : List Bool
  pub recvs : List Bool

-- the count of failed calls of one kind after a call of this kind with this answer
abbrev pub faults_after_call : {T : Type 0} → ℕ → Result T LinkError → ℕ
faults_after_call count (Ok done) = count
faults_after_call count (Err Failed) = next_count count
faults_after_call count (Err Memory) = count

-- what becomes of the next send
abbrev pub next_fate : List Fate → Fate
next_fate [] = Once
next_fate (fate ∷ later) = fate

-- whether a send of this fate fails
abbrev pub is_failure : Fate → Bool
is_failure Fails = true
is_failure Lost = false
is_failure Once = false
is_failure Twice = false
is_failure First = false

-- what waits after a send of this fate: a datagram may be lost, come once or twice after the others, or overtake them
abbrev pub waiting_after : Fate → Sent → List Sent → List Sent
waiting_after Fails sent waiting = waiting
waiting_after Lost sent waiting = waiting
waiting_after Once sent waiting = waiting ++ sent ∷ []
waiting_after Twice sent waiting = waiting ++ sent ∷ sent ∷ []
waiting_after First sent waiting = sent ∷ waiting

-- the first datagram that waits for a member
abbrev pub first_for : ℕ → List Sent → Option (List ℕ)
first_for member [] = None
first_for member (sent ∷ waiting) = if sent.to == member then Some sent.bytes else first_for member waiting

-- what waits once that datagram was received
abbrev pub without_first : ℕ → List Sent → List Sent
without_first member [] = []
without_first member (sent ∷ waiting) = if sent.to == member then waiting else sent ∷ without_first member waiting

-- a network after a listen
abbrev pub after_listen : Listen → Network → Network
after_listen listen n = record n { listened = n.listened ++ listen ∷ []; listens = drop 1 n.listens }

-- a network after a send
abbrev pub after_send : Sent → Network → Network
after_send sent n = record n {
  handed = n.handed ++ sent ∷ [];
  waiting = waiting_after (next_fate n.fates) sent n.waiting;
  fates =
      drop 1 n.fates;
}

-- what the next recv of a member meets
abbrev pub next_met : ℕ → Network → Met
next_met member n = if is_next_to_fail n.recvs then Broke else elim (first_for member n.waiting)
    [ None ↦ Quiet | Some bytes ↦ Came bytes ]

-- a network after a recv of a member
abbrev pub after_recv : ℕ → Network → Network
after_recv member n =
    record n {
      met = n.met ++ next_met member n ∷ [];
      waiting =
          if is_next_to_fail n.recvs then n.waiting else without_first member n.waiting;
      recvs = drop 1 n.recvs;
    }

-- what a listen does where the links tell: it fails exactly where it is to fail; where memory ends, nothing changes
abbrev pub Listens : {T : Type 0} → Listen → Option Network → Option Network → Result T LinkError → Type 0
Listens listen old new (Ok done) = IfSome old (λ n. is_next_to_fail n.listens ≡ false) ×
    (new ≡ option_map (after_listen listen) old)
Listens listen old new (Err Failed) = IfSome old (λ n. is_next_to_fail n.listens ≡ true) ×
    (new ≡ option_map (after_listen listen) old)
Listens listen old new (Err Memory) = new ≡ old

-- what a send does where the links tell: it fails exactly where it is to fail; where memory ends, nothing changes
abbrev pub Sends : {T : Type 0} → Sent → Option Network → Option Network → Result T LinkError → Type 0
Sends sent old new (Ok done) = IfSome old (λ n. is_failure (next_fate n.fates) ≡ false) ×
    (new ≡ option_map (after_send sent) old)
Sends sent old new (Err Failed) = IfSome old (λ n. is_failure (next_fate n.fates) ≡ true) ×
    (new ≡ option_map (after_send sent) old)
Sends sent old new (Err Memory) = new ≡ old

-- what a recv does where the links tell: it answers what it meets; where memory ends, nothing changes
abbrev pub Receives : ℕ → List ℕ → Option Network → Option Network → Result (Option ℕ) LinkError → Type 0
Receives member into old new (Ok (Some k)) = IfSome old (λ n. next_met member n ≡ Came (take k into)) ×
    (new ≡ option_map (after_recv member) old)
Receives member into old new (Ok None) = IfSome old (λ n. next_met member n ≡ Quiet) ×
    (new ≡ option_map (after_recv member) old)
Receives member into old new (Err Failed) = IfSome old (λ n. next_met member n ≡ Broke) ×
    (new ≡ option_map (after_recv member) old)
Receives member into old new (Err Memory) = new ≡ old

-- which bytes of the buffer a recv writes: the first ones, which the datagram took, and none where there was no
-- datagram
abbrev pub WritesFront : List ℕ → List ℕ → Result (Option ℕ) LinkError → Type 0
WritesFront old new (Ok (Some k)) = drop k new ≡ drop k old
WritesFront old new (Ok None) = new ≡ old
WritesFront old new (Err e) = new ≡ old
