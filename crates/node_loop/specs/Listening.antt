-- How the listens of a node's members end.
use Rattle.std.specs.Prelude.{◌≡◌, ℕ, ◌+◌, ◌<◌, true, false, List, [], ◌∷◌, ◌++◌, length, take, replicate, Option}
use Rattle.std.specs.Prelude.{Result, Ok, Err}
use Rattle.outside.specs.Count.{next_count}
use Rattle.outside.specs.Links.{Network}
use Rattle.outside.specs.declared.links.Peer.{Peer}
use Rattle.node_laws.specs.Network.{Tells}
use Rattle.node_loop.specs.Serve.{after_listens, flags_of}
use Rattle.node_loop.specs.declared.error.NodeError.{NodeError}
use Rattle.node_loop.specs.declared.error.NodeError.TheVariants.{Link, Write, Memory}

-- The listens of these members went well.
pub record Listened (peers : List Peer) (me : List ℕ) (n n' : Network) : Type 0 where
  pub flags : flags_of (length me) n.listens ≡ replicate (length me) false
  pub is : n' ≡ after_listens peers me n

-- Some did, and memory ran out.
pub record ListenedSome (peers : List Peer) (me : List ℕ) (n n' : Network) : Type 0 where
  pub some : ℕ
  pub is : n' ≡ after_listens peers (take some me) n

-- Some did, and the next failed.
pub record ListenedNot (peers : List Peer) (me : List ℕ) (n n' : Network) : Type 0 where
  pub some : ℕ
  pub within : some < length me
  pub flags : flags_of (some + 1) n.listens ≡ replicate some false ++ true ∷ []
  pub is : n' ≡ after_listens peers (take (some + 1) me) n

abbrev pub ListensAll : List Peer → (me : List ℕ) → (faults faults_after : ℕ) → (told told_after : Option Network) →
    Result (Unit {0}) NodeError → Type 0
ListensAll peers me faults after told told_after (Ok done) = (after ≡ faults) ×
    Tells (Listened peers me) told told_after
ListensAll peers me faults after told told_after (Err Link) = (after ≡ next_count faults) ×
    Tells (ListenedNot peers me) told told_after
ListensAll peers me faults after told told_after (Err Memory) = (after ≡ faults) ×
    Tells (ListenedSome peers me) told told_after
ListensAll peers me faults after told told_after (Err Write) = ⊥
