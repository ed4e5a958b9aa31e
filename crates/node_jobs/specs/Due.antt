-- When each status of a node is due, but for want of memory.
use Rattle.std.specs.Prelude.{◌≡◌, ◌⊎◌, ℕ, ◌*◌, ◌≤◌, false, length, replicate, Option, Some, None}
use Rattle.outside.specs.Count.{Rose}
use Rattle.outside.specs.Links.{Network}
use Rattle.outside.specs.Shelf.{Shelved}
use Rattle.group_mean.specs.Node.{receiving}
use Rattle.end_mean.specs.Status.{Ended, done, file_refused, second_refused, read_failed, status_number}
use Rattle.job_ends.specs.Comes.{Around, BadFile, BadSecond, Unfound}
use Rattle.job_ends.specs.Due.{Due, NoPutFailed}
use Rattle.node_laws.specs.Losses.{failures_in}
use Rattle.node_loop.specs.Serve.{MadeAllTurns, flags_of}
use Rattle.node_jobs.specs.Comes.{Beyond, Node, Good, Ran, job_of}

-- A network lets a node's members listen, and fails no more of its receives than are borne.
pub record IsBorne (w : Node) (n : Network) : Type 0 where
  pub listens : flags_of (length w.me) n.listens ≡ replicate (length w.me) false
  pub receives : failures_in (flags_of (w.turns * length (receiving w.me)) n.recvs) ≤ w.patience

-- The network bore the node: it tells so; or, where it doesn't tell, its count of failed listens and receives didn't
-- rise, nor does it stand at its last value.
abbrev pub LinksBear : Node → (told : Option Network) → (faults faults_after : ℕ) → Type 0
LinksBear w (Some n) faults after = IsBorne w n
LinksBear w None faults after = Rose faults after → ⊥

-- What a node's reads find on this shelf, and what its network is to do, call for an end.
abbrev pub CallsFor : Node → Around → Beyond → Shelved → Ended → Type 0
CallsFor w a n shelf done = Good w (Some shelf) × NoPutFailed a × LinksBear w n.told n.faults n.faults_after
CallsFor w a n shelf (file_refused fault) = BadFile (job_of w) (Some shelf) fault
CallsFor w a n shelf (second_refused fault) = BadSecond (job_of w) (Some shelf) fault
CallsFor w a n shelf read_failed = Unfound (job_of w) (Some shelf)
CallsFor w a n shelf _ = ⊥

-- Where the shelf tells, each end comes where it is called for: 1 where the file is found and refused; 3 where it is
-- good and the plan is found and refused, hasn't an own member, or has members with too many rows; 4 where one of the
-- two isn't found; and where they are found and good, no put failed and the network bore the node, 0, and all turns
-- were made.
pub record NodeExact (w : Node) (a : Around) (n : Beyond) (status : ℕ) : Type 0 where
  pub due : (shelf : Shelved) (end : Ended) → a.told ≡ Some shelf → CallsFor w a n shelf end →
      Due (status_number end) status
  pub complete : (shelf : Shelved) → Good w (Some shelf) → a.told ≡ Some shelf → NoPutFailed a →
      LinksBear w n.told n.faults n.faults_after →
      Ran w a n MadeAllTurns ⊎ (status ≡ 7)
