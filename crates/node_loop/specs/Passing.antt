-- Lines that are put and datagrams that are handed on, act by act.
use Rattle.std.specs.Prelude.{◌≡◌, ℕ, ◌≤◌, Bool, List, [], ◌∷◌, ◌++◌, map, length, Result, Ok, Err}
use Rattle.outside.specs.Links.{Listen, Network}
use Rattle.outside.specs.declared.sink.SinkError.{SinkError}
use Rattle.outside.specs.declared.sink.SinkError.TheVariants.{Failed, Memory}
use Rattle.run_mean.specs.Journal.{Handed, Heard}
use Rattle.outside.specs.Lines.{Begins, Fails, Gains}
use Rattle.outside.specs.Tells as sink
use Rattle.node_laws.specs.Acts.{Act, puts, sends, lines_in, sends_in}
use Rattle.node_laws.specs.Losses.{failures_in}
use Rattle.node_laws.specs.Network.{Tells, after_sends, fates_of, met_as, sent_as}
use Rattle.node_loop.specs.Around.{Around, count_on}

-- A network took these datagrams, and those sendings failed that were to fail.
pub record Takes (handed : List Handed) (failed : List Bool) (n n' : Network) : Type 0 where
  pub failed_are : failed ≡ fates_of (length handed) n.fates
  pub is : n' ≡ after_sends handed n

-- These acts were done, and it is told which of their sendings failed.
pub record Passes (acts : List Act) (failed : List Bool) (a b : Around) : Type 0 where
  pub gained : Gains a.output b.output (lines_in acts)
  pub each : length failed ≡ length (sends_in acts)
  pub faults : b.faults ≡ a.faults
  pub sendings : b.sends ≡ count_on a.sends (failures_in failed)
  pub told : Tells (Takes (sends_in acts) failed) a.told b.told

-- What was handed to a network, and what was heard of it.
pub record HandedSome (sent : List Handed) (heard : List Heard) (n n' : Network) : Type 0 where
  pub handed : n'.handed ≡ n.handed ++ map sent_as sent
  pub met : n'.met ≡ n.met ++ map met_as heard

-- These listens came, this was handed to a network, and this was heard of it.
pub record WentOn (listens : List Listen) (sent : List Handed) (heard : List Heard) (n n' : Network) : Type 0 where
  pub listened : n'.listened ≡ n.listened ++ listens
  pub some : HandedSome sent heard n n'

-- The lines of the acts that were done were put, and the put of the next act's line failed.
pub record StopsAtPut (done rest : List Act) (a b : sink.Tells) : Type 0 where
  pub line : List ℕ
  pub more : List Act
  pub next : rest ≡ puts line ∷ more
  pub mid : sink.Tells
  pub put : Gains a mid (lines_in done)
  pub fails : Fails mid b (line ∷ [])

-- The line of the next act, if this puts one; else no bytes.
abbrev pub next_line : List Act → List ℕ
next_line [] = []
next_line (puts line ∷ acts) = line
next_line (sends handed ∷ acts) = []

-- The lines of the acts that were done were put, and memory ran out in the next act, of whose line a part may be put.
pub record StopsForMemory (done rest : List Act) (a b : sink.Tells) : Type 0 where
  pub mid : sink.Tells
  pub put : Gains a mid (lines_in done)
  pub begun : Begins mid b (next_line rest)

abbrev pub Stops : SinkError → List Act → List Act → sink.Tells → sink.Tells → Type 0
Stops Failed done rest a b = StopsAtPut done rest a b
Stops Memory done rest a b = StopsForMemory done rest a b

-- Acts, which depend on the sendings that failed, were broken off.
pub record Breaks (acts : List Bool → List Act) (e : SinkError) (a b : Around) : Type 0 where
  pub failed : List Bool
  pub done : List Act
  pub rest : List Act
  pub are : acts failed ≡ done ++ rest
  pub few : length failed ≤ length (sends_in done)
  pub stopped : Stops e done rest a.output b.output
  pub faults : b.faults ≡ a.faults
  pub sendings : b.sends ≡ count_on a.sends (failures_in failed)
  pub told : Tells (WentOn [] (sends_in done) []) a.told b.told

-- Acts, which depend on the sendings that failed, were done.
pub record PassesAll (acts : List Bool → List Act) (a b : Around) : Type 0 where
  pub failed : List Bool
  pub passed : Passes (acts failed) failed a b

-- They were done, or broken off.
abbrev pub Handles : (List Bool → List Act) → Around → Around → Result (Unit {0}) SinkError → Type 0
Handles acts a b (Ok done) = PassesAll acts a b
Handles acts a b (Err e) = Breaks acts e a b
