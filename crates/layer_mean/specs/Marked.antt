-- Who made what: a player of the queue with a log of its visits and outputs, and of the maker of each.
use Rattle.std.specs.Prelude.{ℕ, List, [], ◌∷◌, ◌++◌, map, length, Option, Some, None}
use Rattle.std.specs.List.{enumerate_from}
use Rattle.layer_words.specs.declared.events.Dir.{Dir}
use Rattle.layer_mean.specs.Queue.{Task, Turn, Player, Line, starting}

-- The maker of an event: a visit, counted from 0 in the order of visits, and an emission of it, counted from 0 in the
-- order in which that visit sent.
pub record Source : Type 0 where
  pub visit : ℕ
  pub emission : ℕ

-- An event with its maker; the event that a run begins with has none.
pub record Marked (E : Type 0) : Type 0 where
  pub event : E
  pub made_by : Option Source

-- A visit or an output: at which place or edge of the queue, in which direction, of which event.
pub record Logged (E : Type 0) : Type 0 where
  pub at : ℕ
  pub dir : Dir
  pub marked : Marked E

-- A world with a log of the visits and of the outputs so far.
pub record Log (W E : Type 0) : Type 0 where
  pub world : W
  pub visits : List (Logged E)
  pub outs : List (Logged E)

-- What a visit sent, each emission marked with it.
abbrev pub marked_sent : {E : Type 0} → ℕ → List (Dir × E) → List (Dir × Marked E)
marked_sent visit sent =
    map (λ x. (x.1.0, record { event = x.1.1; made_by = Some (record { visit = visit; emission = x.0 }) }))
    (enumerate_from 0 sent)

-- What a logged visit leaves: the world after it, the log with this visit as its last, and what it sent, each emission
-- marked with the number of the visit.
abbrev pub marked_turn : {W E : Type 0} → Log W E → Logged E → Turn W E → Turn (Log W E) (Marked E)
marked_turn log entry turn = record {
  world = record { world = turn.world; visits = log.visits ++ entry ∷ []; outs = log.outs };
  sent = marked_sent (length log.visits) turn.sent;
}

-- A player that logs what another plays. The edge of an output is told by its direction, and stands as 0.
abbrev pub marking_player : {W E : Type 0} → Player W E → Player (Log W E) (Marked E)
marking_player play = record {
  visit = λ at dir e log.
      marked_turn log (record { at = at; dir = dir; marked = e }) (play.visit at dir e.event log.world);
  output = λ dir e log. record {
    world = play.output dir e.event log.world;
    visits = log.visits;
    outs = log.outs ++ record { at = 0; dir = dir; marked = e } ∷ [];
  };
}

-- A marked run before its first turn.
abbrev pub marked_start : {W E : Type 0} → W → Task E → Line (Log W E) (Marked E)
marked_start w first = starting (record { world = w; visits = []; outs = [] })
    (record { at = first.at; dir = first.dir; event = record { event = first.event; made_by = None } })
