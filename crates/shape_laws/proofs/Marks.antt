-- A marked run is the run without its marks.
use Rattle.std.proofs.Common.{◌≡◌, ℕ, zero, suc, ◌+◌, ◌-◌, Bool, true, false, List, [], ◌∷◌, ◌++◌, map, Some, refl, sym}
use Rattle.std.proofs.Common.{ap, subst, ◌∙◌}
use Rattle.std.specs.Prelude.{if◌then◌else◌, length}
use Rattle.std.specs.List.{enumerate_from}
use Rattle.std.proofs.lemmas.List.{length-append, map-append}
use Rattle.layer_words.specs.declared.events.Dir.{Dir}
use Rattle.layer_mean.specs.declared.run.Event.{Event}
use Rattle.layer_mean.specs.Tree.{LayerTree}
use Rattle.layer_mean.specs.Visit.{Visited, step}
use Rattle.layer_mean.specs.Queue.{Task, Turn, Line, beyond, tasks_of, is_place, next_of, run_for, Work, layer_at}
use Rattle.layer_mean.specs.Queue.{state_at, visit_turn, layers, run}
use Rattle.layer_mean.specs.Marked.{Marked, Log, marked_sent, marking_player}
use Rattle.shape_laws.specs.Law.{run_start}
use Rattle.shape_laws.specs.Marks.{Tells, LogsTellRuns}
use Rattle.shape_laws.proofs.Runs.{RunLine, first_turn}

abbrev unmarked : Task (Marked Event) → Task Event
unmarked t = record { at = t.at; dir = t.dir; event = t.event.event }

sent_unmarked : (at visit : ℕ) (sent : List (Dir × Event)) (n : ℕ) →
    map unmarked (tasks_of at
    (map (λ x. (x.1.0, record { event = x.1.1; made_by = Some (record { visit = visit; emission = x.0 }) }))
    (enumerate_from n sent)))
    ≡ tasks_of at sent
sent_unmarked at visit [] n = refl
sent_unmarked at visit (x ∷ xs) n = ap (λ ts. record { at = beyond x.0 at; dir = x.0; event = x.1 } ∷ ts)
    (sent_unmarked at visit xs _)

-- the log of a run in which these tasks are pending
record Told (log : Log Work Event) : Type 0 where
  outs : map (λ x. (x.dir, x.marked.event)) log.outs ≡ log.world.outs
  visits : length log.visits ≡ log.world.visits

turn_unmarked : (stack : List LayerTree) (tasks : List (Task (Marked Event))) (log : Log Work Event) → Told log →
    let r = next_of (length stack) (marking_player (layers stack)) tasks log in
    let q = next_of (length stack) (layers stack) (map unmarked tasks) log.world in
    (r.world.world ≡ q.world) × (map unmarked r.tasks ≡ q.tasks) × Told r.world
turn_unmarked stack [] log h = (refl, refl, h)
turn_unmarked stack (t ∷ rest) log h = go (is_place (length stack) t.at) where
  v : Visited
  v = step (t.at - 1) (layer_at stack t.at) (state_at log.world t.at) t.dir t.event.event

  turn : Turn Work Event
  turn = visit_turn t.at log.world v

  r : Bool → RunLine
  r b = if b
      then record {
        world = record {
          world = turn.world;
          visits = log.visits ++ record { at = t.at; dir = t.dir; marked = t.event }
              ∷ [];
          outs = log.outs;
        };
        tasks = rest ++ tasks_of t.at (marked_sent (length log.visits) turn.sent);
      }
      else record { world = (marking_player (layers stack)).output t.dir t.event log; tasks = rest }

  q : Bool → Line Work Event
  q b = if b then record { world = turn.world; tasks = map unmarked rest ++ tasks_of t.at turn.sent }
      else record { world = (layers stack).output t.dir t.event.event log.world; tasks = map unmarked rest }

  go : (b : Bool) → ((r b).world.world ≡ (q b).world) × (map unmarked (r b).tasks ≡ (q b).tasks) × Told (r b).world
  go true = (
    refl,
    map-append unmarked rest _ ∙
        ap (λ ts. map unmarked rest ++ ts) (sent_unmarked t.at (length log.visits) turn.sent 0),
    record { outs = h.outs; visits = length-append log.visits _ ∙ ap (λ n. n + 1) h.visits },
  )
  go false = (
    refl,
    refl,
    record {
      outs = map-append (λ x. (x.dir, x.marked.event)) log.outs _ ∙ ap (λ xs. xs ++ (t.dir, t.event.event) ∷ []) h.outs;
      visits = h.visits;
    },
  )

runs_unmarked : (stack : List LayerTree) (k : ℕ) (log : Log Work Event) (tasks : List (Task (Marked Event))) →
    Told log →
    Tells (run_for (length stack) (marking_player (layers stack)) k (record { world = log; tasks = tasks }))
    (run_for (length stack) (layers stack) k (record { world = log.world; tasks = map unmarked tasks }))
runs_unmarked stack zero log tasks h = record { world = refl; tasks = refl; outs = h.outs; visits = h.visits }
runs_unmarked stack (suc k) log tasks h =
    let turn = turn_unmarked stack tasks log h in
    let r : RunLine = next_of (length stack) (marking_player (layers stack)) tasks log in
    let q : Line Work Event = next_of (length stack) (layers stack) (map unmarked tasks) log.world in
    let same : ◌≡◌ {A = Line Work Event} (record { world = r.world.world; tasks = map unmarked r.tasks }) q =
    λ i. record { world = turn.0 i; tasks = turn.1 i } in
    let rest = runs_unmarked stack k r.world r.tasks turn.2 in
    subst {A = RunLine × Line Work Event} (λ x. Tells x.0 x.1)
    (λ i. (
      sym (first_turn (length stack) (marking_player (layers stack)) k tasks log) i,
      (ap (run_for (length stack) (layers stack) k) same ∙
          sym (first_turn (length stack) (layers stack) k (map unmarked tasks) log.world)) i,
    ))
    rest

pub logs_tell_runs : LogsTellRuns
unfolding run
logs_tell_runs stack states task most =
    runs_unmarked stack most (run_start states task).world (run_start states task).tasks
    (record { outs = refl; visits = refl })
