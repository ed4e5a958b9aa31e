-- Runs through the three layers, visit by visit: each visit by its layer's equation, while the rest of the run stays
-- folded.
use Rattle.std.proofs.Common.{◌≡◌, ℕ, zero, suc, ◌+◌, ◌-◌, ◌==◌, ◌%◌, ◌^◌, Bool, true, false, List, [], ◌∷◌, ◌++◌, refl}
use Rattle.std.proofs.Common.{ap, ◌∙◌}
use Rattle.std.proofs.lemmas.Bool.{eq-eqb}
use Rattle.msg_core.specs.Chain.{Content, plain}
use Rattle.msg_core.specs.declared.message.Header.{Header}
use Rattle.layer_words.specs.declared.events.Dir.{Dir}
use Rattle.layer_words.specs.declared.events.Dir.TheVariants.{Up, Down}
use Rattle.layer_mean.specs.declared.run.Event.{Event}
use Rattle.layer_mean.specs.Effect.{Decision, usual, unusual}
use Rattle.layer_mean.specs.Queue.{Task, Work, Line, run, run_for, layers, taken_turn, visit_turn}
use Rattle.layer_mean.specs.Queue.{is_place, layer_at, state_at}
use Rattle.layer_mean.specs.State.{State}
use Rattle.layer_mean.specs.Visit.{Visited, step}
use Rattle.layer_rows.specs.Words.{cast}
use Rattle.library_rows.specs.OrderStack.{stack}
use Rattle.total_laws.specs.Steps.{holding, after, net, none_of_local, none_of_total, num, ask, ordered, asked}
use Rattle.total_laws.specs.Steps.{sent_alone}
use Rattle.total_laws.specs.Steps.{send, from_above, from_below, Runs, FirstCasts, OthersCast, FirstIsAsked}
use Rattle.total_laws.specs.Steps.{OthersAreAsked, due_states, due_outs, OrderedComes, SendsPass, SentComes}
use Rattle.total_laws.specs.Steps.{LeavePasses}
use Rattle.total_laws.specs.Steps.{TickPasses, RunsAre}
use Rattle.total_laws.proofs.Visits.{gives, still, bottom_cast_down, bottom_send_down, bottom_cast_up, bottom_send_up}
use Rattle.total_laws.proofs.Visits.{local_cast_down, local_send_down, local_cast_up, local_send_up, counts, goes_down}
use Rattle.total_laws.proofs.Visits.{total_cast_down, is_asked, total_ask_up, comes_up, total_cast_up, total_send_down}
use Rattle.total_laws.proofs.Visits.{total_send_up}

-- the rest of a run, which stays folded
rest : ℕ → Line Work Event → Line Work Event
rest turns line = run_for 3 (layers stack) turns line

abbrev on_way : ℕ → Dir → Event → Task Event
on_way at dir event = record { at = at; dir = dir; event = event }

abbrev line : Work → List (Task Event) → Line Work Event
line w tasks = record { world = w; tasks = tasks }

-- work at these states, when nothing has come out
abbrev at_work : List State → List Decision → ℕ → Work
at_work states decided visits = record { states = states; outs = []; decided = decided; visits = visits }

begins : (before : List State) (task : Task Event) →
    run 65536 stack before task ≡ rest 65536 (line (at_work before [] 0) (task ∷ []))
unfolding run rest
begins before task = refl

-- one visit, given what it yields
visit_is : (turns at : ℕ) → is_place 3 at ≡ true → (dir : Dir) (event : Event) (tasks : List (Task Event)) (w : Work)
    (v : Visited) →
    step (at - 1) (layer_at stack at) (state_at w at) dir event ≡ v →
    rest (suc turns) (line w (on_way at dir event ∷ tasks)) ≡ rest turns (taken_turn at tasks (visit_turn at w v))
unfolding rest
visit_is turns at place dir event tasks w v is =
    (rw place) ∙ ap (λ v. run_for 3 (layers stack) turns (taken_turn at tasks (visit_turn at w v))) is

-- one event that leaves at an edge, and the end
out_is : (turns at : ℕ) → is_place 3 at ≡ false → (dir : Dir) (event : Event) (tasks : List (Task Event)) (w : Work) →
    rest (suc turns) (line w (on_way at dir event ∷ tasks)) ≡
    rest turns (line (record w { outs = w.outs ++ (dir, event) ∷ [] }) tasks)
unfolding rest
out_is turns at place dir event tasks w = rw place

done_is : (turns : ℕ) (w : Work) → rest turns (line w []) ≡ line w []
unfolding rest
done_is zero w = refl
done_is (suc turns) w = refl

-- a run, from where it ends
runs_by : (before : List State) (task : Task Event) (w : Work) →
    rest 65536 (line (at_work before [] 0) (task ∷ [])) ≡ line w [] → Runs before task w.states w.outs
runs_by before task w is = record {
  states_are = ap (λ r. r.world.states) (begins before task ∙ is);
  outs_are = ap (λ r. r.world.outs) (begins before task ∙ is);
}

-- one event goes out, and nothing is left
leaves_at : (turns at : ℕ) → is_place 3 at ≡ false → (dir : Dir) (event : Event) (w : Work) →
    rest (suc turns) (line w (on_way at dir event ∷ [])) ≡ line (record w { outs = w.outs ++ (dir, event) ∷ [] }) []
leaves_at turns at place dir event w =
    out_is turns at place dir event [] w ∙ done_is turns (record w { outs = w.outs ++ (dir, event) ∷ [] })

-- the work at the end of a run that put these events out
abbrev ended : List State → List (Dir × Event) → List Decision → ℕ → Work
ended states outs decided visits = record { states = states; outs = outs; decided = decided; visits = visits }

-- from `local` on: a cast that rank 0 has numbered goes out, and is delivered at home

module _ (me n ltime new next : ℕ) (origin seq : ℕ) (body : List ℕ) (due : (seq == next) ≡ true) (d : List Decision)
    (k : ℕ) where
  abbrev numbered : Content
  numbered = after (num origin seq ∷ []) body

  abbrev passed : Content
  passed = after (none_of_local ∷ num origin seq ∷ []) body

  abbrev decided : List Decision
  decided = ((d ++ []) ++ []) ++ usual ∷ usual ∷ []

  abbrev states : List State
  states = holding me n ltime new ((next + 1) % 2 ^ 32)

  goes_out : (turns : ℕ) →
      rest (suc (suc (suc (suc (suc turns)))))
      (line (at_work (holding me n ltime new next) d k) (on_way 2 Down (cast me numbered) ∷ [])) ≡
      line (ended states ((Down, cast me (ordered origin seq body)) ∷ (Up, cast origin (plain body)) ∷ []) decided
      (k + 1 + 1 + 1)) []
  goes_out turns =
      let w0 = at_work (holding me n ltime new next) d k in
      let v1 = gives (still me n ltime) ((Down, cast me passed) ∷ (Up, cast me numbered) ∷ []) [] in
      let e1 = visit_is (suc (suc (suc (suc turns)))) 2 refl Down (cast me numbered) [] w0 v1
      (local_cast_down me n ltime me numbered) in
      let w1 = at_work (holding me n ltime new next) (d ++ []) (k + 1) in
      let v2 = gives (still me n ltime) ((Down, cast me (ordered origin seq body)) ∷ []) [] in
      let e2 = visit_is (suc (suc (suc turns))) 1 refl Down (cast me passed) (on_way 3 Up (cast me numbered) ∷ []) w1 v2
      (bottom_cast_down me n ltime me passed) in
      let w2 = at_work (holding me n ltime new next) ((d ++ []) ++ []) (k + 1 + 1) in
      let e3 = visit_is (suc (suc turns)) 3 refl Up (cast me numbered)
      (on_way 0 Down (cast me (ordered origin seq body)) ∷ []) w2 (comes_up me n ltime new next origin body true)
      (total_cast_up me n ltime new next me origin seq body true due) in
      let w3 = at_work states decided (k + 1 + 1 + 1) in
      let e4 = out_is (suc turns) 0 refl Down (cast me (ordered origin seq body))
      (on_way 4 Up (cast origin (plain body)) ∷ []) w3 in
      let w4 = ended states ((Down, cast me (ordered origin seq body)) ∷ []) decided (k + 1 + 1 + 1) in
      e1 ∙ e2 ∙ e3 ∙ e4 ∙ leaves_at turns 4 refl Up (cast origin (plain body)) w4

-- the runs

first_casts : FirstCasts
first_casts me n ltime out next body first same =
    let due : (out == next) ≡ true = eq-eqb out next same in
    let new = (out + 1) % 2 ^ 32 in
    let s = holding me n ltime out next in
    let e1 = visit_is 65535 3 refl Down (cast me (plain body)) [] (at_work s [] 0)
    (goes_down me n ltime out next me body true) (total_cast_down me n ltime out next me body true first) in
    runs_by s (from_above (cast me (plain body))) _
    (e1 ∙ goes_out me n ltime new next me out body due (usual ∷ []) 1 65530)

others_cast : OthersCast
others_cast me n ltime out next body other =
    let s = holding me n ltime out next in
    let v1 = goes_down me n ltime out next me body false in
    let e1 = visit_is 65535 3 refl Down (cast me (plain body)) [] (at_work s [] 0) v1
    (total_cast_down me n ltime out next me body false other) in
    let v2 = gives (still me n ltime) ((Down, send 0 (after (none_of_local ∷ ask ∷ []) body)) ∷ []) [] in
    let e2 = visit_is 65534 2 refl Down (send 0 (after (ask ∷ []) body)) [] (at_work s (unusual ∷ []) 1) v2
    (local_send_down me n ltime 0 (after (ask ∷ []) body)) in
    let e3 = visit_is 65533 1 refl Down (send 0 (after (none_of_local ∷ ask ∷ []) body)) [] (at_work s (unusual ∷ []) 2)
    (gives (still me n ltime) ((Down, send 0 (asked body)) ∷ []) [])
    (bottom_send_down me n ltime 0 (after (none_of_local ∷ ask ∷ []) body)) in
    runs_by s (from_above (cast me (plain body))) _
    (e1 ∙ e2 ∙ e3 ∙ leaves_at 65532 0 refl Down (send 0 (asked body)) (at_work s (unusual ∷ []) 3))

-- a send that comes up through `bottom` and `local`
comes_to_total : (me n ltime out next peer : ℕ) (hs : List Header) (body : List ℕ) →
    rest 65536 (line (at_work (holding me n ltime out next) [] 0)
    (from_below (send peer (after (net ∷ none_of_local ∷ hs) body)) ∷ [])) ≡
    rest 65534 (line (at_work (holding me n ltime out next) (usual ∷ usual ∷ []) 2)
    (on_way 3 Up (send peer (after hs body)) ∷ []))
comes_to_total me n ltime out next peer hs body =
    let s = holding me n ltime out next in
    let v1 = gives (still me n ltime) ((Up, send peer (after (none_of_local ∷ hs) body)) ∷ []) (usual ∷ usual ∷ []) in
    let e1 = visit_is 65535 1 refl Up (send peer (after (net ∷ none_of_local ∷ hs) body)) [] (at_work s [] 0) v1
    (bottom_send_up me n ltime peer (none_of_local ∷ hs) body) in
    let e2 = visit_is 65534 2 refl Up (send peer (after (none_of_local ∷ hs) body)) []
    (at_work s (usual ∷ usual ∷ []) 1)
    (gives (still me n ltime) ((Up, send peer (after hs body)) ∷ []) []) (local_send_up me n ltime peer hs body) in
    e1 ∙ e2

first_is_asked : FirstIsAsked
first_is_asked me n ltime out next peer body first same =
    let due : (out == next) ≡ true = eq-eqb out next same in
    let new = (out + 1) % 2 ^ 32 in
    let s = holding me n ltime out next in
    let e3 = visit_is 65533 3 refl Up (send peer (after (ask ∷ []) body)) [] (at_work s (usual ∷ usual ∷ []) 2)
    (is_asked me n ltime out next peer body true) (total_ask_up me n ltime out next peer body true first) in
    runs_by s (from_below (send peer (asked body))) _
    (comes_to_total me n ltime out next peer (ask ∷ []) body
    ∙ e3 ∙ goes_out me n ltime new next peer out body due (usual ∷ usual ∷ usual ∷ []) 3 65528)

others_are_asked : OthersAreAsked
others_are_asked me n ltime out next peer body other =
    let s = holding me n ltime out next in
    let e3 = visit_is 65533 3 refl Up (send peer (after (ask ∷ []) body)) [] (at_work s (usual ∷ usual ∷ []) 2)
    (is_asked me n ltime out next peer body false) (total_ask_up me n ltime out next peer body false other) in
    runs_by s (from_below (send peer (asked body))) _
    (comes_to_total me n ltime out next peer (ask ∷ []) body
    ∙ e3 ∙ done_is 65533 (at_work s (usual ∷ usual ∷ unusual ∷ []) 3))

sent_comes : SentComes
sent_comes me n ltime out next peer body =
    let s = holding me n ltime out next in
    let e3 = visit_is 65533 3 refl Up (send peer (after (none_of_total ∷ []) body)) []
    (at_work s (usual ∷ usual ∷ []) 2)
    (gives (counts me n ltime out next) ((Up, send peer (plain body)) ∷ []) [])
    (total_send_up me n ltime out next peer body) in
    runs_by s (from_below (send peer (sent_alone body))) _
    (comes_to_total me n ltime out next peer (none_of_total ∷ []) body
    ∙ e3 ∙ leaves_at 65532 4 refl Up (send peer (plain body)) (at_work s (usual ∷ usual ∷ []) 3))

-- at `total` it is delivered where it is due, and else nothing is left
ends_by : (me n ltime out next peer origin seq : ℕ) (body : List ℕ) (c : Bool) →
    rest 65536 (line (at_work (holding me n ltime out next) [] 0)
    (from_below (cast peer (ordered origin seq body)) ∷ [])) ≡
    rest 65533 (taken_turn 3 [] (visit_turn 3 (at_work (holding me n ltime out next) (usual ∷ usual ∷ []) 2)
    (comes_up me n ltime out next origin body c))) →
    Runs (holding me n ltime out next) (from_below (cast peer (ordered origin seq body)))
    (due_states me n ltime out next c) (due_outs origin body c)
ends_by me n ltime out next peer origin seq body true path =
    runs_by (holding me n ltime out next) (from_below (cast peer (ordered origin seq body))) _
    (path ∙ leaves_at 65532 4 refl Up (cast origin (plain body))
    (at_work (holding me n ltime out ((next + 1) % 2 ^ 32)) (usual ∷ usual ∷ usual ∷ usual ∷ []) 3))
ends_by me n ltime out next peer origin seq body false path =
    runs_by (holding me n ltime out next) (from_below (cast peer (ordered origin seq body))) _
    (path ∙ done_is 65533
    (at_work (holding me n ltime out next) (usual ∷ usual ∷ unusual ∷ unusual ∷ []) 3))

-- a cast in its place comes up through `bottom` and `local`, and `total` decides
ordered_by : (me n ltime out next peer origin seq : ℕ) (body : List ℕ) (c : Bool) → (seq == next) ≡ c →
    Runs (holding me n ltime out next) (from_below (cast peer (ordered origin seq body)))
    (due_states me n ltime out next c) (due_outs origin body c)
ordered_by me n ltime out next peer origin seq body c is =
    let hs = num origin seq ∷ [] in
    let s = holding me n ltime out next in
    let v1 = gives (still me n ltime) ((Up, cast peer (after (none_of_local ∷ hs) body)) ∷ []) (usual ∷ usual ∷ []) in
    let e1 = visit_is 65535 1 refl Up (cast peer (ordered origin seq body)) [] (at_work s [] 0) v1
    (bottom_cast_up me n ltime peer (none_of_local ∷ hs) body) in
    let e2 = visit_is 65534 2 refl Up (cast peer (after (none_of_local ∷ hs) body)) []
    (at_work s (usual ∷ usual ∷ []) 1)
    (gives (still me n ltime) ((Up, cast peer (after hs body)) ∷ []) []) (local_cast_up me n ltime peer hs body) in
    let e3 = visit_is 65533 3 refl Up (cast peer (after hs body)) [] (at_work s (usual ∷ usual ∷ []) 2)
    (comes_up me n ltime out next origin body c) (total_cast_up me n ltime out next peer origin seq body c is) in
    ends_by me n ltime out next peer origin seq body c (e1 ∙ e2 ∙ e3)

ordered_comes : OrderedComes
ordered_comes me n ltime out next peer origin seq body =
    ordered_by me n ltime out next peer origin seq body (seq == next) refl

-- what passes

sends_pass : SendsPass
sends_pass me n ltime out next to body =
    let s = holding me n ltime out next in
    let v1 = gives (counts me n ltime out next) ((Down, send to (after (none_of_total ∷ []) body)) ∷ []) [] in
    let e1 = visit_is 65535 3 refl Down (send to (plain body)) [] (at_work s [] 0) v1
    (total_send_down me n ltime out next to body) in
    let v2 = gives (still me n ltime) ((Down, send to (after (none_of_local ∷ none_of_total ∷ []) body)) ∷ []) [] in
    let e2 = visit_is 65534 2 refl Down (send to (after (none_of_total ∷ []) body)) [] (at_work s [] 1) v2
    (local_send_down me n ltime to (after (none_of_total ∷ []) body)) in
    let e3 = visit_is 65533 1 refl Down (send to (after (none_of_local ∷ none_of_total ∷ []) body)) [] (at_work s [] 2)
    (gives (still me n ltime) ((Down, send to (sent_alone body)) ∷ []) [])
    (bottom_send_down me n ltime to (after (none_of_local ∷ none_of_total ∷ []) body)) in
    runs_by s (from_above (send to (plain body))) _
    (e1 ∙ e2 ∙ e3 ∙ leaves_at 65532 0 refl Down (send to (sent_alone body)) (at_work s [] 3))

leave_passes : LeavePasses
unfolding run step
leave_passes me n ltime out next = record { states_are = refl; outs_are = refl }

tick_passes : TickPasses
unfolding run step
tick_passes me n ltime out next moment = record { states_are = refl; outs_are = refl }

pub runs_are : RunsAre
runs_are = record {
  first_casts = first_casts;
  others_cast = others_cast;
  first_is_asked = first_is_asked;
  others_are_asked = others_are_asked;
  ordered_comes = ordered_comes;
  sends_pass = sends_pass;
  sent_comes = sent_comes;
  leave_passes = leave_passes;
  tick_passes = tick_passes;
}
