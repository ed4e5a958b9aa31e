-- Where no predicted way reads a part, there is nothing to be said of parts.
use Rattle.std.proofs.Common.{◌≡◌, ℕ, zero, suc, ◌-◌, Bool, true, false, List, [], ◌∷◌, Option, Some, None, refl}
use Rattle.std.specs.Prelude.{if◌then◌else◌, length, slice_index_or}
use Rattle.std.specs.List.{find, list_all}
use Rattle.std.specs.Option.{option_map_or}
use Rattle.layer_words.specs.declared.events.Dir.{Dir}
use Rattle.layer_mean.specs.declared.run.Case.{Case}
use Rattle.layer_mean.specs.declared.run.Event.{Event}
use Rattle.layer_mean.specs.declared.run.Row.{Row}
use Rattle.layer_mean.specs.Tree.{Carried, part, whole, MessageTree, message, nothing, held, cut, tail, join}
use Rattle.layer_mean.specs.Tree.{ContentTree, HandlerTree, LayerTree, no_layer}
use Rattle.layer_mean.specs.State.{State}
use Rattle.layer_mean.specs.Value.{Scope}
use Rattle.layer_mean.specs.Visit.{Met, met, is_for, entered_scope}
use Rattle.layer_mean.specs.Queue.{Task, Line, Work, layer_at, state_at, run_for, layers}
use Rattle.layer_mean.specs.Marked.{Log, Marked, marking_player}
use Rattle.layer_mean.specs.Way.{Step, get, send, handler_way}
use Rattle.shape_laws.specs.Walk.{Here, walk_step}
use Rattle.shape_laws.specs.Bare.{BareRow, BareMessage, BareTaken, BareContent, BareStep, BareBeyond, BareSteps}
use Rattle.shape_laws.specs.Bare.{BareWay, BareHandled, BareVisit, BareNext}
use Rattle.shape_laws.specs.Parts.{is_whole, holds_no_part, reads_no_part, way_reads_no_part, layer_reads_no_part}
use Rattle.shape_laws.specs.Parts.{RunsWithoutParts}
use Rattle.std.proofs.lemmas.Bool.{and_parts}

row_bare : (carried : Carried) (row : Option Row) → is_whole carried ≡ true → BareRow carried row
row_bare part row h = absurd (cc h)
row_bare (whole blank) row h = tt

message_bare : (m : MessageTree) (s : State) (l : Scope) → holds_no_part m ≡ true → BareMessage m s l
message_bare (message k) s l h = tt
message_bare nothing s l h = tt
message_bare (held c i row carried) s l h = row_bare carried _ h
message_bare (cut m from n) s l h = tt
message_bare (tail m from) s l h = message_bare m s l h
message_bare (join p m) s l h = message_bare m s l h

taken_bare : (m : Option (ℕ × Carried)) (row : Option Row) → option_map_or (λ slot. is_whole slot.1) m true ≡ true →
    BareTaken m row
taken_bare None row h = tt
taken_bare (Some slot) row h = row_bare slot.1 row h

content_bare : (c : Option ContentTree) (s : State) (l : Scope) → option_map_or (λ c. holds_no_part c.message) c true ≡
    true →
    BareContent c s l
content_bare None s l h = tt
content_bare (Some c) s l h = message_bare c.message s l h

step_bare : (x : Step) (h : Here) → reads_no_part x ≡ true → BareStep x h
step_bare (get c i taken) h e = taken_bare taken.message _ e
step_bare (send e) h f = content_bare e.content h.state h.scope f
step_bare _ h e = tt

beyond : (P : Here → Type 0) → ((h : Here) → P h) → (w : Option Here) → BareBeyond P w
beyond P all None = tt
beyond P all (Some h) = all h

steps_bare : (place : ℕ) (xs : List Step) (h : Here) → list_all reads_no_part xs ≡ true → BareSteps place xs h
steps_bare place [] h e = tt
steps_bare place (x ∷ xs) h e =
    let parts = and_parts (reads_no_part x) (list_all reads_no_part xs) e in
    (step_bare x h parts.0, beyond (BareSteps place xs) (λ g. steps_bare place xs g parts.1) (walk_step place x h))

way_bare : (place : ℕ) (w : Option (List Step)) (s : State) (l : Scope) →
    option_map_or (list_all reads_no_part) w true ≡ true →
    BareWay place w s l
way_bare place None s l h = tt
way_bare place (Some steps) s l h = steps_bare place steps _ h

found : (case : Case) (p q : HandlerTree → Bool) (hs : List HandlerTree) (place : ℕ) (s : State) (e : Event) (m : Met) →
    ((h : HandlerTree) → q h ≡ true → BareWay place (handler_way case h) s (entered_scope h e m)) →
    list_all q hs ≡ true →
    BareHandled case place (find p hs) s e m
found case p q [] place s e m bare all = tt
found case p q (h ∷ hs) place s e m bare all =
    let parts = and_parts (q h) (list_all q hs) all in
    first (p h) (bare h parts.0) (found case p q hs place s e m bare parts.1) where
      first : (b : Bool) → BareWay place (handler_way case h) s (entered_scope h e m) →
          BareHandled case place (find p hs) s e m →
          BareHandled case place (if b then Some h else find p hs) s e m
      first true here rest = here
      first false here rest = rest

visit_bare : (case : Case) (place : ℕ) (layer : LayerTree) (s : State) (dir : Dir) (e : Event) →
    layer_reads_no_part case layer ≡ true →
    BareVisit case place layer s dir e
visit_bare case place layer s dir e h =
    let m : Met = met dir e.message in
    found case (is_for dir e.kind m.tag) (way_reads_no_part case) layer.handlers place s e m
    (λ x. way_bare place (handler_way case x) s (entered_scope x e m)) h

layer_found : (case : Case) (stack : List LayerTree) (k : ℕ) → list_all (layer_reads_no_part case) stack ≡ true →
    layer_reads_no_part case (slice_index_or stack k no_layer) ≡ true
layer_found case [] k h = refl
layer_found case (x ∷ xs) zero h = (and_parts (layer_reads_no_part case x) (list_all (layer_reads_no_part case) xs) h).0
layer_found case (x ∷ xs) (suc k) h =
    layer_found case xs k (and_parts (layer_reads_no_part case x) (list_all (layer_reads_no_part case) xs) h).1

next_bare : (case : Case) (stack : List LayerTree) (w : Work) (tasks : List (Task (Marked Event))) →
    list_all (layer_reads_no_part case) stack ≡ true →
    BareNext case stack w tasks
next_bare case stack w [] h = tt
next_bare case stack w (t ∷ rest) h = λ placed.
    visit_bare case (t.at - 1) (layer_at stack t.at) (state_at w t.at) t.dir t.event.event
    (layer_found case stack (t.at - 1) h)

pub runs_without_parts : RunsWithoutParts
runs_without_parts case stack h r = λ k.
    let q : Line (Log Work Event) (Marked Event) = run_for (length stack) (marking_player (layers stack)) k r in
    next_bare case stack q.world.world q.tasks h
