-- Runs in which each part that is taken or held on the way of a case has no headers. (A part is bytes alone; the queues
-- of parts of a typed layer never have others.)
use Rattle.std.specs.Prelude.{◌≡◌, ℕ, ◌-◌, true, List, [], ◌∷◌, length, Option, Some, None}
use Rattle.layer_words.specs.declared.events.Dir.{Dir}
use Rattle.layer_mean.specs.declared.run.Case.{Case}
use Rattle.layer_mean.specs.declared.run.Event.{Event}
use Rattle.layer_mean.specs.declared.run.Row.{Row}
use Rattle.layer_mean.specs.Tree.{Carried, part, whole, MessageTree, held, tail, join, ContentTree, HandlerTree}
use Rattle.layer_mean.specs.Tree.{LayerTree}
use Rattle.layer_mean.specs.State.{State, row_at}
use Rattle.layer_mean.specs.Value.{Scope, val, message_in}
use Rattle.layer_mean.specs.Visit.{Met, met, handler_for, entered_scope}
use Rattle.layer_mean.specs.Queue.{Task, Line, Work, is_place, layer_at, state_at, run_for, layers}
use Rattle.layer_mean.specs.Marked.{Log, Marked, marking_player}
use Rattle.layer_mean.specs.Way.{Step, get, send, handler_way}
use Rattle.shape_laws.specs.Walk.{Here, walk_step}

-- A part that is read has no headers.
abbrev pub BareRow : Carried → Option Row → Type 0
BareRow part row = (message_in part row).headers ≡ []
BareRow (whole blank) row = Unit {0}

-- A part of which a message is made has no headers.
abbrev pub BareMessage : MessageTree → State → Scope → Type 0
BareMessage (held c i row carried) s l = BareRow carried (row_at s c (val i s l) (val row s l))
BareMessage (tail m from) s l = BareMessage m s l
BareMessage (join p m) s l = BareMessage m s l
BareMessage _ s l = Unit {0}

abbrev pub BareTaken : Option (ℕ × Carried) → Option Row → Type 0
BareTaken None row = Unit {0}
BareTaken (Some slot) row = BareRow slot.1 row

abbrev pub BareContent : Option ContentTree → State → Scope → Type 0
BareContent None s l = Unit {0}
BareContent (Some c) s l = BareMessage c.message s l

-- The parts that a step takes or sends have no headers.
abbrev pub BareStep : Step → Here → Type 0
BareStep (get c i taken) h = BareTaken taken.message (row_at h.state c (val i h.state h.scope) 0)
BareStep (send e) h = BareContent e.content h.state h.scope
BareStep _ h = Unit {0}

abbrev pub BareBeyond : (Here → Type 0) → Option Here → Type 0
BareBeyond P None = Unit {0}
BareBeyond P (Some h) = P h

-- The parts of the steps of a way have no headers, as far as all goes as predicted.
abbrev pub BareSteps : ℕ → List Step → Here → Type 0
BareSteps place [] h = Unit {0}
BareSteps place (x ∷ xs) h = BareStep x h × BareBeyond (BareSteps place xs) (walk_step place x h)

abbrev pub BareWay : ℕ → Option (List Step) → State → Scope → Type 0
BareWay place None s l = Unit {0}
BareWay place (Some steps) s l = BareSteps place steps (record { state = s; scope = l; sent = [] })

abbrev pub BareHandled : Case → ℕ → Option HandlerTree → State → Event → Met → Type 0
BareHandled case place None s event m = Unit {0}
BareHandled case place (Some h) s event m = BareWay place (handler_way case h) s (entered_scope h event m)

-- The parts of a visit have no headers.
abbrev pub BareVisit : Case → ℕ → LayerTree → State → Dir → Event → Type 0
BareVisit case place layer s dir event =
    let m = met dir event.message in BareHandled case place (handler_for layer dir event.kind m.tag) s event m

abbrev pub BareNext : Case → List LayerTree → Work → List (Task (Marked Event)) → Type 0
BareNext case stack w [] = Unit {0}
BareNext case stack w (t ∷ rest) =
    is_place (length stack) t.at ≡ true →
    BareVisit case (t.at - 1) (layer_at stack t.at) (state_at w t.at) t.dir t.event.event

-- The parts of each visit of a run have no headers.
abbrev pub BareRun : Case → List LayerTree → Line (Log Work Event) (Marked Event) → Type 0
BareRun case stack r = (k : ℕ) →
    let q = run_for (length stack) (marking_player (layers stack)) k r in BareNext case stack q.world.world q.tasks
