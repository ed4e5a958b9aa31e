-- One visit at a desk, in its parts.
use Rattle.std.specs.Prelude.{◌≡◌, ℕ, List, [], ◌∷◌, ◌++◌, if◌then◌else◌, Option, Some, None}
use Rattle.msg_core.specs.Chain.{Content}
use Rattle.layer_words.specs.declared.events.Dir.{Dir}
use Rattle.layer_words.specs.declared.events.Dir.TheVariants.{Down}
use Rattle.layer_mean.specs.Tree.{Expected, always, common, rare, HandlerTree, LayerTree}
use Rattle.layer_mean.specs.Value.{is_true}
use Rattle.layer_mean.specs.Effect.{Decision, usual, unusual}
use Rattle.layer_mean.specs.Visit.{met, Visited, no_scope, handler_for, handled_visit, unhandled_visit, step}
use Rattle.layer_mean.specs.declared.envelope.Envelope.{Envelope}
use Rattle.layer_desk.specs.Laid.{Laid}
use Rattle.layer_mean.specs.Envelope.{event_in}
use Rattle.layer_desk.specs.Need.{Layout, Need, visit_need}
use Rattle.layer_eval.specs.declared.predicted.Predicted.{Predicted}
use Rattle.layer_eval.specs.Did.{as_predicted}
use Rattle.layer_eval.specs.Worth.{number_of}

-- A visit came about: its state lies at the desk and its events were sent after the others, and beside these it leaves
-- nothing.
pub record Visits (v : Visited) (old new : Laid) (p : Predicted) : Type 0 where
  pub shown : new ≡ record {
    state = v.state;
    scope = no_scope;
    arrived = None;
    hand = old.hand;
    sent = old.sent ++ v.sent;
  }
  pub predicted : p ≡ as_predicted v.decided

-- What a visit does with an event whose message has arrived, and what it needs.
abbrev pub arrived_visit : ℕ → LayerTree → Dir → Envelope → Laid → Visited
arrived_visit place layer dir e p = step place layer p.state dir (event_in e p.arrived)

abbrev pub need_of_visit : Layout → LayerTree → Dir → Envelope → Laid → Need
need_of_visit layout layer dir e p =
    let m = met dir p.arrived in visit_need layout (handler_for layer dir e.kind m.tag) m

-- The message that arrived as its layer meets it.
abbrev pub meets : Dir → Laid → Laid
meets dir p = record p { arrived = (met dir p.arrived).message }

-- A tag was popped off a message that is there; 0 stands where none was.
abbrev pub IsPopped : ℕ → Option Content → Type 0
IsPopped tag None = tag ≡ 0
IsPopped tag (Some m) = Unit {0}

-- The decision that a handler's expectation is, if it is one.
abbrev pub expected_decisions : Expected → Laid → List Decision
expected_decisions always p = []
expected_decisions (common e) p = (if is_true (number_of e p) then usual else unusual) ∷ []
expected_decisions rare p = unusual ∷ []

-- What a handler does with the fields of a popped header, and what is done where there is none.
abbrev pub handler_visited : ℕ → HandlerTree → Envelope → List ℕ → Laid → Visited
handler_visited place h e fields p =
    handled_visit place (Some h) p.state Down (event_in e None)
    (record { tag = 0; fields = fields; message = p.arrived })

abbrev pub passed_visit : ℕ → Dir → Envelope → ℕ → Laid → Visited
passed_visit place dir e tag p =
    unhandled_visit place p.state dir (event_in e None) (record { tag = tag; fields = []; message = p.arrived })
    p.arrived
