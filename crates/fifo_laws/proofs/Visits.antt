-- Visits of the layer at open states: each computes, by cases on the one condition.
use Rattle.std.proofs.Common.{◌≡◌, ℕ, ◌==◌, Bool, true, false, List, [], ◌∷◌, refl}
use Rattle.std.specs.Prelude.{slice_index}
use Rattle.msg_core.specs.Chain.{Content, popped}
use Rattle.msg_core.specs.declared.message.Header.{Header}
use Rattle.layer_words.specs.declared.events.Dir.TheVariants.{Up}
use Rattle.layer_mean.specs.Effect.{unusual}
use Rattle.layer_mean.specs.State.{State}
use Rattle.layer_mean.specs.Visit.{Visited, step}
use Rattle.layer_rows.specs.Words.{cast}
use Rattle.fifo_laws.specs.Layer.{fifo}
use Rattle.fifo_laws.specs.Steps.{holding, numbered, CastGoesDown, come_up, CastComesUp, send_event, is_bare}

pub cast_goes_down : CastGoesDown
unfolding step
cast_goes_down me n ltime k e p body = refl

come_up_by : (me n ltime k : ℕ) (e : List ℕ) (p q : ℕ) (body : List ℕ) (b : Bool) → (q == slice_index e p) ≡ b →
    step 0 fifo (holding me n ltime k e) Up (cast p (numbered q body)) ≡ come_up me n ltime k e p q body b
unfolding step
come_up_by me n ltime k e p q body true is = rw is
come_up_by me n ltime k e p q body false is = rw is

pub cast_comes_up : CastComesUp
cast_comes_up me n ltime k e p q body = come_up_by me n ltime k e p q body (q == slice_index e p) refl

-- a send that comes up goes on where its header is `none`, or isn't there
abbrev pub send_up : State → ℕ → Content → Bool → Visited
send_up s peer m true = record { state = s; sent = (Up, send_event peer (popped m)) ∷ []; decided = [] }
send_up s peer m false = record { state = s; sent = []; decided = unusual ∷ [] }

pub send_comes_up : (s : State) (peer : ℕ) (hs : List Header) (body : List ℕ) (b : Bool) →
    is_bare (record { headers = hs; body = body }) ≡ b →
    step 0 fifo s Up (send_event peer (record { headers = hs; body = body }))
    ≡ send_up s peer (record { headers = hs; body = body }) b
unfolding step
send_comes_up s peer [] body true is = refl
send_comes_up s peer [] body false is = absurd (cc is)
send_comes_up s peer (h ∷ hs) body true is = rw is
send_comes_up s peer (h ∷ hs) body false is = rw is
