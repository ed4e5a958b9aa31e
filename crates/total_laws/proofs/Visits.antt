-- Visits of the three layers at open states: each computes, by cases on the one condition.
use Rattle.std.proofs.Common.{◌≡◌, ℕ, ◌+◌, ◌==◌, ◌%◌, ◌^◌, Bool, true, false, List, [], ◌∷◌, refl}
use Rattle.msg_core.specs.Chain.{Content, plain}
use Rattle.msg_core.specs.declared.message.Header.{Header}
use Rattle.layer_words.specs.declared.events.Dir.{Dir}
use Rattle.layer_words.specs.declared.events.Dir.TheVariants.{Up, Down}
use Rattle.layer_mean.specs.declared.run.Event.{Event}
use Rattle.layer_mean.specs.Effect.{Decision, usual, unusual}
use Rattle.layer_mean.specs.State.{State}
use Rattle.layer_mean.specs.Visit.{Visited, step}
use Rattle.layer_rows.specs.Words.{cast}
use Rattle.library_rows.specs.OrderStack.{bottom_layer, local_layer, total_layer}
use Rattle.total_laws.specs.Steps.{plain_state, counting, after, net, none_of_local, none_of_total, num, ask, send}

-- a visit that sends one event, or none
abbrev pub gives : State → List (Dir × Event) → List Decision → Visited
gives s sent decided = record { state = s; sent = sent; decided = decided }

module _ (me n ltime : ℕ) where
  abbrev pub still : State
  still = plain_state me n ltime

  -- `bottom`

  pub bottom_cast_down : (peer : ℕ) (m : Content) → step 0 bottom_layer still Down (cast peer m)
      ≡ gives still ((Down, cast peer (after (net ∷ m.headers) m.body)) ∷ []) []
  unfolding step
  bottom_cast_down peer m = refl

  pub bottom_send_down : (peer : ℕ) (m : Content) → step 0 bottom_layer still Down (send peer m)
      ≡ gives still ((Down, send peer (after (net ∷ m.headers) m.body)) ∷ []) []
  unfolding step
  bottom_send_down peer m = refl

  pub bottom_cast_up : (peer : ℕ) (hs : List Header) (body : List ℕ) →
      step 0 bottom_layer still Up (cast peer (after (net ∷ hs) body))
      ≡ gives still ((Up, cast peer (after hs body)) ∷ []) (usual ∷ usual ∷ [])
  unfolding step
  bottom_cast_up peer hs body = refl

  pub bottom_send_up : (peer : ℕ) (hs : List Header) (body : List ℕ) →
      step 0 bottom_layer still Up (send peer (after (net ∷ hs) body))
      ≡ gives still ((Up, send peer (after hs body)) ∷ []) (usual ∷ usual ∷ [])
  unfolding step
  bottom_send_up peer hs body = refl

  -- `local`

  pub local_cast_down : (peer : ℕ) (m : Content) → step 1 local_layer still Down (cast peer m)
      ≡ gives still ((Down, cast peer (after (none_of_local ∷ m.headers) m.body)) ∷ (Up, cast me m) ∷ []) []
  unfolding step
  local_cast_down peer m = refl

  pub local_send_down : (peer : ℕ) (m : Content) → step 1 local_layer still Down (send peer m)
      ≡ gives still ((Down, send peer (after (none_of_local ∷ m.headers) m.body)) ∷ []) []
  unfolding step
  local_send_down peer m = refl

  pub local_cast_up : (peer : ℕ) (hs : List Header) (body : List ℕ) →
      step 1 local_layer still Up (cast peer (after (none_of_local ∷ hs) body))
      ≡ gives still ((Up, cast peer (after hs body)) ∷ []) []
  unfolding step
  local_cast_up peer hs body = refl

  pub local_send_up : (peer : ℕ) (hs : List Header) (body : List ℕ) →
      step 1 local_layer still Up (send peer (after (none_of_local ∷ hs) body))
      ≡ gives still ((Up, send peer (after hs body)) ∷ []) []
  unfolding step
  local_send_up peer hs body = refl

  -- `total`, in a state that it counts in

  module _ (out next : ℕ) where
    abbrev pub counts : State
    counts = counting me n ltime out next

    -- a cast goes down at rank 0, or rank 0 is asked
    abbrev pub goes_down : ℕ → List ℕ → Bool → Visited
    goes_down peer body true = gives (counting me n ltime ((out + 1) % 2 ^ 32) next)
        ((Down, cast peer (after (num me out ∷ []) body)) ∷ []) (usual ∷ [])
    goes_down peer body false = gives counts ((Down, send 0 (after (ask ∷ []) body)) ∷ []) (unusual ∷ [])

    pub total_cast_down : (peer : ℕ) (body : List ℕ) (b : Bool) → (me == 0) ≡ b →
        step 2 total_layer counts Down (cast peer (plain body)) ≡ goes_down peer body b
    unfolding step
    total_cast_down peer body true is = rw is
    total_cast_down peer body false is = rw is

    -- rank 0 is asked, or another
    abbrev pub is_asked : ℕ → List ℕ → Bool → Visited
    is_asked peer body true = gives (counting me n ltime ((out + 1) % 2 ^ 32) next)
        ((Down, cast me (after (num peer out ∷ []) body)) ∷ []) (usual ∷ [])
    is_asked peer body false = gives counts [] (unusual ∷ [])

    pub total_ask_up : (peer : ℕ) (body : List ℕ) (b : Bool) → (me == 0) ≡ b →
        step 2 total_layer counts Up (send peer (after (ask ∷ []) body)) ≡ is_asked peer body b
    unfolding step
    total_ask_up peer body true is = rw is
    total_ask_up peer body false is = rw is

    -- a cast in its place is due, or not
    abbrev pub comes_up : ℕ → List ℕ → Bool → Visited
    comes_up origin body true = gives (counting me n ltime out ((next + 1) % 2 ^ 32))
        ((Up, cast origin (plain body)) ∷ []) (usual ∷ usual ∷ [])
    comes_up origin body false = gives counts [] (unusual ∷ unusual ∷ [])

    pub total_cast_up : (peer origin seq : ℕ) (body : List ℕ) (c : Bool) → (seq == next) ≡ c →
        step 2 total_layer counts Up (cast peer (after (num origin seq ∷ []) body)) ≡ comes_up origin body c
    unfolding step
    total_cast_up peer origin seq body true is = rw is
    total_cast_up peer origin seq body false is = rw is

    pub total_send_down : (peer : ℕ) (body : List ℕ) → step 2 total_layer counts Down (send peer (plain body))
        ≡ gives counts ((Down, send peer (after (none_of_total ∷ []) body)) ∷ []) []
    unfolding step
    total_send_down peer body = refl

    pub total_send_up : (peer : ℕ) (body : List ℕ) →
        step 2 total_layer counts Up (send peer (after (none_of_total ∷ []) body))
        ≡ gives counts ((Up, send peer (plain body)) ∷ []) []
    unfolding step
    total_send_up peer body = refl
