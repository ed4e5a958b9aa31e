-- How chains grow and shrink by a header.
use Rattle.std.specs.Prelude.{◌≡◌, ℕ, suc, ◌≤◌, MatchBool, List, [], length, slice_get, Some}
use Rattle.msg_core.specs.Chain.{Content, first_of, popped, pushed}
use Rattle.msg_core.specs.Parts.{longest_body}
use Rattle.msg_core.specs.declared.message.Header.{Header}
use Rattle.layer_mean.specs.Tree.{HeaderTree, LayerTree}
use Rattle.layer_mean.specs.Headers.{header_of_tag}
use Rattle.packet_mean.specs.Chained.{IsChained}

-- A header is one that the layer of a place declares so.
pub record IsOf (layer : LayerTree) (place : ℕ) (h : Header) (d : HeaderTree) : Type 0 where
  pub at : h.layer ≡ place
  pub tag : header_of_tag layer h.tag ≡ Some d
  pub fields : length h.fields ≡ d.fields

-- What stands after such a header: nothing where it ends the chain, and else a message that is chained from the place
-- above.
abbrev pub GoesOn : List LayerTree → ℕ → HeaderTree → Content → Type 0
GoesOn stack place d m = MatchBool d.ends (m.headers ≡ []) (IsChained stack (suc place) m)

-- A message that goes on after a header of a place is, with the header pushed, chained from there.
abbrev pub PushedIsChained : Type 0
PushedIsChained = (stack : List LayerTree) (place : ℕ) (layer : LayerTree) (h : Header) (d : HeaderTree) (m : Content) →
    slice_get stack place ≡ Some layer → IsOf layer place h d → length m.body ≤ longest_body → GoesOn stack place d m →
    IsChained stack place (pushed h m)

-- A message that is chained from a place of the stack has a header of that place, after which it goes on.
abbrev pub PoppedGoesOn : Type 0
PoppedGoesOn = (stack : List LayerTree) (place : ℕ) (layer : LayerTree) (m : Content) →
    slice_get stack place ≡ Some layer → IsChained stack place m →
    (h : Header) × (d : HeaderTree) × (first_of m.headers ≡ Some h) × IsOf layer place h d ×
    GoesOn stack place d (popped m)

-- Above the top place a chained message has no headers.
abbrev pub NoneAboveTheTop : Type 0
NoneAboveTheTop = (stack : List LayerTree) (m : Content) → IsChained stack (length stack) m → m.headers ≡ []
