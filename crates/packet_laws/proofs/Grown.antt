-- How chains grow and shrink by a header.
use Rattle.std.proofs.Common.{◌≡◌, ℕ, zero, suc, ◌≤◌, Bool, true, false, List, [], ◌∷◌, Some, refl, ap, subst}
use Rattle.std.specs.Prelude.{length, drop, slice_get, MatchBool}
use Rattle.std.proofs.Math.Seq.{drop-length}
use Rattle.msg_core.specs.Chain.{Content, first_of, popped}
use Rattle.msg_core.specs.Parts.{longest_body}
use Rattle.msg_core.specs.declared.message.Header.{Header}
use Rattle.layer_mean.specs.Tree.{HeaderTree, LayerTree}
use Rattle.layer_mean.specs.Headers.{header_of_tag}
use Rattle.packet_mean.specs.Chained.{IsChain, IsChained}
use Rattle.packet_laws.specs.Chains.{IsOf, GoesOn, PushedIsChained, PoppedGoesOn, NoneAboveTheTop}
use Rattle.packet_laws.proofs.Chains.{there, some_and}
use Rattle.packet_laws.proofs.Numbers.{same_read}

-- the layers from a place on begin with the place's layer
from_place : (stack : List LayerTree) (place : ℕ) (layer : LayerTree) → slice_get stack place ≡ Some layer →
    drop place stack ≡ layer ∷ drop (suc place) stack
from_place [] place layer is = absurd (cc is)
from_place (first ∷ above) zero layer is = ap (λ l. l ∷ above) (same_read is)
from_place (first ∷ above) (suc place) layer is = from_place above place layer is

chain_after : (ends : Bool) (stack : List LayerTree) (place : ℕ) (m : Content) →
    MatchBool ends (m.headers ≡ []) (IsChained stack (suc place) m) →
    MatchBool ends (m.headers ≡ []) (IsChain (drop (suc place) stack) (suc place) m.headers)
chain_after true stack place m none = none
chain_after false stack place m is = is.chain

pub pushed_is_chained : PushedIsChained
pushed_is_chained stack place layer h d m listed is short on = record {
  chain = rw (from_place stack place layer listed)
      (some_and (header_of_tag layer h.tag) _ d is.tag (is.at, is.fields, chain_after d.ends stack place m on));
  body = short;
}

goes_on : (ends : Bool) (stack : List LayerTree) (place : ℕ) (hs : List Header) (body : List ℕ) →
    length body ≤ longest_body →
    MatchBool ends (hs ≡ []) (IsChain (drop (suc place) stack) (suc place) hs) →
    MatchBool ends (hs ≡ []) (IsChained stack (suc place) record { headers = hs; body = body })
goes_on true stack place hs body short none = none
goes_on false stack place hs body short is = record { chain = is; body = short }

chain_popped : (stack : List LayerTree) (place : ℕ) (layer : LayerTree) (hs : List Header) (body : List ℕ) →
    length body ≤ longest_body →
    IsChain (layer ∷ drop (suc place) stack) place hs →
    (h : Header) × (d : HeaderTree) × (first_of hs ≡ Some h) × IsOf layer place h d
    × GoesOn stack place d (popped record { headers = hs; body = body })
chain_popped stack place layer [] body short is = absurd is
chain_popped stack place layer (h ∷ hs) body short is = there (header_of_tag layer h.tag) _ is (λ d declares is_d. (
  h,
  d,
  refl,
  record { at = is_d.0; tag = declares; fields = is_d.1 },
  goes_on d.ends stack place hs body short is_d.2,
))

pub popped_goes_on : PoppedGoesOn
popped_goes_on stack place layer m listed is =
    chain_popped stack place layer m.headers m.body is.body (rw (from_place stack place layer listed) at (is.chain))

pub none_above_the_top : NoneAboveTheTop
none_above_the_top stack m is =
    let layers = drop-length stack in
    subst (λ above. IsChain above (length stack) m.headers) layers is.chain
