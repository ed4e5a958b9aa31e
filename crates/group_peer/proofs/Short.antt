-- Outputs are short: bodies that are delivered, and packets as they are sent.
use Rattle.std.proofs.Common.{◌≡◌, ℕ, suc, ◌≤◌, Bool, true, false, List, [], ◌∷◌, ◌++◌, map, length, Option, Some, None}
use Rattle.std.proofs.Common.{refl, ap}
use Rattle.std.proofs.Common.{sym, subst, ◌∙◌, arith}
use Rattle.std.specs.Prelude.{◌==◌, ◌&&◌, nat_lt, not, MatchBool, if◌then◌else◌, slice_get}
use Rattle.std.specs.List.{AllByRecursion}
use Rattle.std.specs.Option.{option_map_or}
use Rattle.msg_core.specs.Chain.{Content, plain}
use Rattle.msg_core.specs.Parts.{longest_body}
use Rattle.msg_core.specs.View.{member_count}
use Rattle.msg_core.specs.declared.message.Header.{Header}
use Rattle.msg_core.specs.declared.packet.Dest.TheVariants as dest
use Rattle.msg_core.specs.declared.packet.Packet.{Packet}
use Rattle.layer_words.specs.declared.events.Dir.{Dir}
use Rattle.layer_words.specs.declared.events.Dir.TheVariants.{Up, Down}
use Rattle.layer_words.specs.declared.events.Kind.{Kind}
use Rattle.layer_words.specs.declared.events.Kind.TheVariants as kind
use Rattle.layer_mean.specs.declared.run.Event.{Event}
use Rattle.layer_mean.specs.Event.{carries}
use Rattle.layer_mean.specs.Headers.{header_of_tag}
use Rattle.layer_mean.specs.Tree.{LayerTree}
use Rattle.packet_mean.specs.Chained.{IsChain}
use Rattle.packet_mean.specs.ChainedState.{Brings, IsFrom, IsMessage}
use Rattle.packet_mean.specs.Spelling.{SpellsPacket}
use Rattle.packet_mean.specs.declared.here.Here.{Here}
use Rattle.packet_laws.specs.Lengths.{IsWithinLimits}
use Rattle.packet_laws.proofs.Chains.{there}
use Rattle.packet_laws.proofs.Lengths.{datagrams_fit}
use Rattle.chain_laws.specs.Runs.{IsChainedOut}
use Rattle.stack_mean.specs.Plan.{Plan}
use Rattle.run_mean.specs.Common.{plan_after, with_plans, wire}
use Rattle.run_mean.specs.Member.{Output, deliver_cast, deliver_send, block, announce, packet, nowhere, timer, quiet}
use Rattle.run_mean.specs.Member.{above, below, content, output_of, packet_to}
use Rattle.member_laws.specs.Steps.{WireIsSpelled}
use Rattle.group_peer.specs.Standing.{AreShort, IsShort}

-- a body that is delivered isn't too long
abbrev pub Few : Output → Type 0
Few (deliver_cast peer body) = length body ≤ longest_body
Few (deliver_send peer body) = length body ≤ longest_body
Few _ = Unit {0}

message_few : (C : List Header → Type 0) (m : Option Content) → Brings C true m →
    length (option_map_or (λ m. m) m (plain [])).body ≤ longest_body
message_few C None h = absurd h
message_few C (Some m) h = h.body.within

few_above : (C : List Header → Type 0) (k : Kind) (e : Event) → Brings C (carries k) e.message → Few (above k e)
few_above C kind.Cast e h = message_few C e.message h
few_above C kind.Send e h = message_few C e.message h
few_above C kind.Block e h = tt
few_above C kind.View e h = tt
few_above C _ e h = tt

few_below : (here : Here) (k : Kind) (e : Event) → Few (below here k e)
few_below here kind.Cast e = tt
few_below here kind.Send e = go (nat_lt e.peer (member_count here.view) && not (e.peer == here.rank)) where
  go : (b : Bool) → Few (if b then packet (packet_to here (dest.Rank e.peer) e) else nowhere)
  go true = tt
  go false = tt
few_below here kind.Timer e = tt
few_below here _ e = tt

few_out : (stack : List LayerTree) (here : Here) (dir : Dir) (e : Event) → IsChainedOut stack (dir, e) →
    Few (output_of here (dir, e))
few_out stack here Up e h = few_above (IsFrom stack (length stack)) e.kind e h.message
few_out stack here Down e h = few_below here e.kind e

pub all_few : (stack : List LayerTree) (plans : List Plan) (here : Here) (next : Option ℕ) (outs : List (Dir × Event)) →
    AllByRecursion (IsChainedOut stack) outs →
    AllByRecursion (λ o. Few o.0) (with_plans plans next (map (output_of here) outs))
all_few stack plans here next [] h = tt
all_few stack plans here next (x ∷ outs) h =
    (few_out stack here x.0 x.1 h.0, all_few stack plans here (plan_after next (output_of here x)) outs h.1)

-- a chain has no more headers than there are layers
others_few : (ends : Bool) (hs : List Header) (n : ℕ) (P : Type 0) → MatchBool ends (hs ≡ []) P → (P → length hs ≤ n) →
    length hs ≤ n
others_few true hs n P none more = rw none (omega arith)
others_few false hs n P is more = more is

chain_few : (layers : List LayerTree) (place : ℕ) (hs : List Header) → IsChain layers place hs →
    length hs ≤ length layers
chain_few [] place hs is = rw is (omega arith)
chain_few (layer ∷ above) place [] is = absurd is
chain_few (layer ∷ above) place (h ∷ hs) is =
    there (header_of_tag layer h.tag) _ is (λ d declares is_d.
    let more = others_few d.ends hs (length above) _ is_d.2 (chain_few above (suc place) hs) in
    omega (arith, more))

module _ (stack : List LayerTree) (plans : List Plan) (limits : IsWithinLimits stack) where
  short_packet : (p : Packet) (plan : Option ℕ) → SpellsPacket stack plans (wire plans p plan) p →
      IsShort plans (packet p, plan)
  short_packet p plan is =
      let few : length p.message.headers ≤ length stack =
      chain_few stack 0 p.message.headers is.spellable.chained.chain in (
        omega (arith, few, limits.places, is.spellable.chained.body),
        datagrams_fit stack plans (wire plans p plan) p limits is,
      )

  short_one : (o : Output) (plan : Option ℕ) → WireIsSpelled stack plans (o, plan) → Few o → IsShort plans (o, plan)
  short_one (packet p) plan spelled few = short_packet p plan spelled
  short_one (deliver_cast peer body) plan spelled few = (omega arith, omega (arith, few))
  short_one (deliver_send peer body) plan spelled few = (omega arith, omega (arith, few))
  short_one (block a) plan spelled few = (omega arith, omega arith)
  short_one (announce a) plan spelled few = (omega arith, omega arith)
  short_one nowhere plan spelled few = (omega arith, omega arith)
  short_one (timer a) plan spelled few = (omega arith, omega arith)
  short_one (quiet dir e) plan spelled few = (omega arith, omega arith)

  pub short_all : (outs : List (Output × Option ℕ)) → AllByRecursion (WireIsSpelled stack plans) outs →
      AllByRecursion (λ o. Few o.0) outs → AreShort plans outs
  short_all [] spelled few = tt
  short_all (o ∷ outs) spelled few = (short_one o.0 o.1 spelled.0 few.0, short_all outs spelled.1 few.1)
