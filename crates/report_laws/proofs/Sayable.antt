-- What a run puts out can be said: numbers and bodies are in range.
use Rattle.std.proofs.Common.{◌≡◌, ℕ, Bool, true, false, List, [], refl, Option, Some, None}
use Rattle.std.specs.Prelude.{◌&&◌, ◌==◌, not, nat_lt, if◌then◌else◌, Result, Ok, Err}
use Rattle.std.specs.List.{AllByRecursion}
use Rattle.std.specs.Option.{option_map_or}
use Rattle.msg_core.specs.Chain.{Content, plain}
use Rattle.msg_core.specs.View.{member_count}
use Rattle.msg_core.specs.declared.message.Header.{Header}
use Rattle.msg_core.specs.declared.packet.Dest.TheVariants as dest
use Rattle.msg_core.specs.declared.packet.Packet.{Packet}
use Rattle.msg_core.specs.declared.packet.View.{View}
use Rattle.layer_words.specs.declared.events.Dir.{Dir}
use Rattle.layer_words.specs.declared.events.Dir.TheVariants.{Up, Down}
use Rattle.layer_words.specs.declared.events.Kind.{Kind}
use Rattle.layer_words.specs.declared.events.Kind.TheVariants as kind
use Rattle.layer_mean.specs.declared.run.Event.{Event}
use Rattle.layer_mean.specs.Event.{carries}
use Rattle.layer_mean.specs.Tree.{LayerTree}
use Rattle.layer_mean.specs.State.{State}
use Rattle.packet_mean.specs.ChainedState.{IsNumber, IsBody, IsFrom, IsMessage, Brings}
use Rattle.packet_mean.specs.Spelling.{full_bytes, IsSpellable}
use Rattle.packet_mean.specs.declared.here.Here.{Here}
use Rattle.packet_laws.specs.Strays.{AreNumbered}
use Rattle.script_mean.specs.declared.event.ScriptEvent.{ScriptEvent}
use Rattle.script_mean.specs.declared.event.ScriptEvent.TheVariants as script
use Rattle.stack_mean.specs.Plan.{Plan}
use Rattle.chain_laws.specs.Runs.{TypedStack, IsChainedOut, edge_place}
use Rattle.chain_laws.proofs.Lists.{Where, each_map, each_or}
use Rattle.member_laws.specs.Members.{IsView, IsInside, IsChainedMember, IsEntered, IsGivenEvent, IsChainedWorld}
use Rattle.member_laws.proofs.Members.{steps_keep_chains, here_is, given_enters, numbered, enters_in_range}
use Rattle.run_mean.specs.Member.{Member, inside, out, Input, cast, send, leave, tick, datagram, Refusal, Entered}
use Rattle.run_mean.specs.Member.{entered_input, Output, deliver_cast, deliver_send, packet, packet_to, nowhere, above}
use Rattle.run_mean.specs.Member.{below}
use Rattle.run_mean.specs.Member.{output_of, step_from}
use Rattle.run_mean.specs.World.{World, Did, taken, member_at, packet_number, happens, here_of}
use Rattle.run_mean.specs.World.{stepped_inside, stepped_of, step_happening, given_packet}

-- what an output has that a line says
abbrev pub Sayable : Output → Type 0
Sayable (deliver_cast peer body) = IsNumber peer × IsBody body
Sayable (deliver_send peer body) = IsNumber peer × IsBody body
Sayable _ = Unit {0}

abbrev pub SayableMember : Member → Type 0
SayableMember (inside view states) = IsView view
SayableMember out = Unit {0}

abbrev pub SayableDid : Did → Type 0
SayableDid (taken s) = AllByRecursion Sayable s.outputs × Where SayableMember s.installs
SayableDid _ = Unit {0}

brought : (C : List Header → Type 0) (m : Option Content) → Brings C true m →
    IsMessage C (option_map_or (λ m. m) m (plain []))
brought C None h = absurd h
brought C (Some m) h = h

above_sayable : (C : List Header → Type 0) (k : Kind) (e : Event) → IsNumber e.peer → Brings C (carries k) e.message →
    Sayable (above k e)
above_sayable C kind.Cast e n h = (n, (brought C e.message h).body)
above_sayable C kind.Send e n h = (n, (brought C e.message h).body)
above_sayable C kind.Block e n h = tt
above_sayable C kind.View e n h = tt
above_sayable C _ e n h = tt

below_sayable : (here : Here) (k : Kind) (e : Event) → Sayable (below here k e)
below_sayable here kind.Cast e = tt
below_sayable here kind.Send e = by (nat_lt e.peer (member_count here.view) && not (e.peer == here.rank)) where
  by : (b : Bool) → Sayable (if b then packet (packet_to here (dest.Rank e.peer) e) else nowhere)
  by true = tt
  by false = tt
below_sayable here kind.Timer e = tt
below_sayable here _ e = tt

output_sayable : (stack : List LayerTree) (here : Here) (x : Dir × Event) → IsChainedOut stack x →
    Sayable (output_of here x)
output_sayable stack here (Up, e) h = above_sayable (IsFrom stack (edge_place stack Up)) e.kind e h.peer h.message
output_sayable stack here (Down, e) h = below_sayable here e.kind e

installed_sayable : (stack : List LayerTree) (view : View) (states : List State) (o : Option Member) →
    IsChainedMember stack (option_map_or (λ m. m) o (inside view states)) → Where SayableMember o
installed_sayable stack view states None h = tt
installed_sayable stack view states (Some (inside v s)) h = h.view_is
installed_sayable stack view states (Some out) h = tt

module _ (stack : List LayerTree) (plans : List Plan) (w : World) (typed : TypedStack stack)
    (world : IsChainedWorld stack w) where
  inside_says : (id : ℕ) (view : View) (states : List State) (r : Result Entered Refusal) →
      IsInside stack view states → ((what : Entered) → r ≡ Ok what → IsEntered stack what) →
      SayableDid (stepped_inside stack w id view states r).did
  inside_says id view states (Err refusal) is enters = tt
  inside_says id view states (Ok what) is enters =
      let here = here_of w view id in
      let s = step_from stack here id states what in
      let h = steps_keep_chains stack here id states what typed (here_is stack w view id world is.view_is) is.states_are
      (enters what refl) in (
        each_map (IsChainedOut stack) Sayable (output_of here) (output_sayable stack here) s.work.outs h.outs,
        installed_sayable stack here.view s.work.states s.installs h.member,
      )

  member_says : (id : ℕ) (input : Input) (m : Member) → IsChainedMember stack m →
      ((here : Here) (what : Entered) → entered_input stack plans here input ≡ Ok what → IsEntered stack what) →
      SayableDid (stepped_of stack plans w id input m).did
  member_says id input out is enters = tt
  member_says id input (inside view states) is enters =
      inside_says id view states (entered_input stack plans (here_of w view id) input) is
      (λ what. enters (here_of w view id) what)

  step_says : (id : ℕ) (input : Input) →
      ((here : Here) (what : Entered) → entered_input stack plans here input ≡ Ok what → IsEntered stack what) →
      SayableDid (step_happening stack plans w id input).did
  step_says id input enters = member_says id input (member_at w id)
      (each_or (IsChainedMember stack) w.members id out world.members tt) enters

  given_says : (id : ℕ) (p : Option Packet) → Where (IsSpellable stack) p →
      SayableDid (given_packet stack plans w id p).did
  given_says id None h = tt
  given_says id (Some p) h = step_says id (datagram (full_bytes p)) (given_enters stack plans p h)

pub event_says : (stack : List LayerTree) (plans : List Plan) (w : World) (e : ScriptEvent) → TypedStack stack →
    AreNumbered plans → IsGivenEvent e → IsChainedWorld stack w → SayableDid (happens stack plans w e).did
unfolding happens
event_says stack plans w (script.Cast id body) typed are h world = step_says stack plans w typed world id (cast body)
    (λ here what. enters_in_range stack plans here (cast body) what are h)
event_says stack plans w (script.Send id to body) typed are h world =
    step_says stack plans w typed world id (send to body)
    (λ here what. enters_in_range stack plans here (send to body) what are h)
event_says stack plans w (script.Leave id) typed are h world = step_says stack plans w typed world id leave
    (λ here what. enters_in_range stack plans here leave what are tt)
event_says stack plans w (script.Tick id moment) typed are h world =
    step_says stack plans w typed world id (tick moment)
    (λ here what. enters_in_range stack plans here (tick moment) what are h)
event_says stack plans w (script.Give k id) typed are h world =
    given_says stack plans w typed world id (packet_number w k) (numbered stack w k world)
event_says stack plans w (script.Raw id bytes) typed are h world =
    step_says stack plans w typed world id (datagram bytes)
    (λ here what. enters_in_range stack plans here (datagram bytes) what are h)
event_says stack plans w (script.Show id) typed are h world = tt
