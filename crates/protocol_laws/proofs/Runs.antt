-- What each step of a member keeps holds along every run.
use Rattle.std.proofs.Common.{◌≡◌, ℕ, zero, suc, ◌+◌, Bool, true, false, List, [], ◌∷◌, ◌++◌, map, length, refl, sym}
use Rattle.std.proofs.Common.{ap}
use Rattle.std.proofs.Common.{subst, ◌∙◌, append_assoc, Option, Some, None, Result, Ok, Err}
use Rattle.std.specs.Prelude.{nat_lt, if◌then◌else◌}
use Rattle.std.specs.List.{AllByRecursion, flat_map}
use Rattle.std.proofs.lemmas.List.{append-nil}
use Rattle.std.proofs.lemmas.List.Concat.{flat_map-cons}
use Rattle.msg_core.specs.Parts.{longest_body}
use Rattle.msg_core.specs.declared.packet.Packet.{Packet}
use Rattle.msg_core.specs.declared.packet.Stray.{Stray}
use Rattle.msg_core.specs.declared.packet.View.{View}
use Rattle.script_mean.specs.Event.{member_of}
use Rattle.script_mean.specs.declared.event.ScriptEvent.{ScriptEvent}
use Rattle.script_mean.specs.declared.event.ScriptEvent.TheVariants as script
use Rattle.audit_mean.specs.Line.{ReportLine, silent}
use Rattle.layer_mean.specs.Tree.{LayerTree}
use Rattle.layer_mean.specs.State.{State}
use Rattle.packet_mean.specs.Reading.{preamble_of}
use Rattle.packet_mean.specs.Received.{◌>>=◌, meant_for}
use Rattle.packet_mean.specs.Spelling.{full_form, full_bytes, IsSpellable, SpellsPacket}
use Rattle.packet_laws.specs.Strays.{AreNumbered}
use Rattle.packet_laws.proofs.Once.{one_full_spelling}
use Rattle.packet_laws.proofs.Strays.{received_as_meant}
use Rattle.stack_mean.specs.Plan.{Plan}
use Rattle.stack_mean.specs.Plans.{plans_of}
use Rattle.run_mean.specs.Member.{Member, inside, out, Input, cast, send, leave, tick, datagram, Refusal, too_big}
use Rattle.run_mean.specs.Member.{Entered, app_cast, app_send, from_datagram}
use Rattle.run_mean.specs.Member.{entered_input}
use Rattle.run_mean.specs.World.{World, Happening, member_at, packet_number, happens, here_of, stepped_of}
use Rattle.run_mean.specs.World.{stepped_inside}
use Rattle.run_mean.specs.World.{given_packet, first_world}
use Rattle.run_mean.specs.Report.{Moment, moments, member_lines}
use Rattle.chain_laws.specs.Runs.{TypedStack}
use Rattle.chain_laws.proofs.Lists.{Where}
use Rattle.member_laws.specs.Members.{IsGivenEvent, IsChainedWorld}
use Rattle.member_laws.proofs.Members.{events_keep_chains, first_world_is_chained, numbered}
use Rattle.member_laws.proofs.Numbered.{plans_are_numbered}
use Rattle.order_laws.specs.Said.{did_said, moment_said}
use Rattle.protocol_laws.specs.Runs.{IsOneOf, Comes, Property, IsKept, IsUnforged, last_world, RunsKeep}
use Rattle.protocol_laws.specs.Runs.{RawIsGiven}
use Rattle.protocol_laws.specs.Runs.{Passes, TestsKeep}
use Rattle.protocol_laws.proofs.Meant.{meant_is_for}

-- what holds of an input that isn't refused
abbrev WhereOk : (Entered → Type 0) → Result Entered Refusal → Type 0
WhereOk Q (Ok what) = Q what
WhereOk Q (Err refusal) = Unit {0}

fitting_comes : (Q : Entered → Type 0) (what : Entered) (b : Bool) → Q what →
    WhereOk Q (if b then Err too_big else Ok what)
fitting_comes Q what true h = tt
fitting_comes Q what false h = h

module _ (stack : List LayerTree) (plans : List Plan) (P : Property) (keeps : IsKept stack P) where
  -- what a moment of this event gave keeps the property
  abbrev Reaches : ℕ → List ReportLine → Moment → Happening → Type 0
  Reaches left past m h = P left h.world (past ++ did_said stack m h.did)

  nothing : (left : ℕ) (past : List ReportLine) (w : World) → P (suc left) w past → P left w (past ++ silent ∷ [])
  nothing left past w h = keeps.silence left w past (keeps.passes left w past h)

  entered : (left : ℕ) (past : List ReportLine) (m : Moment) (w : World) (view : View) (states : List State)
      (r : Result Entered Refusal) →
      P (suc left) w past → member_at w (member_of m.event) ≡ inside view states →
      WhereOk (Comes w view (member_of m.event)) r →
      Reaches left past m (stepped_inside stack w (member_of m.event) view states r)
  entered left past m w view states (Err refusal) h at comes = nothing left past w h
  entered left past m w view states (Ok what) h at comes =
      keeps.steps left w past (member_of m.event) view states what h at comes

  of_member : (left : ℕ) (past : List ReportLine) (m : Moment) (w : World) (input : Input) (who : Member) →
      P (suc left) w past → member_at w (member_of m.event) ≡ who →
      ((view : View) → WhereOk (Comes w view (member_of m.event))
      (entered_input stack plans (here_of w view (member_of m.event)) input)) →
      Reaches left past m (stepped_of stack plans w (member_of m.event) input who)
  of_member left past m w input out h at comes = nothing left past w h
  of_member left past m w input (inside view states) h at comes =
      entered left past m w view states (entered_input stack plans (here_of w view (member_of m.event)) input) h at
      (comes view)

  -- a packet that was sent, as bytes that spell it
  datagram_comes : (w : World) (id : ℕ) (p : Packet) (bytes : List ℕ) → IsOneOf w.packets p →
      SpellsPacket stack plans bytes p → (view : View) →
      WhereOk (Comes w view id) (entered_input stack plans (here_of w view id) (datagram bytes))
  datagram_comes w id p bytes listed spells view =
      subst (λ r. WhereOk (Comes w view id) (from_datagram r))
      (sym (received_as_meant stack plans (here_of w view id) bytes p spells))
      (by (meant_for (here_of w view id) (preamble_of full_form p)) refl)
    where
      by : (r : Result (Unit {0}) Stray) → meant_for (here_of w view id) (preamble_of full_form p) ≡ r →
          WhereOk (Comes w view id) (from_datagram (r >>= λ _. Ok p))
      by (Err c) is = tt
      by (Ok x) is = (listed, meant_is_for (here_of w view id) p x is)

  given : (left : ℕ) (past : List ReportLine) (m : Moment) (w : World) (k : ℕ) (o : Option Packet) →
      packet_number w k ≡ o → Where (IsSpellable stack) o → P (suc left) w past →
      Reaches left past m (given_packet stack plans w (member_of m.event) o)
  given left past m w k None at spells h = nothing left past w h
  given left past m w zero (Some p) at spells h = absurd (cc at)
  given left past m w (suc k) (Some p) at spells h =
      of_member left past m w (datagram (full_bytes p)) (member_at w (member_of m.event)) h refl
      (datagram_comes w (member_of m.event) p (full_bytes p) (record { place = k; listed = at })
      (one_full_spelling stack plans p spells).0)

  -- a member that is shown has silent lines
  silent_lines : (left : ℕ) (w : World) (lines : List (List ℕ)) (past : List ReportLine) → P left w past →
      P left w (past ++ map (λ shown_line. silent) lines)
  silent_lines left w [] past h = subst (P left w) (sym (append-nil past)) h
  silent_lines left w (l ∷ lines) past h =
      subst (P left w) (append_assoc past (silent ∷ []) (map (λ shown_line. silent) lines))
      (silent_lines left w lines (past ++ silent ∷ []) (keeps.silence left w past h))

  event_keeps : (left : ℕ) (past : List ReportLine) (w : World) (e : ScriptEvent) (h : Happening) →
      happens stack plans w e ≡ h → IsUnforged e → IsChainedWorld stack w → P (suc left) w past →
      Reaches left past (record { before = w; event = e; happening = h }) (happens stack plans w e)
  unfolding happens
  event_keeps left past w (script.Cast id body) g is fair world h =
      of_member left past (record { before = w; event = script.Cast id body; happening = g }) w (cast body)
      (member_at w id) h refl
      (λ view. fitting_comes (Comes w view id) (app_cast body) (nat_lt longest_body (length body)) tt)
  event_keeps left past w (script.Send id to body) g is fair world h =
      of_member left past (record { before = w; event = script.Send id to body; happening = g }) w (send to body)
      (member_at w id) h refl
      (λ view. fitting_comes (Comes w view id) (app_send to body) (nat_lt longest_body (length body)) tt)
  event_keeps left past w (script.Leave id) g is fair world h =
      of_member left past (record { before = w; event = script.Leave id; happening = g }) w leave (member_at w id) h
      refl (λ view. tt)
  event_keeps left past w (script.Tick id moment) g is fair world h =
      of_member left past (record { before = w; event = script.Tick id moment; happening = g }) w (tick moment)
      (member_at w id) h refl (λ view. tt)
  event_keeps left past w (script.Give k id) g is fair world h =
      given left past (record { before = w; event = script.Give k id; happening = g }) w k (packet_number w k) refl
      (numbered stack w k world) h
  event_keeps left past w (script.Raw id bytes) g is fair world h = absurd fair
  event_keeps left past w (script.Show id) g is fair world h =
      silent_lines left w (member_lines stack id (member_at w id)) past (keeps.passes left w past h)

  run_ends : TypedStack stack → AreNumbered plans → (w : World) (events : List ScriptEvent) (past : List ReportLine) →
      AllByRecursion IsGivenEvent events → AllByRecursion IsUnforged events → IsChainedWorld stack w →
      P (length events) w past →
      P 0 (last_world w (moments stack plans w events))
      (past ++ flat_map (moment_said stack) (moments stack plans w events))
  run_ends typed are w [] past given fair world h = subst (P 0 w) (sym (append-nil past)) h
  run_ends typed are w (e ∷ events) past given fair world h =
      let g = happens stack plans w e in
      let m : Moment = record { before = w; event = e; happening = g } in
      let here = moment_said stack m in
      let later = moments stack plans g.world events in
      let next = event_keeps (length events) past w e g refl fair.0 world h in
      let rest = run_ends typed are g.world events (past ++ here) given.1 fair.1
      (events_keep_chains stack plans w e typed are given.0 world) next in
      subst (P 0 (last_world g.world later))
      (append_assoc past here (flat_map (moment_said stack) later)
      ∙ ap (λ lines. past ++ lines) (sym (flat_map-cons (moment_said stack) m later)))
      rest

pub runs_keep : RunsKeep
runs_keep stack P s typed keeps fair h =
    run_ends stack (plans_of stack) P keeps typed (plans_are_numbered stack typed)
    (first_world stack s.group s.stamp s.members) s.events [] fair.given fair.unforged
    (first_world_is_chained stack s.group s.stamp s.members typed fair.group fair.stamp fair.members) h

pub tests_keep : TestsKeep
tests_keep stack test s typed keeps fair h = runs_keep stack (Passes test) s typed keeps fair h

-- raw datagrams that spell what was sent

same_step : (stack : List LayerTree) (plans : List Plan) (w : World) (id : ℕ) (bytes : List ℕ) (p : Packet)
    (who : Member) →
    SpellsPacket stack plans bytes p → stepped_of stack plans w id (datagram bytes) who ≡
    stepped_of stack plans w id (datagram (full_bytes p)) who
same_step stack plans w id bytes p out spells = refl
same_step stack plans w id bytes p (inside view states) spells =
    ap (λ r. stepped_inside stack w id view states (from_datagram r))
    (received_as_meant stack plans (here_of w view id) bytes p spells
    ∙ sym (received_as_meant stack plans (here_of w view id) (full_bytes p) p
    (one_full_spelling stack plans p spells.spellable).0))

pub raw_is_given : RawIsGiven
unfolding happens
raw_is_given stack plans w id k bytes p at spells =
    same_step stack plans w id bytes p (member_at w id) spells ∙ ap (given_packet stack plans w id) (sym at)
