-- The datagrams of outputs, and the packets that they spell.
use Rattle.std.proofs.Common.{◌≡◌, ℕ, zero, suc, ◌+◌, ◌<◌, List, [], ◌∷◌, ◌++◌, map, take, Option, Some, None}
use Rattle.std.proofs.Common.{Result, Ok, Err, slice_get, refl, ap, sym, subst, ◌∙◌, add-one, append_assoc}
use Rattle.std.specs.Prelude.{◌^◌}
use Rattle.std.proofs.Math.Seq.{take-suc}
use Rattle.std.proofs.lemmas.List.Elements.{filter_map-append}
use Rattle.std.proofs.lemmas.Option.{get_or_from_slice_get, slice_get_within}
use Rattle.std.specs.List.{AllByRecursion, filter_map}
use Rattle.msg_core.specs.declared.packet.Packet.{Packet}
use Rattle.msg_core.specs.declared.packet.View.{View}
use Rattle.layer_mean.specs.State.{State}
use Rattle.layer_mean.specs.Tree.{LayerTree}
use Rattle.packet_mean.specs.Spelling.{SpellsPacket}
use Rattle.stack_mean.specs.Plan.{Plan}
use Rattle.stack_mean.specs.Plans.{plans_of}
use Rattle.run_mean.specs.Common.{as_sent}
use Rattle.run_mean.specs.Member.{Member, inside, out, Input, Entered, entered_input, Refusal, Step, step_from, Output}
use Rattle.run_mean.specs.Member.{deliver_cast, deliver_send, block, announce, packet, nowhere, timer, quiet, packet_in}
use Rattle.member_laws.specs.Members.{IsHere, IsInside, IsChainedMember}
use Rattle.member_laws.specs.Steps.{IsStep, WireIsSpelled}
use Rattle.member_laws.proofs.Members.{each_of, here_is}
use Rattle.member_laws.proofs.Numbered.{inputs_are_in_range}
use Rattle.member_laws.proofs.Wires.{wires_are_spelled}
use Rattle.view_core.specs.declared.step.Stepped.{Stepped}
use Rattle.view_core.specs.declared.step.Stepped.TheVariants.{Taken, Refused}
use Rattle.group_member.specs.Placed.{Placed, Steps, here_in, step_at, step_in}
use Rattle.group_feed.specs.Standing.{SpellPackets, datagram_in, spelled_of}
use Rattle.group_world.specs.Given.{IsGiven}

-- the datagrams of outputs up to one, and of this one
pub spelled_next : (plans : List Plan) (old now new : List (List ℕ)) (outs : List (Output × Option ℕ)) (k : ℕ)
    (o : Output × Option ℕ) →
    slice_get outs k ≡ Some o →
    now ≡ old ++ spelled_of plans (take k outs) → new ≡ now ++ spelled_of plans (o ∷ []) →
    new ≡ old ++ spelled_of plans (take (k + 1) outs)
spelled_next plans old now new outs k o is before following =
    let next : take (k + 1) outs ≡ take k outs ++ o ∷ [] =
    ap (λ n. take n outs) (add-one k) ∙ take-suc outs k o (slice_get_within outs k o is)
    ∙ ap (λ x. take k outs ++ x ∷ []) (get_or_from_slice_get outs k o o is) in
    following ∙ ap (λ xs. xs ++ spelled_of plans (o ∷ [])) before ∙
    append_assoc old (spelled_of plans (take k outs)) (spelled_of plans (o ∷ [])) ∙
    ap (λ xs. old ++ xs)
    (sym (ap (spelled_of plans) next ∙ filter_map-append (datagram_in plans) (take k outs) (o ∷ [])))

module _ (stack : List LayerTree) (plans : List Plan) where
  -- datagrams of packets, and of packets after these
  pub spell_both : (xs ys : List (List ℕ)) (ps qs : List Packet) → SpellPackets stack plans xs ps →
      SpellPackets stack plans ys qs → SpellPackets stack plans (xs ++ ys) (ps ++ qs)
  spell_both [] ys [] qs spell more = more
  spell_both [] ys (p ∷ ps) qs spell more = absurd spell
  spell_both (x ∷ xs) ys [] qs spell more = absurd spell
  spell_both (x ∷ xs) ys (p ∷ ps) qs spell more = (spell.0, spell_both xs ys ps qs spell.1 more)

  -- those of outputs whose bytes are spelled
  pub sent_spell : (outs : List (Output × Option ℕ)) → AllByRecursion (WireIsSpelled stack plans) outs →
      SpellPackets stack plans (spelled_of plans outs) (filter_map packet_in (map (λ o. o.0) outs))
  sent_spell [] are = tt
  sent_spell ((packet p, plan) ∷ outs) are = (are.0, sent_spell outs are.1)
  sent_spell ((deliver_cast peer body, plan) ∷ outs) are = sent_spell outs are.1
  sent_spell ((deliver_send peer body, plan) ∷ outs) are = sent_spell outs are.1
  sent_spell ((block n, plan) ∷ outs) are = sent_spell outs are.1
  sent_spell ((announce n, plan) ∷ outs) are = sent_spell outs are.1
  sent_spell ((nowhere, plan) ∷ outs) are = sent_spell outs are.1
  sent_spell ((timer n, plan) ∷ outs) are = sent_spell outs are.1
  sent_spell ((quiet dir e, plan) ∷ outs) are = sent_spell outs are.1

  -- a datagram and a packet, or neither
  abbrev pub SpellsIf : Option (List ℕ) → Option Packet → Type 0
  SpellsIf None None = Unit {0}
  SpellsIf (Some bytes) (Some p) = SpellsPacket stack plans bytes p
  SpellsIf _ _ = ⊥

  pub spells_at : (datagrams : List (List ℕ)) (packets : List Packet) (k : ℕ) →
      SpellPackets stack plans datagrams packets →
      SpellsIf (slice_get datagrams k) (slice_get packets k)
  spells_at [] [] k spell = tt
  spells_at [] (p ∷ packets) k spell = absurd spell
  spells_at (bytes ∷ datagrams) [] k spell = absurd spell
  spells_at (bytes ∷ datagrams) (p ∷ packets) zero spell = spell.0
  spells_at (bytes ∷ datagrams) (p ∷ packets) (suc k) spell = spells_at datagrams packets k spell.1

-- what a member that is given an input sends spells its packets
module _ (p : Placed) (input : Input) (given : IsGiven p input) (group : p.group < 2 ^ 32)
    (stamp : p.stamp < 2 ^ 32) where
  place : (view : View) (states : List State) → IsInside p.stack view states → IsHere (here_in p view)
  place view states is = here_is p.stack (record { group = p.group; stamp = p.stamp; members = []; packets = [] }) view
      p.id (record { group = group; stamp = stamp; members = tt; packets = tt }) is.view_is

  sent_from : (view : View) (states : List State) (what : Entered) → IsInside p.stack view states →
      entered_input p.stack p.plans (here_in p view) input ≡ Ok what →
      AllByRecursion (WireIsSpelled p.stack p.plans)
      (as_sent p.mode p.stack p.plans (step_from p.stack (here_in p view) p.id states what))
  sent_from view states what is enters =
      let here = here_in p view in
      let its : entered_input p.stack (plans_of p.stack) here input ≡ Ok what =
      subst (λ (plans : List Plan). entered_input p.stack plans here input ≡ Ok what) given.plans enters in
      let step : IsStep p.stack here states what = record {
        typed = given.typed;
        at = place view states is;
        states_are = is.states_are;
        input = inputs_are_in_range p.stack here input what given.typed given.range its;
      } in
      subst (λ (plans : List Plan). AllByRecursion (WireIsSpelled p.stack plans)
      (as_sent p.mode p.stack plans (step_from p.stack here p.id states what))) (sym given.plans)
      (each_of (WireIsSpelled p.stack (plans_of p.stack))
      (as_sent p.mode p.stack (plans_of p.stack) (step_from p.stack here p.id states what))
      (wires_are_spelled p.mode p.stack here p.id states what step))

  sent_at : (m : Member) (s : Step) → IsChainedMember p.stack m → step_at p m input ≡ Ok s →
      AllByRecursion (WireIsSpelled p.stack p.plans) (as_sent p.mode p.stack p.plans s)
  sent_at out s chained is = absurd (cc is)
  sent_at (inside view states) s chained is = go (entered_input p.stack p.plans (here_in p view) input) refl is where
    go : (e : Result Entered Refusal) → entered_input p.stack p.plans (here_in p view) input ≡ e →
        step_in p view states e ≡ Ok s →
        AllByRecursion (WireIsSpelled p.stack p.plans) (as_sent p.mode p.stack p.plans s)
    go (Err reason) enters is = absurd (cc is)
    go (Ok what) enters is =
        let same : step_from p.stack (here_in p view) p.id states what ≡ s = cc is in
        subst (λ (t : Step). AllByRecursion (WireIsSpelled p.stack p.plans) (as_sent p.mode p.stack p.plans t)) same
        (sent_from view states what chained enters)

  pub steps_spell : (p' : Placed) (outs : List (Output × Option ℕ)) (before after : ℕ) (st : Stepped) →
      Steps p input p' outs before after st → AllByRecursion (WireIsSpelled p.stack p.plans) outs
  steps_spell p' outs before after (Taken common change) is =
      subst (AllByRecursion (WireIsSpelled p.stack p.plans)) (sym is.outputs)
      (sent_at p.member is.step given.chained is.is)
  steps_spell p' outs before after (Refused reason) is =
      subst (AllByRecursion (WireIsSpelled p.stack p.plans)) (sym is.none) tt
