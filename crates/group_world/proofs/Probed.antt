-- A member is probed, and what happens by that in a world where the group stands.
use Rattle.std.proofs.Common.{◌≡◌, ℕ, ◌<◌, true, List, ◌++◌, length, get_or, set, Option, Some, None, option_map}
use Rattle.std.proofs.Common.{Result, Ok, Err, slice_index_or, refl, ap, sym, subst, ◌∙◌}
use Rattle.std.proofs.lemmas.List.{append-nil, get_or-map, set-get_or}
use Rattle.std.specs.Prelude.{◌^◌}
use Rattle.run_mean.specs.Mode.{Mode}
use Rattle.layer_mean.specs.Tree.{LayerTree}
use Rattle.stack_mean.specs.Plan.{Plan}
use Rattle.run_mean.specs.Member.{Member, inside, out, Input, Output, Refusal, Step}
use Rattle.run_mean.specs.World.{World, Happening, only, Did, taken, refused, absent, shown, member_at, step_happening}
use Rattle.lack_mean.specs.Lacks.{missed_in}
use Rattle.step_misses.specs.Misses.{miss_meant}
use Rattle.step_misses.specs.declared.miss.Miss.{Miss}
use Rattle.step_misses.specs.declared.miss.Probed.{Probed}
use Rattle.step_misses.specs.declared.miss.Probed.TheVariants.{Common, Other, Missed}
use Rattle.view_core.specs.Happenings.{DidIs}
use Rattle.view_core.specs.declared.step.Change.{Change}
use Rattle.view_core.specs.declared.step.Did.TheVariants as told
use Rattle.view_core.specs.declared.step.Stepped.TheVariants.{Taken}
use Rattle.group_member.specs.Placed.{Placed, step_at, step_of}
use Rattle.group_member.specs.Probing.{InputLacks, IsNotTaken, ProbesMember}
use Rattle.group_feed.specs.Feeding.{IsFed}
use Rattle.group_feed.specs.Probing.{IsCommonly, IsLeft, IsProbed, IsUncommon}
use Rattle.group_feed.specs.Standing.{Peopled, SpellPackets, Stands, spelled_of}
use Rattle.group_world.specs.Given.{IsGiven}
use Rattle.group_world.specs.Seats.{Seat, member_of, seat_of, seat, AreSeated}
use Rattle.group_world.proofs.Stepped.{happened, kept, placed_step, same_seat, seat_at, seated_after, spell_there}
use Rattle.group_world.proofs.Stepped.{step_fed, within}

-- its seat stays
probed_seat : (p : Placed) (input : Input) (p' : Placed) (outs : List (Output × Option ℕ)) (probed : Probed) →
    ProbesMember p input p' outs probed → seat_of p' ≡ seat_of p
probed_seat p input p' outs Common is = same_seat p input p' outs 0 0 (Taken true is.change) is.takes
probed_seat p input p' outs Other is = ap seat_of is.same
probed_seat p input p' outs (Missed miss) is = ap seat_of is.same

pub seated_probed : (mode : Mode) (stack : List LayerTree) (plans : List Plan) (group stamp : ℕ) (members : List Placed)
    (place : ℕ) (p : Placed)
    (input : Input) (p' : Placed) (outs : List (Output × Option ℕ)) (probed : Probed) →
    AreSeated mode stack plans group stamp members → p ≡ get_or members place p → ProbesMember p input p' outs probed →
    AreSeated mode stack plans group stamp (set members place p')
seated_probed mode stack plans group stamp members place p input p' outs probed seated at is =
    seated_after mode stack plans group stamp members place p p' seated at (probed_seat p input p' outs probed is)

-- a step that was fed as a common one is one
commonly : (c : Peopled) (h : Happening) (c' : Peopled) (outs : List (Output × Option ℕ)) (before after : ℕ)
    (change : Option Change) →
    IsFed c h c' outs before after (told.Stepped (Taken true change)) → IsCommonly c h c'
commonly c h c' outs before after change fed = go h.did refl fed.told where
  go : (did : Did) → h.did ≡ did →
      DidIs c.mode c.stack c.plans did outs before after (told.Stepped (Taken true change)) → IsCommonly c h c'
  go (taken s) is t = record { step = s; did = is; common = sym t.common_is; world = fed.world }
  go (refused r) is t = absurd t
  go absent is t = absurd t
  go shown is t = absurd t

-- what lacks something wasn't common
record Lacking (stack : List LayerTree) (plans : List Plan) (did : Did) (miss : Option Miss) : Type 0 where
  uncommon : IsUncommon stack plans did
  lacked : missed_in stack plans did ≡ option_map miss_meant miss

lacking : (p : Placed) (input : Input) (w : World) (id : ℕ) (miss : Option Miss) (m : Member)
    (r : Result Step Refusal) → step_at p m input ≡ r →
    InputLacks p.stack p.plans r miss → Lacking p.stack p.plans (happened w id m r).did miss
lacking p input w id miss m (Err reason) is lacks =
    record { uncommon = tt; lacked = ap (option_map miss_meant) (sym lacks) }
lacking p input w id miss out (Ok s) is lacks = absurd (cc is)
lacking p input w id miss (inside view states) (Ok s) is lacks =
    record { uncommon = lacks.uncommon; lacked = lacks.lacked }

-- where no input is given, nothing happens
pub absent_left : (c : Peopled) (w : World) (h : Happening) → h ≡ only w absent → IsLeft c h c None
absent_left c w h is = subst (λ (x : Happening). IsLeft c x c None) (sym is)
    (record { same = refl; uncommon = tt; lacked = refl })

pub shown_left : (c : Peopled) (w : World) (h : Happening) → h ≡ only w shown → IsLeft c h c None
shown_left c w h is = subst (λ (x : Happening). IsLeft c x c None) (sym is)
    (record { same = refl; uncommon = tt; lacked = refl })

-- a group that is told by its parts
module _ (c : Peopled) (mode : Mode) (stack : List LayerTree) (plans : List Plan) (group stamp : ℕ)
    (members : List Placed) (spelled : List (List ℕ))
    (is_shown : kept mode stack plans group stamp members spelled ≡ c) (id place : ℕ) (p : Placed)
    (seated : AreSeated mode stack plans group stamp members) (is_place : place ≡ id) (lt : id < length c.members)
    (found : p ≡ get_or members place p)
    (input : Input) (p' : Placed) (outs : List (Output × Option ℕ)) (more : List (List ℕ))
    (small : group < 2 ^ 32) (few : stamp < 2 ^ 32) (given : IsGiven p input)
    (sent : more ≡ spelled ++ spelled_of plans outs) where
  abbrev new : Peopled
  new = kept mode stack plans group stamp (set members place p') more

  its_place : id < length members
  its_place = within c mode stack plans group stamp members spelled is_shown id place p seated is_place lt found

  -- where nothing changed
  same : (miss : Option Miss) → IsNotTaken p input p' outs miss → new ≡ c
  same miss not =
      (λ i. kept mode stack plans group stamp
      ((ap (λ x. set members place x) (not.same ∙ found) ∙ set-get_or members place p) i)
      ((sent ∙ ap (λ os. spelled ++ spelled_of plans os) not.none ∙ append-nil spelled) i)) ∙ is_shown

  spelled_so : (w : World) → Stands c w → SpellPackets c.stack c.plans spelled w.packets
  spelled_so w stands = spell_there c mode stack plans group stamp members spelled is_shown w stands

  left : (miss : Option Miss) → IsNotTaken p input p' outs miss → (w : World) → Stands c w → (h : Happening) →
      h ≡ step_happening c.stack c.plans w id input → IsLeft c h new miss
  left miss not w stands h is =
      let there = subst (λ (x : Peopled). Stands x w) (sym is_shown) stands in
      let at_id : p ≡ get_or members id p = found ∙ ap (λ k. get_or members k p) is_place in
      let sits : seat_of p ≡ seat mode stack plans group stamp id =
      seat_at mode stack plans group stamp members id p seated its_place at_id in
      let sits_there : seat_of p ≡ seat mode stack plans w.group w.stamp id =
      sits ∙ sym (λ i. seat mode stack plans (there.group i) (there.stamp i) id) in
      let at : member_at w id ≡ p.member =
      ap (λ ms. slice_index_or ms id out) there.members ∙ get_or-map member_of members id p out its_place ∙
      sym (ap member_of at_id) in
      let its : Lacking stack plans (happened w id p.member (step_of p input)).did miss =
      subst (λ (s : Seat). Lacking s.stack s.plans (happened w id p.member (step_of p input)).did miss) sits
      (lacking p input w id miss p.member (step_of p input) refl not.lacks) in
      let so : Lacking stack plans (step_happening stack plans w id input).did miss =
      subst (λ (h : Happening). Lacking stack plans h.did miss)
      (sym (placed_step mode stack plans w id input p sits_there at)) its in
      let lacks : Lacking c.stack c.plans (step_happening c.stack c.plans w id input).did miss =
      subst (λ (x : Peopled). Lacking x.stack x.plans (step_happening x.stack x.plans w id input).did miss) is_shown so
      in
      subst (λ (x : Happening). IsLeft c x new miss) (sym is)
      (record { same = same miss not; uncommon = lacks.uncommon; lacked = lacks.lacked })

  pub probed_so : (probed : Probed) → ProbesMember p input p' outs probed → (w : World) → Stands c w → (h : Happening) →
      (SpellPackets c.stack c.plans spelled w.packets → h ≡ step_happening c.stack c.plans w id input) →
      IsProbed c h new probed
  probed_so Common is w stands h asks =
      commonly c h new outs 0 0 is.change
      (step_fed c mode stack plans group stamp members spelled is_shown id place p seated is_place lt found more p' outs
      0 0 (Taken true is.change)
      input small few given is.takes sent w stands h asks)
  probed_so Other is w stands h asks = left None is w stands h (asks (spelled_so w stands))
  probed_so (Missed miss) is w stands h asks = left (Some miss) is w stands h (asks (spelled_so w stands))
