-- A step of a member, and what happens by it in a world where the group stands.
use Rattle.std.proofs.Common.{◌≡◌, Bool, ℕ, zero, suc, ◌<◌, List, [], ◌∷◌, ◌++◌, map, length, get_or, set, Option, Some}
use Rattle.std.proofs.Common.{None, Result, Ok, Err, slice_index_or, slice_set, refl, ap, sym}
use Rattle.std.proofs.Common.{subst, ◌∙◌, zero-add}
use Rattle.std.proofs.Math.Seq.{map-set_same}
use Rattle.std.proofs.lemmas.List.{append-nil, get_or-map, map-set, set-get_or, length-map, length-set}
use Rattle.std.proofs.lemmas.List.FromFn.{get_or-map-range_with_len, length-map-range_with_len}
use Rattle.std.specs.List.{AllByRecursion, filter_map}
use Rattle.std.specs.Prelude.{◌^◌}
use Rattle.std.specs.Option.{option_map_or}
use Rattle.msg_core.specs.View.{rank}
use Rattle.msg_core.specs.declared.packet.Packet.{Packet}
use Rattle.msg_core.specs.declared.packet.View.{View}
use Rattle.run_mean.specs.Mode.{Mode}
use Rattle.layer_mean.specs.State.{State}
use Rattle.layer_mean.specs.Tree.{LayerTree}
use Rattle.stack_mean.specs.Plan.{Plan}
use Rattle.packet_mean.specs.Received.{received}
use Rattle.packet_mean.specs.Spelling.{full_bytes, SpellsPacket}
use Rattle.packet_mean.specs.declared.here.Here.{Here}
use Rattle.packet_laws.proofs.Once.{one_full_spelling}
use Rattle.packet_laws.proofs.Strays.{received_as_meant}
use Rattle.member_laws.specs.Steps.{WireIsSpelled}
use Rattle.run_mean.specs.Common.{with_plans, plan_after, short_from}
use Rattle.run_mean.specs.Member.{Member, inside, out, Input, datagram, is_out, Entered, entered_input}
use Rattle.run_mean.specs.Member.{from_datagram, packet_in, Output}
use Rattle.run_mean.specs.Member.{Refusal, Step, step_from}
use Rattle.run_mean.specs.World.{World, Happening, only, refused, taken, absent, shown, here_of, member_at}
use Rattle.run_mean.specs.World.{packet_number, world_after}
use Rattle.run_mean.specs.World.{step_happening, stepped_of, stepped_inside, given_packet}
use Rattle.view_core.specs.Happenings.{DidIs, IsTaken}
use Rattle.view_core.specs.declared.step.Change.{Change}
use Rattle.view_core.specs.declared.step.Did.TheVariants as told
use Rattle.view_core.specs.declared.step.Stepped.{Stepped}
use Rattle.view_core.specs.declared.step.Stepped.TheVariants.{Taken, Refused}
use Rattle.group_member.specs.Placed.{Placed, Steps, here_in, step_at, step_in, step_of, member_after}
use Rattle.group_feed.specs.Feeding.{IsFed}
use Rattle.group_world.specs.Given.{IsGiven}
use Rattle.group_world.proofs.Spelled.{SpellsIf, sent_spell, spell_both, spells_at, steps_spell}
use Rattle.group_world.specs.Seats.{Seat, member_of, seat_of, seat, seats, AreSeated}
use Rattle.group_feed.specs.Standing.{Peopled, SpellPackets, Stands, Stays, spelled_number, spelled_of}

-- outputs without their plans
without_plans : (plans : List Plan) (next : Option ℕ) (outputs : List Output) →
    map (λ o. o.0) (with_plans plans next outputs) ≡ outputs
without_plans plans next [] = refl
without_plans plans next (o ∷ outputs) = ap (λ os. o ∷ os) (without_plans plans (plan_after next o) outputs)

-- members in their seats
pub count_seats : (mode : Mode) (stack : List LayerTree) (plans : List Plan) (group stamp n : ℕ)
    (members : List Placed) →
    map seat_of members ≡ seats mode stack plans group stamp n → length members ≡ n
count_seats mode stack plans group stamp n members seated =
    sym (length-map members seat_of) ∙ ap length seated ∙ length-map-range_with_len (seat mode stack plans group stamp)
    0 n

pub are_seated : (mode : Mode) (stack : List LayerTree) (plans : List Plan) (group stamp n : ℕ)
    (members : List Placed) →
    map seat_of members ≡ seats mode stack plans group stamp n → AreSeated mode stack plans group stamp members
are_seated mode stack plans group stamp n members seated =
    seated ∙ ap (seats mode stack plans group stamp) (sym (count_seats mode stack plans group stamp n members seated))

module _ (mode : Mode) (stack : List LayerTree) (plans : List Plan) (group stamp : ℕ) (members : List Placed) (id : ℕ)
    (p : Placed) where
  pub seat_at : AreSeated mode stack plans group stamp members → id < length members → p ≡ get_or members id p →
      seat_of p ≡ seat mode stack plans group stamp id
  seat_at seated lt at =
      ap seat_of at ∙ sym (get_or-map seat_of members id p (seat_of p) lt) ∙
      ap (λ ss. get_or ss id (seat_of p)) seated ∙
      get_or-map-range_with_len (seat mode stack plans group stamp) 0 (length members) id id (seat_of p) lt
      (zero-add id)

-- one of them steps
pub same_seat : (p : Placed) (input : Input) (p' : Placed) (outs : List (Output × Option ℕ)) (before after : ℕ)
    (st : Stepped) →
    Steps p input p' outs before after st → seat_of p' ≡ seat_of p
same_seat p input p' outs before after (Taken common change) is =
    λ i. record {
      mode = is.place.mode i;
      stack = is.place.stack i;
      plans = is.place.plans i;
      group = is.place.group i;
      stamp = is.place.stamp i;
      id = is.place.id i;
    }
same_seat p input p' outs before after (Refused reason) is = ap seat_of is.same

pub seated_after : (mode : Mode) (stack : List LayerTree) (plans : List Plan) (group stamp : ℕ) (members : List Placed)
    (place : ℕ) (p p' : Placed) →
    AreSeated mode stack plans group stamp members → p ≡ get_or members place p → seat_of p' ≡ seat_of p →
    AreSeated mode stack plans group stamp (set members place p')
seated_after mode stack plans group stamp members place p p' seated at same =
    are_seated mode stack plans group stamp (length members) (set members place p')
    (map-set_same seat_of members place p' p (same ∙ ap seat_of at) ∙ seated)

pub seated_following : (mode : Mode) (stack : List LayerTree) (plans : List Plan) (group stamp : ℕ)
    (members : List Placed)
    (place : ℕ) (p : Placed)
    (input : Input) (p' : Placed) (outs : List (Output × Option ℕ)) (before after : ℕ) (st : Stepped) →
    AreSeated mode stack plans group stamp members → p ≡ get_or members place p →
    Steps p input p' outs before after st →
    AreSeated mode stack plans group stamp (set members place p')
seated_following mode stack plans group stamp members place p input p' outs before after st seated at is =
    seated_after mode stack plans group stamp members place p p' seated at
    (same_seat p input p' outs before after st is)

-- what a member in a seat makes of an input
abbrev here_at : Seat → View → Here
here_at s view = record
    { group = s.group; stamp = s.stamp; view = view; rank = option_map_or (λ r. r) (rank view s.id) 0 }

abbrev step_in_seat : Seat → View → List State → Result Entered Refusal → Result Step Refusal
step_in_seat s view states (Ok what) = Ok (step_from s.stack (here_at s view) s.id states what)
step_in_seat s view states (Err reason) = Err reason

abbrev step_seated : Seat → Member → Input → Result Step Refusal
step_seated s out input = Err is_out
step_seated s (inside view states) input =
    step_in_seat s view states (entered_input s.stack s.plans (here_at s view) input)

same_step : (p : Placed) (m : Member) (input : Input) → step_at p m input ≡ step_seated (seat_of p) m input
same_step p out input = refl
same_step p (inside view states) input = go (entered_input p.stack p.plans (here_in p view) input) where
  go : (e : Result Entered Refusal) → step_in p view states e ≡ step_in_seat (seat_of p) view states e
  go (Ok what) = refl
  go (Err reason) = refl

-- what happens by the step of a member
abbrev pub happened : World → ℕ → Member → Result Step Refusal → Happening
happened w id m (Err reason) = only w (refused reason)
happened w id out (Ok s) = only w absent
happened w id (inside view states) (Ok s) = record { world = world_after w view id s; did = taken s }

world_step : (mode : Mode) (stack : List LayerTree) (plans : List Plan) (w : World) (id : ℕ) (input : Input)
    (m : Member) →
    stepped_of stack plans w id input m ≡
    happened w id m (step_seated (seat mode stack plans w.group w.stamp id) m input)
world_step mode stack plans w id input out = refl
world_step mode stack plans w id input (inside view states) = go (entered_input stack plans (here_of w view id) input)
  where
    go : (e : Result Entered Refusal) →
        stepped_inside stack w id view states e ≡
        happened w id (inside view states) (step_in_seat (seat mode stack plans w.group w.stamp id) view states e)
    go (Ok what) = refl
    go (Err reason) = refl

-- a member in its seat steps as the one of the world does
pub placed_step : (mode : Mode) (stack : List LayerTree) (plans : List Plan) (w : World) (id : ℕ) (input : Input)
    (p : Placed) →
    seat_of p ≡ seat mode stack plans w.group w.stamp id → member_at w id ≡ p.member →
    step_happening stack plans w id input ≡ happened w id p.member (step_of p input)
placed_step mode stack plans w id input p sits at =
    ap (stepped_of stack plans w id input) at ∙ world_step mode stack plans w id input p.member ∙
    ap (λ s. happened w id p.member (step_seated s p.member input)) (sym sits) ∙
    ap (happened w id p.member) (sym (same_step p p.member input))

-- what is told of it, and the world after it
record IsAfter (mode : Mode) (stack : List LayerTree) (plans : List Plan) (w : World) (id : ℕ) (h : Happening)
    (m : Member) (outs : List (Output × Option ℕ))
    (before after : ℕ) (st : Stepped) : Type 0 where
  is_told : DidIs mode stack plans h.did outs before after (told.Stepped st)
  group : h.world.group ≡ w.group
  stamp : h.world.stamp ≡ w.stamp
  members : h.world.members ≡ slice_set w.members id m
  packets : h.world.packets ≡ w.packets ++ filter_map packet_in (map (λ o. o.0) outs)

module _ (w : World) (id : ℕ) (p : Placed) (input : Input) (p' : Placed) (outs : List (Output × Option ℕ))
    (before after : ℕ) where
  taken_after : (common : Bool) (change : Option Change) (m : Member) (s : Step) → step_at p m input ≡ Ok s →
      p'.member ≡ member_after m s →
      IsTaken p.mode p.stack p.plans s outs before after common change →
      IsAfter p.mode p.stack p.plans w id (happened w id m (Ok s)) p'.member outs before after (Taken common change)
  taken_after common change out s is following told = absurd (cc is)
  taken_after common change (inside view states) s is following told = record {
    is_told = told;
    group = refl;
    stamp = refl;
    members = ap (slice_set w.members id) (sym following);
    packets = ap (λ os. w.packets ++ filter_map packet_in os)
        (sym (ap (map (λ o. o.0)) told.outs_are ∙ without_plans p.plans (short_from p.mode p.stack p.plans s)
        s.outputs));
  }

  step_after : (st : Stepped) → Steps p input p' outs before after st → member_at w id ≡ p.member →
      IsAfter p.mode p.stack p.plans w id (happened w id p.member (step_of p input)) p'.member outs before after st
  step_after (Taken common change) is at =
      subst (λ r. IsAfter p.mode p.stack p.plans w id (happened w id p.member r) p'.member outs before after
      (Taken common change)) (sym is.is)
      (taken_after common change p.member is.step is.is is.member
      (record { outs_are = is.outputs; common_is = is.common_is; change_is = is.change_is; visits_are = is.visits }))
  step_after (Refused reason) is at =
      subst (λ r. IsAfter p.mode p.stack p.plans w id (happened w id p.member r) p'.member outs before after
      (Refused reason)) (sym is.why)
      (record {
        is_told = record { cause_is = refl; quiet = record { outs_are = is.none; visits_are = is.visits } };
        group = refl;
        stamp = refl;
        members = sym (ap (slice_set w.members id) (ap member_of is.same ∙ sym at) ∙ set-get_or w.members id out);
        packets = sym (ap (λ os. w.packets ++ filter_map packet_in (map (λ o. o.0) os)) is.none ∙ append-nil w.packets);
      })

-- a group as it is kept
abbrev pub kept : Mode → List LayerTree → List Plan → (group stamp : ℕ) → List Placed → List (List ℕ) → Peopled
kept mode stack plans group stamp members spelled =
    record {
      mode = mode;
      stack = stack;
      plans = plans;
      group = group;
      stamp = stamp;
      members =
          map member_of members;
      spelled = spelled;
    }

-- one of its members steps, and what it sends is kept
kept_fed : (mode : Mode) (stack : List LayerTree) (plans : List Plan) (group stamp : ℕ) (members : List Placed)
    (spelled more : List (List ℕ))
    (id place : ℕ) (p : Placed) (input : Input) (p' : Placed) (outs : List (Output × Option ℕ)) (before after : ℕ)
    (st : Stepped) →
    AreSeated mode stack plans group stamp members → place ≡ id → id < length members → p ≡ get_or members place p →
    group < 2 ^ 32 → stamp < 2 ^ 32 → IsGiven p input →
    Steps p input p' outs before after st → more ≡ spelled ++ spelled_of plans outs → (w : World) →
    Stands (kept mode stack plans group stamp members spelled) w →
    IsFed (kept mode stack plans group stamp members spelled) (step_happening stack plans w id input)
    (kept mode stack plans group stamp (set members place p') more) outs before after (told.Stepped st)
kept_fed mode stack plans group stamp members spelled more id place p input p' outs before after st seated is_place lt
    found small few given is sent w stands =
    let at_id : p ≡ get_or members id p = found ∙ ap (λ k. get_or members k p) is_place in
    let sits : seat_of p ≡ seat mode stack plans group stamp id =
    seat_at mode stack plans group stamp members id p seated lt at_id in
    let sits_there : seat_of p ≡ seat mode stack plans w.group w.stamp id =
    sits ∙ sym (λ i. seat mode stack plans (stands.group i) (stands.stamp i) id) in
    let at : member_at w id ≡ p.member =
    ap (λ ms. slice_index_or ms id out) stands.members ∙ get_or-map member_of members id p out lt ∙
    sym (ap member_of at_id) in
    let h = happened w id p.member (step_of p input) in
    let following : IsAfter mode stack plans w id h p'.member outs before after st =
    subst (λ (s : Seat). IsAfter s.mode s.stack s.plans w id h p'.member outs before after st) sits
    (step_after w id p input p' outs before after st is at) in
    let spelled_are : AllByRecursion (WireIsSpelled stack plans) outs =
    subst (λ (s : Seat). AllByRecursion (WireIsSpelled s.stack s.plans) outs) sits
    (steps_spell p input given (subst (λ (s : Seat). s.group < 2 ^ 32) (sym sits) small)
    (subst (λ (s : Seat). s.stamp < 2 ^ 32) (sym sits) few) p' outs before after st is) in
    let old = kept mode stack plans group stamp members spelled in
    let new = kept mode stack plans group stamp (set members place p') more in
    let fed : IsFed old h new outs before after (told.Stepped st) =
    record {
      world = record {
        group = following.group ∙ stands.group;
        stamp = following.stamp ∙ stands.stamp;
        members = following.members ∙ ap (λ ms. slice_set ms id p'.member) stands.members ∙
            sym (map-set member_of members id p') ∙
            ap (λ k. map member_of (set members k p')) (sym is_place);
        spelled = subst (λ xs. SpellPackets stack plans xs h.world.packets) (sym sent)
            (subst (SpellPackets stack plans (spelled ++ spelled_of plans outs)) (sym following.packets)
            (spell_both stack plans spelled (spelled_of plans outs) w.packets
            (filter_map packet_in (map (λ o. o.0) outs)) stands.spelled (sent_spell stack plans outs spelled_are)));
      };
      told = following.is_told;
    } in
    subst (λ x. IsFed old x new outs before after (told.Stepped st))
    (sym (placed_step mode stack plans w id input p sits_there at)) fed

-- the form in which a packet is given plays no part
received_same : (stack : List LayerTree) (plans : List Plan) (here : Here) (bytes : List ℕ) (p : Packet) →
    SpellsPacket stack plans bytes p → received stack plans here (full_bytes p) ≡ received stack plans here bytes
received_same stack plans here bytes p spells =
    received_as_meant stack plans here (full_bytes p) p (one_full_spelling stack plans p spells.spellable).0 ∙
    sym (received_as_meant stack plans here bytes p spells)

given_same : (stack : List LayerTree) (plans : List Plan) (w : World) (id : ℕ) (bytes : List ℕ) (p : Packet)
    (m : Member) → SpellsPacket stack plans bytes p →
    stepped_of stack plans w id (datagram (full_bytes p)) m ≡ stepped_of stack plans w id (datagram bytes) m
given_same stack plans w id bytes p out spells = refl
given_same stack plans w id bytes p (inside view states) spells =
    ap (λ r. stepped_inside stack w id view states (from_datagram r))
    (received_same stack plans (here_of w view id) bytes p spells)

-- a packet that is given, or that there isn't
found_number : (stack : List LayerTree) (plans : List Plan) (w : World) (spelled : List (List ℕ)) (number : ℕ) →
    SpellPackets stack plans spelled w.packets →
    SpellsIf stack plans (spelled_number spelled number) (packet_number w number)
found_number stack plans w spelled zero are = tt
found_number stack plans w spelled (suc k) are = spells_at stack plans spelled w.packets k are

pub given_is : (stack : List LayerTree) (plans : List Plan) (w : World) (id number : ℕ) (spelled : List (List ℕ))
    (bytes : List ℕ) →
    SpellPackets stack plans spelled w.packets → Some bytes ≡ spelled_number spelled number →
    given_packet stack plans w id (packet_number w number) ≡ step_happening stack plans w id (datagram bytes)
given_is stack plans w id number spelled bytes are found =
    go (packet_number w number)
    (subst (λ (o : Option (List ℕ)). SpellsIf stack plans o (packet_number w number)) (sym found)
    (found_number stack plans w spelled number are)) where
      go : (o : Option Packet) → SpellsIf stack plans (Some bytes) o →
          given_packet stack plans w id o ≡ step_happening stack plans w id (datagram bytes)
      go None spells = absurd spells
      go (Some packet) spells = given_same stack plans w id bytes packet (member_at w id) spells

pub absent_is : (stack : List LayerTree) (plans : List Plan) (w : World) (id number : ℕ) (spelled : List (List ℕ)) →
    SpellPackets stack plans spelled w.packets → None ≡ spelled_number spelled number →
    given_packet stack plans w id (packet_number w number) ≡ only w absent
absent_is stack plans w id number spelled are none =
    go (packet_number w number)
    (subst (λ (o : Option (List ℕ)). SpellsIf stack plans o (packet_number w number)) (sym none)
    (found_number stack plans w spelled number are)) where
      go : (o : Option Packet) → SpellsIf stack plans None o → given_packet stack plans w id o ≡ only w absent
      go None spells = refl
      go (Some packet) spells = absurd spells

-- where no input is given, nothing happens
pub absent_fed : (c : Peopled) (w : World) (h : Happening) (outs : List (Output × Option ℕ)) (visits : ℕ) → outs ≡ [] →
    Stands c w →
    h ≡ only w absent → IsFed c h c outs visits visits told.Absent
absent_fed c w h outs visits none stands is = subst (λ x. IsFed c x c outs visits visits told.Absent) (sym is)
    (record { world = stands; told = record { outs_are = none; visits_are = refl } })

pub shown_fed : (c : Peopled) (w : World) (h : Happening) (outs : List (Output × Option ℕ)) (visits : ℕ) → outs ≡ [] →
    Stands c w →
    h ≡ only w shown → IsFed c h c outs visits visits told.Shown
shown_fed c w h outs visits none stands is = subst (λ x. IsFed c x c outs visits visits told.Shown) (sym is)
    (record { world = stands; told = record { outs_are = none; visits_are = refl } })

-- a group that is told by its parts
module _ (c : Peopled) (mode : Mode) (stack : List LayerTree) (plans : List Plan) (group stamp : ℕ)
    (members : List Placed) (spelled : List (List ℕ))
    (is_shown : kept mode stack plans group stamp members spelled ≡ c) where
  pub stays_after : (more : List (List ℕ)) (place : ℕ) (p' : Placed) →
      Stays c (kept mode stack plans group stamp (set members place p') more)
  stays_after more place p' = record {
    mode = ap (λ x. x.mode) is_shown;
    stack = ap (λ x. x.stack) is_shown;
    plans = ap (λ x. x.plans) is_shown;
    count = length-map (set members place p') member_of ∙ length-set members place p' ∙
        sym (length-map members member_of) ∙
        ap (λ x. length x.members) is_shown;
  }

  -- its datagrams spell the packets of a world where it stands
  pub spell_there : (w : World) → Stands c w → SpellPackets c.stack c.plans spelled w.packets
  spell_there w stands = subst (λ xs. SpellPackets c.stack c.plans xs w.packets)
      (sym (ap (λ (x : Peopled). x.spelled) is_shown)) stands.spelled

  module _ (id place : ℕ) (p : Placed) (seated : AreSeated mode stack plans group stamp members) (is_place : place ≡ id)
      (lt : id < length c.members)
      (found : p ≡ get_or members place p) where
    pub within : id < length members
    within = subst (λ n. id < n) (sym (ap (λ x. length x.members) is_shown) ∙ length-map members member_of) lt

    pub mode_at : p.mode ≡ c.mode
    mode_at =
        let at_id = found ∙ ap (λ k. get_or members k p) is_place in
        ap (λ (s : Seat). s.mode) (seat_at mode stack plans group stamp members id p seated within at_id) ∙
        ap (λ x. x.mode) is_shown

    pub stack_at : p.stack ≡ c.stack
    stack_at =
        let at_id = found ∙ ap (λ k. get_or members k p) is_place in
        ap (λ (s : Seat). s.stack) (seat_at mode stack plans group stamp members id p seated within at_id) ∙
        ap (λ x. x.stack) is_shown

    module _ (more : List (List ℕ)) (p' : Placed) (outs : List (Output × Option ℕ)) (before after : ℕ) (st : Stepped)
      where
        abbrev new : Peopled
        new = kept mode stack plans group stamp (set members place p') more

        -- it is fed as whatever happens by that step
        pub step_fed : (input : Input) → group < 2 ^ 32 → stamp < 2 ^ 32 → IsGiven p input →
            Steps p input p' outs before after st → more ≡ spelled ++ spelled_of plans outs →
            (w : World) → Stands c w →
            (h : Happening) →
            (SpellPackets c.stack c.plans spelled w.packets → h ≡ step_happening c.stack c.plans w id input) →
            IsFed c h new outs before after (told.Stepped st)
        step_fed input small few given is sent w stands h asks =
            let stands_there = subst (λ x. Stands x w) (sym is_shown) stands in
            subst (λ (x : Happening). IsFed c x new outs before after (told.Stepped st))
            (sym (asks (spell_there w stands)))
            (subst (λ (x : Peopled). IsFed x (step_happening x.stack x.plans w id input) new outs before after
            (told.Stepped st))
            is_shown
            (kept_fed mode stack plans group stamp members spelled more id place p input p' outs before after st seated
            is_place within found small few given is sent
            w stands_there))
