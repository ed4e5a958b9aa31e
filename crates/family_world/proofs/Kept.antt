-- Groups that are kept from call to call.
use Rattle.std.proofs.Common.{◌≡◌, ℕ, Bool, true, false, List, length, map, refl, sym, ap, subst, ◌∙◌}
use Rattle.std.proofs.Common.{Result, Ok, Err}
use Rattle.msg_core.specs.declared.message.Memory.{Memory}
use Rattle.layer_mean.specs.Tree.{LayerTree}
use Rattle.stack_mean.specs.Acceptance.{largest_weight}
use Rattle.stack_mean.specs.Plans.{plans_of}
use Rattle.run_mean.specs.World.{World, first_world, happens}
use Rattle.script_mean.specs.declared.event.ScriptEvent.{ScriptEvent}
use Rattle.script_mean.specs.declared.script.GroupLine.{GroupLine}
use Rattle.script_mean.specs.declared.script.Script.{Script}
use Rattle.group_feed.specs.Standing.{Peopled, Stands, Stays}
use Rattle.group_ground.specs.Grounds.{HasBegun}
use Rattle.family_mean.specs.Family.{IsTaken, world_after}
use Rattle.family_search.specs.Coming.{Decides}
use Rattle.family_search.specs.Trying.{event_in}
use Rattle.family_search.specs.declared.choice.Choice.{Choice}
use Rattle.family_group.specs.Playing.{FeedsOne, Happened, PlaysAll}
use Rattle.family_group.specs.Telling.{IsNamed}
use Rattle.family_group.proofs.Named.{after_alike, event_alike}
use Rattle.group_world.specs.Restarting as groups
use Rattle.family_world.specs.Standing.{Begins, IsKept, IsLeft, IsAt, IsTold, Restarts, first_of, world_in}
use Rattle.family_world.specs.declared.playground.Playground.{Playground}

is_never : false ≡ true → ⊥
is_never is = cc is

module _ (acts : Script) where
  -- There is room for the outputs of the group's stack, and its plans are that stack's.
  pub room_kept : (p : Playground) → IsKept acts p → p.gear.outputs.places ≡ largest_weight p.world.stack
  room_kept p kept = kept.places_are ∙ ap largest_weight (sym kept.stack_is)

  pub plans_kept : (p : Playground) → IsKept acts p → p.world.plans ≡ plans_of p.world.stack
  plans_kept p kept = kept.plans_are ∙ ap plans_of (sym kept.stack_is)

  -- A group at a world with the number and the stamp of acts has these.
  named_at : (c : Peopled) (w : World) → w.group ≡ acts.group → w.stamp ≡ acts.stamp → Stands c w → IsNamed acts c
  named_at c w group stamp stands = record { group = sym stands.group ∙ group; stamp = sym stands.stamp ∙ stamp }

  -- What a group is kept as where the ground is the same, and all else stays.
  pub left_on : (p p' : Playground) → IsKept acts p → p'.ground ≡ p.ground → Stays p.world p'.world →
      p'.gear.outputs.places ≡ p.gear.outputs.places → (p'.is_named ≡ true → IsNamed acts p'.world) → IsLeft acts p p'
  left_on p p' kept same stays places named = record {
    ground = same;
    kept = record {
      stack_is = stays.stack ∙ kept.stack_is ∙ sym same;
      plans_are = stays.plans ∙ kept.plans_are ∙ ap plans_of (sym same);
      places_are = places ∙ kept.places_are ∙ ap largest_weight (sym same);
      count = stays.count ∙ kept.count;
      named = named;
    };
  }

  -- Where a group is left, and left once more.
  pub left_then : (p q p' : Playground) → IsLeft acts p q → IsLeft acts q p' → IsLeft acts p p'
  left_then p q p' one two = record { ground = two.ground ∙ one.ground; kept = two.kept }

  -- The world in which it begins, by its own stack, number, stamp and count.
  first_same : (p : Playground) → IsKept acts p → IsNamed acts p.world →
      first_world p.world.stack p.world.group p.world.stamp (length p.world.members) ≡ first_of p.ground acts
  first_same p kept named =
      ap (λ s. first_world s p.world.group p.world.stamp (length p.world.members)) kept.stack_is
      ∙ ap (λ g. first_world p.ground g p.world.stamp (length p.world.members)) named.group
      ∙ ap (λ t. first_world p.ground acts.group t (length p.world.members)) named.stamp
      ∙ ap (λ n. first_world p.ground acts.group acts.stamp n) kept.count

  -- It has begun again in the memory that it has.
  pub again : (p p' : Playground) → IsKept acts p → p.is_named ≡ true → p'.ground ≡ p.ground → Stays p.world p'.world →
      p'.gear.outputs.places ≡ p.gear.outputs.places →
      Stands p'.world (first_world p.world.stack p.world.group p.world.stamp (length p.world.members)) →
      IsAt acts (first_of p.ground acts) p p'
  again p p' kept is same stays places stands =
      let at : Stands p'.world (first_of p.ground acts) =
      subst (Stands p'.world) (first_same p kept (kept.named is)) stands in record {
        left =
            left_on p p' kept same stays places
            (λ named. named_at p'.world (first_of p.ground acts) refl refl at);
        stands = at;
      }

  pub restarted : (p p' : Playground) (b : Bool) → IsKept acts p → p.is_named ≡ true → p'.ground ≡ p.ground →
      Stays p.world p'.world → p'.gear.outputs.places ≡ p.gear.outputs.places → p'.is_named ≡ b →
      groups.Restarts p.world p'.world b → Restarts acts p p' b
  restarted p p' true kept is same stays places now stands = again p p' kept is same stays places stands
  restarted p p' false kept is same stays places now stands =
      left_on p p' kept same stays places (λ named. absurd (is_never (sym now ∙ named)))

  -- Where a group is left that isn't known to be named.
  pub unnamed : (p q p' : Playground) → IsLeft acts p q → p'.ground ≡ q.ground → Stays q.world p'.world →
      p'.gear.outputs.places ≡ q.gear.outputs.places → p'.is_named ≡ false → IsLeft acts p p'
  unnamed p q p' left same stays places now =
      let on = left_on q p' left.kept same stays places (λ named. absurd (is_never (sym now ∙ named))) in
      record { ground = on.ground ∙ left.ground; kept = on.kept }

  -- It was left, and then it began.
  -- Where it didn't begin again it was left.
  pub not_begun : (p q : Playground) (b : Bool) → b ≡ false → Restarts acts p q b → IsLeft acts p q
  not_begun p q true is at = absurd (cc)
  not_begun p q false is left = left

  pub begun_then : (p q p' : Playground) (answer : Result (Unit {0}) Memory) → IsLeft acts p q →
      Begins acts q p' answer → Begins acts p p' answer
  begun_then p q p' (Ok done) left at = record {
    left = left_then p q p' left at.left;
    stands = subst (λ s. Stands p'.world (first_of s acts)) left.ground at.stands;
  }
  begun_then p q p' (Err memory) left more = left_then p q p' left more

  -- A group that began stands where its acts begin.
  pub at_itself : (p q : Playground) → IsAt acts (first_of p.ground acts) p q → IsAt acts (first_of q.ground acts) q q
  at_itself p q at = record {
    left = record { ground = refl; kept = at.left.kept };
    stands = subst (λ s. Stands q.world (first_of s acts)) (sym at.left.ground) at.stands;
  }

  -- A new group has begun in its place.
  pub anew : (p p' : Playground) (line : GroupLine) → IsKept acts p → p'.ground ≡ p.ground →
      p'.gear.outputs.places ≡ p.gear.outputs.places → line.group ≡ acts.group → line.stamp ≡ acts.stamp →
      line.members ≡ acts.members → HasBegun p.ground line p'.world → IsAt acts (first_of p.ground acts) p p'
  anew p p' line kept same places group stamp members begun =
      let at : Stands p'.world (first_of p.ground acts) =
      subst (Stands p'.world)
      (ap (λ g. first_world p.ground g line.stamp line.members) group
      ∙ ap (λ t. first_world p.ground acts.group t line.members) stamp
      ∙ ap (λ n. first_world p.ground acts.group acts.stamp n) members) begun.world in record {
        left = record {
          ground = same;
          kept = record {
            stack_is = begun.stack_is ∙ sym same;
            plans_are = begun.plans_are ∙ ap plans_of (sym same);
            places_are = places ∙ kept.places_are ∙ ap largest_weight (sym same);
            count = begun.count ∙ members;
            named = λ named. named_at p'.world (first_of p.ground acts) refl refl at;
          };
        };
        stands = at;
      }

  -- It has the number and the stamp of acts wherever events lead.
  named_in : (c : Peopled) (stack : List LayerTree) (past : List Choice) → Stands c (world_in stack acts past) →
      IsNamed acts c
  named_in c stack past stands =
      let alike = after_alike stack (first_of stack acts) (map (event_in acts.events) past) in
      named_at c (world_in stack acts past) alike.group alike.stamp stands

  -- It was brought to where the events of choices lead.
  pub went : (p q p' : Playground) (past : List Choice) (done : Unit {0}) (events : List ScriptEvent) →
      events ≡ acts.events → IsAt acts (first_of p.ground acts) p q →
      p'.ground ≡ q.ground → Stays q.world p'.world → p'.gear.outputs.places ≡ q.gear.outputs.places →
      ((w : World) → Stands q.world w → q.world.plans ≡ plans_of q.world.stack →
      PlaysAll q.world events w past p'.world (Ok done)) →
      IsAt acts (world_in p.ground acts past) p p'
  went p q p' past done events same_events at same stays places played =
      let kept = at.left.kept in
      let first = first_of p.ground acts in
      let by_own : Stands p'.world (world_after q.world.stack first (map (event_in events) past)) =
      played first at.stands (plans_kept q kept) in
      let stands : Stands p'.world (world_after q.world.stack first (map (event_in acts.events) past)) =
      subst (λ es. Stands p'.world (world_after q.world.stack first (map (event_in es) past))) same_events by_own in
      let there : Stands p'.world (world_in p.ground acts past) =
      subst (λ s. Stands p'.world (world_after s (first_of p.ground acts) (map (event_in acts.events) past)))
      (kept.stack_is ∙ at.left.ground) stands in
      let left = left_on q p' kept same stays places (λ named. named_in p'.world p.ground past there) in
      record { left = record { ground = left.ground ∙ at.left.ground; kept = left.kept }; stands = there }

  -- One event more, which is told.
  pub told : (p q p' : Playground) (past : List Choice) (choice : Choice) (taken : Bool) (events : List ScriptEvent) →
      events ≡ acts.events → IsAt acts (world_in p.ground acts past) p q → p'.ground ≡ q.ground →
      Stays q.world p'.world →
      p'.gear.outputs.places ≡ q.gear.outputs.places →
      ((w : World) → Stands q.world w → q.world.plans ≡ plans_of q.world.stack →
      FeedsOne q.world w (event_in events choice) p'.world (Ok taken)) →
      IsTold acts past choice p p' taken
  told p q p' past choice taken events same_events at same stays places fed =
      let kept = at.left.kept in
      let w = world_in p.ground acts past in
      let e = event_in acts.events choice in
      let stack_is = kept.stack_is ∙ at.left.ground in
      let h : Happened q.world w e p'.world taken =
      subst (λ es. Happened q.world w (event_in es choice) p'.world taken) same_events
      (fed w at.stands (plans_kept q kept)) in
      let there : Stands p'.world (happens p.ground (plans_of p.ground) w e).world =
      subst (λ s. Stands p'.world (happens s (plans_of s) w e).world) stack_is h.world in
      let alike = after_alike p.ground (first_of p.ground acts) (map (event_in acts.events) past) in
      let more = event_alike p.ground (plans_of p.ground) w e in
      let left =
      left_on q p' kept same stays places
      (λ named. named_at p'.world (happens p.ground (plans_of p.ground) w e).world (more.group ∙ alike.group)
      (more.stamp ∙ alike.stamp) there) in record {
        left = record { ground = left.ground ∙ at.left.ground; kept = left.kept };
        taken_is = subst (λ s. Decides (IsTaken (happens s (plans_of s) w e).did) taken) stack_is h.taken_is;
      }
