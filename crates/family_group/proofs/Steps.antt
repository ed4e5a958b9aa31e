-- Events that happen one after the other.
use Rattle.std.proofs.Common.{◌≡◌, ℕ, ◌+◌, ◌<◌, ◌≤◌, Bool, List, [], ◌∷◌, ◌++◌, length, map, take, get_or, refl, sym}
use Rattle.std.proofs.Common.{ap, subst, ◌∙◌}
use Rattle.std.proofs.Common.{Option, Ok, true, false}
use Rattle.std.proofs.lemmas.List.{map-append, take_all, take_more}
use Rattle.layer_mean.specs.Tree.{LayerTree}
use Rattle.stack_mean.specs.Plan.{Plan}
use Rattle.stack_mean.specs.Plans.{plans_of}
use Rattle.run_mean.specs.Mode.{Mode}
use Rattle.run_mean.specs.Member.{Output}
use Rattle.run_mean.specs.World as world
use Rattle.run_mean.specs.World.{World, happens}
use Rattle.script_mean.specs.Event.{member_of}
use Rattle.script_mean.specs.declared.event.ScriptEvent.{ScriptEvent}
use Rattle.view_core.specs.Happenings.{DidIs}
use Rattle.view_core.specs.declared.step.Did.{Did}
use Rattle.view_core.specs.declared.step.Did.TheVariants.{Stepped, Absent, Shown}
use Rattle.view_core.specs.declared.step.Stepped.TheVariants.{Taken, Refused}
use Rattle.group_feed.specs.Feeding.{IsFed}
use Rattle.group_feed.specs.Standing.{Peopled, Stands, Stays}
use Rattle.family_mean.specs.Family.{IsTaken, world_after}
use Rattle.family_search.specs.Coming.{Decides}
use Rattle.family_search.specs.Trying.{event_in}
use Rattle.family_search.specs.declared.choice.Choice.{Choice}
use Rattle.family_group.proofs.Idle.{event_idle}
use Rattle.family_group.specs.Playing.{Happened, FeedsOne, Played, Playing, PlaysAll, took}

-- What is told of an event says whether it was taken.
decides : (mode : Mode) (stack : List LayerTree) (plans : List Plan) (d : world.Did) (outs : List (Output × Option ℕ))
    (before after : ℕ) (did : Did) → DidIs mode stack plans d outs before after did → Decides (IsTaken d) (took did)
decides mode stack plans (world.taken s) outs before after (Stepped (Taken common change)) h = tt
decides mode stack plans (world.taken s) outs before after (Stepped (Refused r)) h = absurd h
decides mode stack plans (world.taken s) outs before after Absent h = absurd h
decides mode stack plans (world.taken s) outs before after Shown h = absurd h
decides mode stack plans (world.refused r) outs before after (Stepped (Taken common change)) h = absurd h
decides mode stack plans (world.refused r) outs before after (Stepped (Refused t)) h = λ x. x
decides mode stack plans (world.refused r) outs before after Absent h = absurd h
decides mode stack plans (world.refused r) outs before after Shown h = absurd h
decides mode stack plans world.absent outs before after (Stepped (Taken common change)) h = absurd h
decides mode stack plans world.absent outs before after (Stepped (Refused t)) h = absurd h
decides mode stack plans world.absent outs before after Absent h = λ x. x
decides mode stack plans world.absent outs before after Shown h = absurd h
decides mode stack plans world.shown outs before after (Stepped (Taken common change)) h = absurd h
decides mode stack plans world.shown outs before after (Stepped (Refused t)) h = absurd h
decides mode stack plans world.shown outs before after Absent h = absurd h
decides mode stack plans world.shown outs before after Shown h = λ x. x

pub happened : (c : Peopled) (w : World) (e : ScriptEvent) (c' : Peopled) (outs : List (Output × Option ℕ))
    (before after : ℕ) (did : Did) (taken : Bool) → IsFed c (happens c.stack c.plans w e) c' outs before after did →
    c.plans ≡ plans_of c.stack → taken ≡ took did → Happened c w e c' taken
happened c w e c' outs before after did taken fed is told = record {
  world = subst (λ ps. Stands c' (happens c.stack ps w e).world) is fed.world;
  taken_is =
      subst (Decides (IsTaken (happens c.stack (plans_of c.stack) w e).did)) (sym told)
      (subst (λ ps. Decides (IsTaken (happens c.stack ps w e).did) (took did)) is
      (decides c.mode c.stack c.plans (happens c.stack c.plans w e).did outs before after did fed.told));
}

-- An event of a member that the group doesn't have happens so.
pub happened_idly : (c : Peopled) (w : World) (e : ScriptEvent) → length c.members ≤ member_of e → Stands c w →
    Happened c w e c false
happened_idly c w e le stands =
    let idle = event_idle c.stack (plans_of c.stack) w e (subst (λ ms. length ms ≤ member_of e) (sym stands.members) le)
    in record { world = subst (Stands c) (sym idle.world) stands; taken_is = idle.taken }

pub none_played : (c : Peopled) (acts : List ScriptEvent) (past : List Choice) (places : ℕ) → Stays c c →
    Playing c acts past 0 c places places
none_played c acts past places stays =
    record { played = record { stays = stays; world = λ w stands is. stands }; places_are = refl }

after_more : (stack : List LayerTree) (w : World) (xs : List ScriptEvent) (e : ScriptEvent) →
    world_after stack w (xs ++ e ∷ []) ≡ (happens stack (plans_of stack) (world_after stack w xs) e).world
after_more stack w [] e = refl
after_more stack w (x ∷ xs) e = after_more stack (happens stack (plans_of stack) w x).world xs e

events_more : (acts : List ScriptEvent) (past : List Choice) (k : ℕ) (d : Choice) → k < length past →
    map (event_in acts) (take (k + 1) past) ≡ map (event_in acts) (take k past) ++ event_in acts (get_or past k d) ∷ []
events_more acts past k d lt =
    ap (map (event_in acts)) (take_more past k d lt) ∙ map-append (event_in acts) (take k past) (get_or past k d ∷ [])

pub one_more : (c : Peopled) (acts : List ScriptEvent) (past : List Choice) (k : ℕ) (c' c'' : Peopled) (d : Choice)
    (taken : Bool) → Played c acts past k c' → k < length past → Stays c' c'' →
    ((w : World) → Stands c' w → c'.plans ≡ plans_of c'.stack →
    FeedsOne c' w (event_in acts (get_or past k d)) c'' (Ok taken)) →
    Played c acts past (k + 1) c''
one_more c acts past k c' c'' d taken p lt stays fed = record {
  stays = record {
    mode = stays.mode ∙ p.stays.mode;
    stack = stays.stack ∙ p.stays.stack;
    plans = stays.plans ∙ p.stays.plans;
    count = stays.count ∙ p.stays.count;
  };
  world = λ w stands is.
      let xs = map (event_in acts) (take k past) in
      let e = event_in acts (get_or past k d) in
      let plans : c'.plans ≡ plans_of c'.stack = p.stays.plans ∙ is ∙ ap plans_of (sym p.stays.stack) in
      let here = p.world w stands is in
      let h : Happened c' (world_after c.stack w xs) e c'' taken = fed (world_after c.stack w xs) here plans in
      subst (λ es. Stands c'' (world_after c.stack w es)) (sym (events_more acts past k d lt))
      (subst (Stands c'') (sym (after_more c.stack w xs e))
      (subst (λ s. Stands c'' (happens s (plans_of s) (world_after c.stack w xs) e).world) p.stays.stack h.world));
}

-- All happened.
pub all_played : (c : Peopled) (acts : List ScriptEvent) (past : List Choice) (k : ℕ) (c' : Peopled) →
    length past ≤ k → Played c acts past k c' → (w : World) → Stands c w → c.plans ≡ plans_of c.stack →
    Stands c' (world_after c.stack w (map (event_in acts) past))
all_played c acts past k c' most p w stands is =
    subst (λ cs. Stands c' (world_after c.stack w (map (event_in acts) cs))) (take_all k past most)
    (p.world w stands is)
