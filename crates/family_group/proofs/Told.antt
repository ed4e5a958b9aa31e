-- What holds between the events of a script whose report is written in a group that is kept.
use Rattle.std.proofs.Common.{◌≡◌, ℕ, ◌+◌, ◌<◌, ◌≤◌, Bool, false, List, ◌∷◌, [], ◌++◌, length, get_or, take, refl, sym}
use Rattle.std.proofs.Common.{ap, subst, ◌∙◌}
use Rattle.std.specs.List.{flat_map, sum_by}
use Rattle.run_mean.specs.Mode.{Mode}
use Rattle.layer_mean.specs.Tree.{LayerTree}
use Rattle.script_mean.specs.declared.event.ScriptEvent.{ScriptEvent}
use Rattle.script_mean.specs.declared.script.Script.{Script}
use Rattle.stack_mean.specs.Plan.{Plan}
use Rattle.run_mean.specs.World.{first_world}
use Rattle.outside.specs.Tells.{Tells}
use Rattle.group_feed.specs.Beginning.{IsAtFirst}
use Rattle.group_feed.specs.Standing.{Peopled, Stays}
use Rattle.stack_play.specs.Turns.{Keeps, Playing, IsTold}
use Rattle.stack_play.proofs.Held.{Held, held_first, held_more}
use Rattle.stack_play.proofs.Moments.{stands_at}
use Rattle.family_group.specs.Telling.{IsNamed}
use Rattle.family_group.proofs.Named.{events_alike}

-- After k events their lines are written; the group is still that of the beginning, with as much room for outputs.
pub record Told (mode : Mode) (stack : List LayerTree) (plans : List Plan) (events wire : Bool) (s : Script) (k : ℕ)
    (first now : Playing) (a b : Tells) : Type 0 where
  pub held : Held mode stack plans events wire s k now a b
  pub stays : Stays first.group now.group
  pub places_are : now.places ≡ first.places

stays_itself : (c : Peopled) → Stays c c
stays_itself c = record { mode = refl; stack = refl; plans = refl; count = refl }

pub stays_on : (c c' c'' : Peopled) → Stays c c' → Stays c' c'' → Stays c c''
stays_on c c' c'' one two = record {
  mode = two.mode ∙ one.mode;
  stack = two.stack ∙ one.stack;
  plans = two.plans ∙ one.plans;
  count = two.count ∙ one.count;
}

module _ (mode : Mode) (stack : List LayerTree) (plans : List Plan) (s : Script) (events wire : Bool) where
  pub told_first : (r : Playing) (a : Tells) →
      IsAtFirst mode stack plans s.group s.stamp s.members r.group r.places → r.visits ≡ 0 →
      Told mode stack plans events wire s 0 r r a a
  told_first r a first none = record {
    held = held_first mode stack plans s events wire r a first none;
    stays = stays_itself r.group;
    places_are = refl;
  }

  -- Then the group has the number and the stamp of the script.
  pub told_named : (k : ℕ) (first r : Playing) (a b : Tells) → Told mode stack plans events wire s k first r a b →
      IsNamed s r.group
  told_named k first r a b told =
      let alike = events_alike stack plans (first_world stack s.group s.stamp s.members) (take k s.events) in
      let world = told.held.stands.world in
      record { group = sym world.group ∙ alike.group; stamp = sym world.stamp ∙ alike.stamp }

  pub told_more : (k : ℕ) (event : ScriptEvent) → k < length s.events → event ≡ get_or s.events k event →
      (first r next : Playing) (a b c : Tells) → Told mode stack plans events wire s k first r a b →
      Keeps r.group.mode stack plans r next →
      IsTold r.group.mode stack plans events wire (stands_at stack plans s k) event r next b c →
      Stays r.group next.group → next.places ≡ r.places →
      Told mode stack plans events wire s (k + 1) first next a c
  told_more k event lt is first r next a b c told kept more stays places = record {
    held = held_more mode stack plans s events wire k event lt is r next a b c told.held kept more;
    stays = stays_on first.group r.group next.group told.stays stays;
    places_are = places ∙ told.places_are;
  }
