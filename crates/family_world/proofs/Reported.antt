-- Reports that are written in a group that is kept.
use Rattle.std.proofs.Common.{◌≡◌, ℕ, Bool, true, false, List, [], ◌∷◌, ◌++◌, ◌<◌, refl, sym, ap, subst, ◌∙◌}
use Rattle.std.specs.Prelude.{All, Some}
use Rattle.std.proofs.lemmas.List.Elements.{All-cons, All-nil}
use Rattle.stack_mean.specs.Acceptance.{largest_weight}
use Rattle.run_mean.specs.World.{first_world}
use Rattle.group_feed.specs.Standing.{Stands}
use Rattle.std.specs.List.{concat}
use Rattle.layer_mean.specs.Tree.{LayerTree}
use Rattle.stack_mean.specs.Plan.{Plan}
use Rattle.stack_mean.specs.Plans.{plans_of}
use Rattle.outside.specs.Lines.{Gains}
use Rattle.outside.specs.Tells.{Tells}
use Rattle.run_mean.specs.Mode.{Mode}
use Rattle.group_mean.specs.Told.{replay_lines}
use Rattle.run_mean.specs.Report.{report_lines}
use Rattle.script_mean.specs.Event.{member_of}
use Rattle.script_mean.specs.Script.{IsRunnable}
use Rattle.script_mean.specs.declared.event.ScriptEvent.{ScriptEvent}
use Rattle.script_mean.specs.declared.script.Script.{Script}
use Rattle.group_feed.specs.Beginning.{IsAtFirst}
use Rattle.family_mean.specs.Family.{Family, MayFollow}
use Rattle.family_world.specs.Judging.{lines_of, report_of}
use Rattle.family_world.specs.Standing.{IsAt, first_of}
use Rattle.family_world.specs.declared.playground.Playground.{Playground}

-- A group that stands where a script begins is one in which the script can be played.
pub at_first : (script : Script) (p q : Playground) (stack : List LayerTree) (plans : List Plan) →
    IsAt script (first_of p.ground script) p q → stack ≡ q.ground → plans ≡ plans_of q.ground →
    IsAtFirst q.world.mode stack plans script.group script.stamp script.members q.world q.gear.outputs.places
at_first script p q stack plans at stack_is plans_are =
    let kept = at.left.kept in record {
      ready = record {
        mode_is = refl;
        stack_is = kept.stack_is ∙ sym stack_is;
        plans_are = kept.plans_are ∙ sym plans_are;
        places = kept.places_are ∙ ap largest_weight (sym stack_is);
      };
      world =
          subst (λ s. Stands q.world (first_world s script.group script.stamp script.members))
          (sym at.left.ground ∙ sym stack_is) at.stands;
      count = kept.count;
    }

-- Without the packets' bytes and visits it is written in each mode alike.
is_report : (stack : List LayerTree) (script : Script) (mode : Mode) →
    replay_lines stack (plans_of stack) script mode false false false ≡ report_lines stack (plans_of stack) script
unfolding replay_lines report_lines
is_report stack script mode = refl

pub lines_gained : (script : Script) (ground stack : List LayerTree) (plans : List Plan) (mode : Mode)
    (before after : Tells) → stack ≡ ground → plans ≡ plans_of ground →
    Gains before after (replay_lines stack plans script mode false false false) →
    Gains before after (lines_of ground script)
lines_gained script ground stack plans mode before after stack_is plans_are gains =
    subst (Gains before after) (is_report ground script mode)
    (subst (λ ps. Gains before after (replay_lines ground ps script mode false false false)) plans_are
    (subst (λ s. Gains before after (replay_lines s plans script mode false false false)) stack_is gains))

-- What a sink that was empty has.
pub contents_are : (script : Script) (ground : List LayerTree) (before after : Tells) (contents copy : List ℕ) →
    Gains before after (lines_of ground script) → before.contents ≡ Some [] → after.contents ≡ Some contents →
    copy ≡ contents → copy ≡ report_of ground script
contents_are script ground before after contents copy gains empty got same =
    let gained = rw (empty, got) at gains.gained in
    let is : contents ≡ report_of ground script = cc gained in same ∙ is

-- Events that may follow are of the members of the group.
of_members : (f : Family) (past events : List ScriptEvent) → MayFollow f past events →
    All (λ e. member_of e < f.acts.members) events
of_members f past [] follow = All-nil (λ e. member_of e < f.acts.members)
of_members f past (e ∷ events) follow =
    All-cons (λ e. member_of e < f.acts.members) e events follow.0.member
    (of_members f (past ++ e ∷ []) events follow.1)

-- So their script can be run, if the acts can.
pub runs : (f : Family) (events : List ScriptEvent) → IsRunnable f.acts → MayFollow f [] events →
    IsRunnable (record f.acts { events = events })
runs f events acts follow = record {
  some_member = acts.some_member;
  most_members = acts.most_members;
  of_members = of_members f [] events follow;
}
