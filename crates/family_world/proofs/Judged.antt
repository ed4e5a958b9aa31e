-- What a group answers, about the family.
use Rattle.std.proofs.Common.{◌≡◌, ℕ, ◌<◌, Bool, true, false, List, [], sym, ap, subst, ◌∙◌}
use Rattle.std.specs.Prelude.{Result, Ok, Err}
use Rattle.std.specs.declared.alloc.AllocError.{AllocError}
use Rattle.msg_core.specs.declared.message.Memory.{Memory}
use Rattle.layer_mean.specs.Tree.{LayerTree}
use Rattle.stack_mean.specs.Acceptance.{most_rows, rows_of}
use Rattle.script_mean.specs.Script.{IsRunnable}
use Rattle.script_mean.specs.declared.script.GroupLine.{GroupLine}
use Rattle.script_mean.specs.declared.script.Script.{Script}
use Rattle.group_ground.specs.Grounds.{Begins}
use Rattle.group_member.specs.declared.error.OpenError.{OpenError}
use Rattle.group_member.specs.declared.error.OpenError.TheVariants as opening
use Rattle.group_member.specs.declared.error.OpenError.TheVariants.{TooLarge}
use Rattle.family_mean.specs.Family.{Family, MayFollow}
use Rattle.family_search.specs.Coming as coming
use Rattle.family_search.specs.Trying as trying
use Rattle.family_search.specs.Trying.{events_of}
use Rattle.family_search.specs.declared.choice.Choice.{Choice}
use Rattle.family_group.specs.Playing.{script_in}
use Rattle.family_world.specs.Families as families
use Rattle.family_world.specs.Families.{Counts, PassesOn, family_in}
use Rattle.family_world.specs.Judging.{Finds, IsJudged, IsReport, Judges, report_of}
use Rattle.family_world.specs.Standing.{AreTold, IsTold, Sends, Takes}
use Rattle.family_world.specs.declared.bounds.Bounds.{Bounds}
use Rattle.family_world.specs.declared.playground.Playground.{Playground}
use Rattle.family_world.proofs.Reported.{runs}

module _ (acts : Script) (bounds : Bounds) (past : List Choice) (p p' : Playground) where
  -- the family stays where the ground does
  stays : p'.ground ≡ p.ground → family_in p'.ground acts bounds ≡ family_in p.ground acts bounds
  stays same = ap (λ stack. family_in stack acts bounds) same

  -- what the audit finds in the report of the events
  finding : (keep : Bool) → Finds bounds.law (report_of p.ground (script_in acts past)) (Ok keep) →
      trying.Judges (family_in p.ground acts bounds) (events_of (family_in p.ground acts bounds) past) keep
  finding true finds = finds
  finding false finds = record { first = finds.first; second = finds.second; breach = finds.breach }

  pub judged : (keep : Bool) → IsJudged (script_in acts past) bounds.law p p' keep →
      trying.IsJudged (family_in p.ground acts bounds) (events_of (family_in p.ground acts bounds) past)
      (family_in p'.ground acts bounds) keep
  judged keep is = record { stays = stays is.left.ground; judged = finding keep is.finds }

  -- whether a member takes an event, and how many packets were sent
  pub tried : (choice : Choice) (taken : Bool) → IsTold acts past choice p p' taken →
      coming.IsTried (family_in p.ground acts bounds) past choice (family_in p'.ground acts bounds) taken
  tried choice taken is = record { stays = stays is.left.ground; taken = is.taken_is }

  pub are_sent : (sent count : ℕ) → count ≡ sent → AreTold acts past p p' sent →
      coming.AreSent (family_in p.ground acts bounds) past (family_in p'.ground acts bounds) count
  are_sent sent count same is = record { stays = stays is.left.ground; sent_are = is.sent_are ∙ sym same }

  -- so the answers of a scene are, whose family it is
  module _ (f : Family) (is : family_in p.ground acts bounds ≡ f) where
    pub takes_so : (choice : Choice) (r : Result Bool Memory) (answer : Result Bool AllocError) →
        Takes acts past choice p p' r → PassesOn r answer →
        coming.AnswersTakes f past choice (family_in p'.ground acts bounds) answer
    takes_so choice (Ok taken) (Ok told) h same =
        subst (λ g. coming.AnswersTakes g past choice (family_in p'.ground acts bounds) (Ok told)) is
        (subst (λ t. coming.IsTried (family_in p.ground acts bounds) past choice (family_in p'.ground acts bounds) t)
        (sym same) (tried choice taken h))
    takes_so choice (Ok taken) (Err error) h same = absurd same
    takes_so choice (Err memory) (Ok told) h same = absurd same
    takes_so choice (Err memory) (Err error) h same = stays h.ground ∙ is

    pub sent_so : (r : Result ℕ Memory) (answer : Result ℕ AllocError) → Sends acts past p p' r → Counts r answer →
        coming.AnswersSent f past (family_in p'.ground acts bounds) answer
    sent_so (Ok sent) (Ok count) h same =
        subst (λ g. coming.AnswersSent g past (family_in p'.ground acts bounds) (Ok count)) is
        (are_sent sent count same h)
    sent_so (Ok sent) (Err error) h same = stays h.left.ground ∙ is
    sent_so (Err memory) (Ok count) h same = absurd same
    sent_so (Err memory) (Err error) h same = stays h.ground ∙ is

    pub keeps_so : (r : Result Bool Memory) (answer : Result Bool AllocError) →
        Judges (script_in acts past) bounds.law p p' r → PassesOn r answer →
        trying.AnswersKeeps f past (family_in p'.ground acts bounds) answer
    keeps_so (Ok keep) (Ok told) h same =
        subst (λ g. trying.AnswersKeeps g past (family_in p'.ground acts bounds) (Ok told)) is
        (subst (λ k. trying.IsJudged (family_in p.ground acts bounds)
        (events_of (family_in p.ground acts bounds) past) (family_in p'.ground acts bounds) k) (sym same)
        (judged keep h))
    keeps_so (Ok keep) (Err error) h same = absurd same
    keeps_so (Err memory) (Ok told) h same = absurd same
    keeps_so (Err memory) (Err error) h same = stays h.ground ∙ is

    -- the events that follow are those of a script that can be run
    pub runs_so : IsRunnable acts → MayFollow f [] (events_of f past) → IsRunnable (script_in acts past)
    runs_so can follow =
        runs (family_in p.ground acts bounds) (events_of (family_in p.ground acts bounds) past) can
        (subst (λ g. MayFollow g [] (events_of g past)) (sym is) follow)

  -- the report of the events
  pub reported : (report : List ℕ) → IsReport (script_in acts past) p p' report →
      families.IsReport (family_in p.ground acts bounds) (events_of (family_in p.ground acts bounds) past)
      (family_in p'.ground acts bounds) report
  reported report is = record { stays = stays is.left.ground; is = is.is }

-- where a group doesn't begin over the ground of a stack, its members would keep too many rows, or memory ran out
pub not_begun_over : (stack ground : List LayerTree) (line : GroupLine) (acts : Script) (e : OpenError) →
    ground ≡ stack → line.members ≡ acts.members → Begins ground line (Err e) → families.Grounds stack acts (Err e)
not_begun_over stack ground line acts TooLarge same members h =
    subst (λ s. most_rows < rows_of s acts.members) same (subst (λ n. most_rows < rows_of ground n) members h)
not_begun_over stack ground line acts opening.Memory same members h = tt
