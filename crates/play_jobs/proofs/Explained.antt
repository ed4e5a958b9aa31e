-- Scripts that are explained over a group that is opened.
use Rattle.std.proofs.Common.{◌∙◌, sym, subst, List}
use Rattle.std.specs.Prelude.{Result}
use Rattle.std.specs.Rc.{rc_value}
use Rattle.stack_judge.specs.Answer.{stack_tree}
use Rattle.group_feed.specs.Standing.{Stands}
use Rattle.group_open.specs.Examining.{IsExamination}
use Rattle.group_open.specs.declared.run.Examination.{Examination}
use Rattle.run_mean.specs.Mode.{bypass}
use Rattle.layer_ast.specs.Tree.{FileTree}
use Rattle.layer_mean.specs.Tree.{LayerTree}
use Rattle.miss_explain.specs.Explaining as explaining
use Rattle.miss_mean.specs.Text.{explained_lines}
use Rattle.outside.specs.Lines.{Wrote}
use Rattle.outside.specs.Tells.{Tells}
use Rattle.outside.specs.declared.sink.SinkError.{SinkError}
use Rattle.run_mean.specs.World.{first_world}
use Rattle.script_mean.specs.declared.script.Script.{Script}
use Rattle.stack_mean.specs.Acceptance.{largest_weight}
use Rattle.stack_mean.specs.Plans.{plans_of}
use Rattle.stack_shapes.specs.Trees.{plans_tree}
use Rattle.play_jobs.specs.Play.{Plays}
use Rattle.play_jobs.proofs.Opened.{cut_short, plays}

module _ (stack : List LayerTree) (e : Examination) (s : Script) (is : IsExamination stack s.group s.stamp s.members e)
  where
    -- The group is where the script begins.
    pub first : explaining.IsAtFirst (stack_tree e.stack) (plans_tree (rc_value e.plans)) s e.group e.outputs.places
    first = record {
      ready = record {
        mode_is = is.first.ready.mode_is;
        stack_is = is.first.ready.stack_is ∙ sym is.stack_is;
        plans_are = is.first.ready.plans_are ∙ sym is.plans_are;
        room = is.first.ready.places ∙ (λ k. largest_weight (sym is.stack_is k));
      };
      world = subst (λ x. Stands e.group (first_world x s.group s.stamp s.members)) (sym is.stack_is) is.first.world;
      count = is.first.count;
    }

    -- What is written is what is told of the script.
    pub explained : (tree : FileTree) (old new : Tells) (wrote : Result (Unit {0}) SinkError) →
        Wrote (explained_lines tree (stack_tree e.stack) (plans_tree (rc_value e.plans)) s) old new wrote →
        Plays stack s.members (explained_lines tree stack (plans_of stack) s) old new (cut_short wrote)
    explained tree old new wrote w = plays (λ mode x plans. explained_lines tree x plans s) bypass e.group.mode stack
        (stack_tree e.stack) (plans_of stack)
        (plans_tree (rc_value e.plans)) s.members old new wrote is.first.ready.mode_is is.stack_is is.plans_are is.room
        w
