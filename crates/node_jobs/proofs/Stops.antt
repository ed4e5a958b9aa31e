-- A node's job that ended at its plan.
use Rattle.std.proofs.Common.{◌≡◌, ◌∙◌, ap, subst, ℕ, List, inl, inr}
use Rattle.std.specs.Option.{option_map}
use Rattle.outside.specs.Count.{Rose}
use Rattle.outside.specs.Shelf.{after_read}
use Rattle.layer_mean.specs.Tree.{LayerTree}
use Rattle.script_mean.specs.NodePlan.{node_plan}
use Rattle.end_mean.specs.Status.{Ended, second_refused, read_failed, no_memory, misspelled}
use Rattle.program_mean.specs.Second.{after_plan}
use Rattle.job_ends.specs.Comes.{Around}
use Rattle.file_jobs.specs.Stack.{IsStack}
use Rattle.file_jobs.specs.Second.{StopsAt}
use Rattle.node_jobs.specs.Comes.{Node, Beyond, Untouched, NodeComes}

module _ (w : Node) (a : Around) (n : Beyond) (untouched : Untouched n) (same : a.output_after ≡ a.output) where
  pub stopped_at_plan : (between : ℕ) (stack : List LayerTree) (end : Ended) →
      IsStack w.file a.told a.reads between stack →
      StopsAt node_plan w.plan (option_map after_read a.told) between a.reads_after end → NodeComes w a n end
  stopped_at_plan between stack (second_refused (misspelled fault)) f s = record {
    came = record {
      cause = record {
        file = f.file;
        second = s.text;
        found = f.found;
        beside = s.found;
        stack = stack;
        means = f.means;
        refused = ap (after_plan stack w.me) s.refused;
      };
      sound = s.sound ∙ f.sound;
      untouched = same;
    };
    untouched = untouched;
  }
  stopped_at_plan between stack read_failed f s = record {
    came = record {
      unfound = inr (inl (record { file = f.file; found = f.found; stack = stack; means = f.means; none = s.none }));
      rose = subst (λ n. Rose n a.reads_after) f.sound s.rose;
      untouched = same;
    };
    untouched = untouched;
  }
  stopped_at_plan between stack no_memory f s = inl (record { unwritten = same; untouched = untouched })
  stopped_at_plan between stack _ f s = absurd s
