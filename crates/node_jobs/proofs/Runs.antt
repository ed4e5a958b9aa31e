-- How the job of a node whose files were read ended.
use Rattle.std.proofs.Common.{arith, ◌≡◌, refl, sym, ◌∙◌, ap, subst, ℕ, ◌<◌, Bool, true, List, length, inl, inr}
use Rattle.std.specs.Prelude.{Result, Ok, Err, nat_lt}
use Rattle.std.specs.List.{list_all}
use Rattle.std.specs.Option.{option_map}
use Rattle.std.proofs.lemmas.List.Elements.{All-from_recursion}
use Rattle.outside.specs.Shelf.{after_read}
use Rattle.layer_mean.specs.Tree.{LayerTree}
use Rattle.script_mean.specs.NodePlan.{node_plan}
use Rattle.script_mean.specs.declared.plan.NodePlan.{NodePlan}
use Rattle.run_mean.specs.Mode.{Mode}
use Rattle.end_mean.specs.Status.{Ended, done, second_refused, write_failed, link_failed, no_memory}
use Rattle.group_mean.specs.Node.{node_words}
use Rattle.group_mean.specs.Room.{HasRoom}
use Rattle.program_mean.specs.Second.{after_plan}
use Rattle.job_ends.specs.Comes.{Around}
use Rattle.file_jobs.specs.Stack.{IsStack}
use Rattle.file_jobs.specs.Second.{IsSpelled}
use Rattle.node_loop.specs.Serve.{Whereabouts, Serves}
use Rattle.node_loop.specs.declared.error.NodeError.{NodeError}
use Rattle.node_loop.specs.declared.error.NodeError.TheVariants.{Link, Write, Memory}
use Rattle.node_jobs.specs.Comes.{Node, Beyond, Good, Untouched, NodeComes, before, following}
use Rattle.node_jobs.specs.Plan.{IsServable, IsReady, RunsPlan, end_of}
use Rattle.node_jobs.proofs.Below.{each_below}

-- its own members are of the group, and their rows have room
pub ready : (stack : List LayerTree) (plan : NodePlan) (w : Node) (count : ℕ) → count ≡ length plan.peers →
    (ids : List ℕ) → ids ≡ w.me →
    (b : Bool) → b ≡ list_all (λ id. nat_lt id count) ids → b ≡ true → HasRoom stack count → IsReady stack plan w.me
ready stack plan w count all ids ids_are b is own room = record {
  members = All-from_recursion (λ id. id < length plan.peers) w.me
      (each_below count (length plan.peers) ids w.me w.me ids_are refl (omega (arith, all)) b is own);
  room = subst (HasRoom stack) all room;
}

-- a run of its group
pub run : (stack : List LayerTree) (plan : NodePlan) (w : Node) → IsReady stack plan w.me → (other : List LayerTree) →
    other ≡ stack →
    (me : List ℕ) → me ≡ w.me → (mode : Mode) → mode ≡ w.mode →
    (a b : Whereabouts) (r : Result (Unit {0}) NodeError) (end : Ended) → end ≡ end_of r →
    Serves (record { stack = other; plan = plan; words = node_words w.turns me w.patience mode }) a b r →
    RunsPlan stack plan w a b end
run stack plan w is_ready other stack_is me me_is mode mode_is a b r end end_is s =
    subst (RunsPlan stack plan w a b) (sym end_is) (ended r
    (subst {A = List LayerTree × List ℕ × Mode}
    (λ x. Serves (record { stack = x.0; plan = plan; words = node_words w.turns x.1 w.patience x.2 }) a b r)
    (λ k. (stack_is k, me_is k, mode_is k)) s)) where
      ended : (r : Result (Unit {0}) NodeError) →
          Serves (record { stack = stack; plan = plan; words = node_words w.turns w.me w.patience w.mode }) a b r →
          RunsPlan stack plan w a b (end_of r)
      ended (Ok served) s = record { ready = is_ready; served = s }
      ended (Err Link) s = record { ready = is_ready; served = s }
      ended (Err Write) s = record { ready = is_ready; served = s }
      ended (Err Memory) s = inr (record { ready = is_ready; served = s })

-- the whole job
module _ (w : Node) (a : Around) (n : Beyond) (between : ℕ) (stack : List LayerTree) (plan : NodePlan)
    (f : IsStack w.file a.told a.reads between stack)
    (t : IsSpelled node_plan IsServable w.plan (option_map after_read a.told) between a.reads_after plan) where
  abbrev good : IsReady stack plan w.me → Good w a.told
  good ready = record {
    file = f.file;
    second = t.text;
    found = f.found;
    beside = t.found;
    node = record {
      stack = stack;
      means = f.means;
      plan = plan;
      spelled = t.spells;
      members = ready.members;
      room =
          ready.room;
    };
  }

  untouched : following a n ≡ before a n → Untouched n
  untouched same = record {
    faults = ap (λ b. b.around.faults) same;
    sends = ap (λ b. b.around.sends) same;
    told = ap (λ b. b.around.told) same;
    clock = ap (λ b. b.clock) same;
  }

  pub ran : (end : Ended) → RunsPlan stack plan w (before a n) (following a n) end → NodeComes w a n end
  ran done s = record { good = good s.ready; sound = t.sound ∙ f.sound; served = s.served }
  ran (second_refused fault) s = record {
    came = record {
      cause = record {
        file = f.file;
        second = t.text;
        found = f.found;
        beside = t.found;
        stack = stack;
        means = f.means;
        refused = ap (after_plan stack w.me) t.spells ∙ s.0;
      };
      sound = t.sound ∙ f.sound;
      untouched = ap (λ b. b.around.output) s.1;
    };
    untouched = untouched s.1;
  }
  ran write_failed s = record { good = good s.ready; sound = t.sound ∙ f.sound; served = s.served }
  ran link_failed s = record { good = good s.ready; sound = t.sound ∙ f.sound; served = s.served }
  ran no_memory (inl same) = inl (record { unwritten = ap (λ b. b.around.output) same; untouched = untouched same })
  ran no_memory (inr s) = inr (record { good = good s.ready; sound = t.sound ∙ f.sound; served = s.served })
  ran _ s = absurd s
