-- The run of a step ends.
use Rattle.std.proofs.Common.{◌≡◌, ℕ, List, [], ◌∷◌, length, map, Some, refl, ap, arith}
use Rattle.std.specs.List.{AllByRecursion}
use Rattle.std.proofs.lemmas.List.{length-map}
use Rattle.msg_core.specs.declared.packet.Dest.{Dest}
use Rattle.msg_core.specs.declared.packet.Dest.TheVariants as dest
use Rattle.layer_words.specs.declared.events.Dir.TheVariants.{Up}
use Rattle.layer_mean.specs.declared.run.Event.{Event}
use Rattle.layer_mean.specs.Tree.{LayerTree}
use Rattle.layer_mean.specs.Queue.{Task, Line, Work, layers, next_of, run_for, run, unstarted_work, starting}
use Rattle.packet_mean.specs.Plan.{kind_of}
use Rattle.run_mean.specs.Member.{Entered, app_cast, app_send, app_leave, clock_tick, from_peer, from_below, first_task}
use Rattle.run_mean.specs.Member.{output_of, most_turns}
use Rattle.chain_laws.specs.Runs.{TypedStack, IsChainedTask, IsChainedLine}
use Rattle.chain_laws.proofs.Lists.{each_so}
use Rattle.chain_laws.proofs.Runs.{turns_keep_chains, runs_keep_chains}
use Rattle.weight_laws.specs.Nodes.{IsKnown}
use Rattle.weight_laws.specs.Runs.{StaysKnown, Enters}
use Rattle.weight_laws.proofs.Runs.{runs_end}
use Rattle.chain_laws.proofs.Orderly.{typed_is_orderly, chained_is_known}
use Rattle.member_laws.specs.Steps.{ChainedTurns, ChainedLines, StepsEnd}
use Rattle.member_laws.proofs.Wires.{first_is}

known_all : (stack : List LayerTree) (tasks : List (Task Event)) → AllByRecursion (IsChainedTask stack) tasks →
    AllByRecursion (IsKnown stack) tasks
known_all stack tasks h = each_so (IsChainedTask stack) (IsKnown stack) (chained_is_known stack) tasks h

stays_known : (stack : List LayerTree) (r : Line Work Event) → TypedStack stack → IsChainedLine stack r →
    StaysKnown stack r
stays_known stack r typed h = λ k.
    known_all stack (run_for (length stack) (layers stack) k r).tasks (runs_keep_chains stack k r typed h).tasks

pub chained_turns : ChainedTurns
chained_turns stack w t rest typed no_cycle h = record {
  orderly = typed_is_orderly stack typed;
  no_cycle = no_cycle;
  before = known_all stack (t ∷ rest) h.tasks;
  following = known_all stack (next_of (length stack) (layers stack) (t ∷ rest) w).tasks
      (turns_keep_chains stack (record { world = w; tasks = t ∷ rest }) typed h).tasks;
}

pub chained_lines : ChainedLines
chained_lines stack r typed no_cycle h = record {
  orderly = typed_is_orderly stack typed;
  no_cycle = no_cycle;
  known = stays_known stack r typed h;
}

-- what enters does so at an edge
enters : (stack : List LayerTree) (me : ℕ) (what : Entered) →
    Enters stack (first_task stack me what).at (first_task stack me what).dir (first_task stack me what).event.kind
enters stack me (app_cast body) = refl
enters stack me (app_send to body) = refl
enters stack me app_leave = refl
enters stack me (clock_tick moment) = refl
enters stack me (from_peer p) = go p.dest where
  go : (to : Dest) → Enters stack 1 Up (from_below (kind_of to) (p.sender ∷ []) (Some p.message)).event.kind
  go dest.All = refl
  go (dest.Rank r) = refl

pub steps_end : StepsEnd
steps_end stack here id states what h accepts =
    let first : Task Event = first_task stack here.rank what in
    let line : IsChainedLine stack (starting (unstarted_work states) first) =
    record { states = h.states_are; outs = tt; tasks = (first_is stack here states what h, tt) } in
    let ends = runs_end stack states first record {
      orderly = typed_is_orderly stack h.typed;
      accepts = accepts;
      enters = enters stack here.rank what;
      known = stays_known stack (starting (unstarted_work states) first) h.typed line;
    } in
    let work : Work = (run most_turns stack states first).world in
    record {
      weight = ends.weight;
      joins = ends.joins;
      done = ends.done;
      enough = λ n le. ap (λ (r : Line Work Event). r.world) (ends.enough n le);
      turns =
          let count : length (map (output_of here) work.outs) ≡ length work.outs =
          length-map work.outs (output_of here) in
          omega (arith, ends.turns, count);
      made = ends.made;
    }
