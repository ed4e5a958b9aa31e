-- What a step sends fits its plans, and its bytes spell it.
use Rattle.std.proofs.Common.{ℕ, List, [], ◌∷◌, Option, arith}
use Rattle.std.specs.List.{AllByRecursion, filter_map}
use Rattle.layer_mean.specs.Tree.{LayerTree}
use Rattle.layer_mean.specs.State.{State}
use Rattle.packet_mean.specs.Spelling.{IsSpellable}
use Rattle.packet_mean.specs.declared.here.Here.{Here}
use Rattle.stack_mean.specs.Plan.{Plan}
use Rattle.stack_mean.specs.Plans.{plans_of}
use Rattle.run_mean.specs.Common.{plan_after, with_plans, short_from, as_sent}
use Rattle.run_mean.specs.Member.{Entered, Output, deliver_cast, deliver_send, block, announce, packet, nowhere, timer}
use Rattle.run_mean.specs.Member.{quiet, packet_in, first_task, step_from}
use Rattle.member_laws.specs.Fit.{WireSpells, IsBare}
use Rattle.member_laws.proofs.Fit.{predicted_packets_fit, short_wires_spell}
use Rattle.chain_laws.specs.Runs.{IsChainedTask}
use Rattle.member_laws.proofs.Members.{each_of, all_of, first_tasks_are_chained, steps_keep_chains}
use Rattle.member_laws.specs.Steps.{IsStep, PacketsFit, WireIsSpelled, WiresAreSpelled}
use Rattle.member_laws.proofs.Bare.{typed_runs_are_bare}

pub first_is : (stack : List LayerTree) (here : Here) (states : List State) (what : Entered) →
    IsStep stack here states what →
    IsChainedTask stack (first_task stack here.rank what)
first_is stack here states what h = first_tasks_are_chained stack here.rank what (omega (arith, h.at.rank)) h.input

step_bare : (stack : List LayerTree) (here : Here) (states : List State) (what : Entered) →
    IsStep stack here states what →
    IsBare stack here states what
step_bare stack here states what h = λ case.
    typed_runs_are_bare case stack states (first_task stack here.rank what) h.typed h.states_are
    (first_is stack here states what h)

pub packets_fit : PacketsFit
packets_fit mode stack here id states what h = predicted_packets_fit mode stack here id states what
    (step_bare stack here states what h)

-- what can be spelled is
spelled : (stack : List LayerTree) (plans : List Plan) (next : Option ℕ) (outputs : List Output) →
    AllByRecursion (IsSpellable stack) (filter_map packet_in outputs) →
    AllByRecursion (WireSpells stack plans) (with_plans plans next outputs) →
    AllByRecursion (WireIsSpelled stack plans) (with_plans plans next outputs)
spelled stack plans next [] h i = tt
spelled stack plans next (packet p ∷ outputs) h i =
    (i.0 h.0, spelled stack plans (plan_after next (packet p)) outputs h.1 i.1)
spelled stack plans next (deliver_cast peer body ∷ outputs) h i = (tt, spelled stack plans _ outputs h i.1)
spelled stack plans next (deliver_send peer body ∷ outputs) h i = (tt, spelled stack plans _ outputs h i.1)
spelled stack plans next (block n ∷ outputs) h i = (tt, spelled stack plans _ outputs h i.1)
spelled stack plans next (announce n ∷ outputs) h i = (tt, spelled stack plans _ outputs h i.1)
spelled stack plans next (nowhere ∷ outputs) h i = (tt, spelled stack plans _ outputs h i.1)
spelled stack plans next (timer n ∷ outputs) h i = (tt, spelled stack plans _ outputs h i.1)
spelled stack plans next (quiet dir e ∷ outputs) h i = (tt, spelled stack plans _ outputs h i.1)

pub wires_are_spelled : WiresAreSpelled
wires_are_spelled mode stack here id states what h =
    let s = step_from stack here id states what in
    let sent = as_sent mode stack (plans_of stack) s in
    all_of (WireIsSpelled stack (plans_of stack)) sent
    (spelled stack (plans_of stack) (short_from mode stack (plans_of stack) s) s.outputs
    (steps_keep_chains stack here id states what h.typed h.at h.states_are h.input).packets
    (each_of (WireSpells stack (plans_of stack)) sent
    (short_wires_spell mode stack here id states what (step_bare stack here states what h))))
