-- How many visits a run has.
use Rattle.std.proofs.Common.{◌≡◌, ℕ, zero, suc, ◌+◌, ◌≤◌, List, [], ◌∷◌, Bool, true, false, length, Ok, Err, Result}
use Rattle.std.proofs.Common.{Option, refl, arith, zero-add, subst}
use Rattle.std.specs.Prelude.{cond}
use Rattle.run_mean.specs.Mode.{Mode, layered, bypass}
use Rattle.layer_mean.specs.Queue.{Task, Work, advance, is_place, layers, run, run_for, unstarted_work}
use Rattle.layer_mean.specs.State.{State}
use Rattle.layer_mean.specs.Tree.{LayerTree}
use Rattle.layer_mean.specs.declared.run.Event.{Event}
use Rattle.run_mean.specs.Member.{Member, inside, out, Input, Entered, entered_input, Refusal, Step, step_from, Output}
use Rattle.run_mean.specs.Common.{is_common}
use Rattle.run_mean.specs.Report.{visit_count}
use Rattle.stack_mean.specs.Plan.{Plan}
use Rattle.view_core.specs.declared.step.Stepped.{Stepped}
use Rattle.view_core.specs.declared.step.Stepped.TheVariants.{Taken, Refused}
use Rattle.group_member.specs.Placed.{Placed, Steps, here_in, step_at, step_in}

-- a turn has at most one visit
turn_visits : (stack : List LayerTree) (t : Task Event) (rest : List (Task Event)) (w : Work) →
    (advance (length stack) (layers stack) t rest w).world.visits ≤ w.visits + 1
turn_visits stack t rest w = go (is_place (length stack) t.at) refl where
  go : (b : Bool) → is_place (length stack) t.at ≡ b →
      (advance (length stack) (layers stack) t rest w).world.visits ≤ w.visits + 1
  go true is = rw is (omega arith)
  go false is = rw is (omega arith)

-- so turns have at most as many
turns_visit : (n : ℕ) (stack : List LayerTree) (w : Work) (tasks : List (Task Event)) →
    (run_for (length stack) (layers stack) n (record { world = w; tasks = tasks })).world.visits ≤ w.visits + n
turns_visit zero stack w tasks = omega arith
turns_visit (suc n) stack w [] = omega arith
turns_visit (suc n) stack w (t ∷ rest) =
    let line = advance (length stack) (layers stack) t rest w in
    let more = turns_visit n stack line.world line.tasks in
    let one = turn_visits stack t rest w in
    omega (arith, more, one)

pub run_visits : (most : ℕ) (stack : List LayerTree) (states : List State) (first : Task Event) →
    (run most stack states first).world.visits ≤ most
unfolding run
run_visits most stack states first =
    let few = turns_visit most stack (unstarted_work states) (first ∷ []) in
    rw zero-add at few

-- a step counts for no more visits than it has
counted_few : (mode : Mode) (stack : List LayerTree) (plans : List Plan) (s : Step) →
    visit_count mode stack plans s ≤ s.work.visits
counted_few layered stack plans s = omega arith
counted_few bypass stack plans s = go (is_common stack plans s) where
  go : (common : Bool) → cond common 0 s.work.visits ≤ s.work.visits
  go true = omega arith
  go false = omega arith

-- a step of a member is one run
taken_visits : (p : Placed) (m : Member) (input : Input) (s : Step) → step_at p m input ≡ Ok s → s.work.visits ≤ 65536
taken_visits p out input s is = absurd (cc is)
taken_visits p (inside view states) input s is = go (entered_input p.stack p.plans (here_in p view) input) is where
  go : (e : Result Entered Refusal) → step_in p view states e ≡ Ok s → s.work.visits ≤ 65536
  go (Err reason) is = absurd (cc is)
  go (Ok what) is =
      let same : step_from p.stack (here_in p view) p.id states what ≡ s = cc is in
      subst (λ x. x.work.visits ≤ 65536) same (run_visits 65536 _ _ _)

pub step_visits : (p : Placed) (input : Input) (p' : Placed) (outs : List (Output × Option ℕ)) (before after : ℕ)
    (st : Stepped) →
    Steps p input p' outs before after st → after ≤ before + 65536
step_visits p input p' outs before after (Taken common change) is =
    let few = taken_visits p p.member input is.step is.is in
    let less = counted_few p.mode p.stack p.plans is.step in
    let sum = is.visits in
    omega (arith, few, less, sum)
step_visits p input p' outs before after (Refused reason) is = let same = is.visits in omega (arith, same)
