-- How many sendings an event has, and how many of them are lost.
use Rattle.std.proofs.Common.{◌≡◌, ℕ, ◌+◌, ◌≤◌, Bool, List, [], ◌∷◌, length, take, drop, refl, sym, ap, ◌∙◌}
use Rattle.std.proofs.Common.{length-append, arith, Option, None}
use Rattle.std.proofs.lemmas.List.{length-map, length-replicate, take-append-drop, length-drop}
use Rattle.std.specs.List.{flat_map}
use Rattle.std.specs.Prelude.{replicate}
use Rattle.layer_mean.specs.Tree.{LayerTree}
use Rattle.script_mean.specs.Event.{member_of}
use Rattle.script_mean.specs.declared.event.ScriptEvent.{ScriptEvent}
use Rattle.stack_mean.specs.Plan.{Plan}
use Rattle.run_mean.specs.Mode.{Mode}
use Rattle.run_mean.specs.Common.{as_sent, plan_after, short_from, with_plans}
use Rattle.run_mean.specs.Journal.{handed_in, handed_output, receivers}
use Rattle.run_mean.specs.Member.{Output, deliver_cast, deliver_send, block, announce, packet, nowhere, timer, quiet}
use Rattle.run_mean.specs.Report.{number_following}
use Rattle.run_mean.specs.World.{World, Did, taken, refused, absent, shown, happens}
use Rattle.node_laws.specs.Losses.{event_losses, event_sends, failures_in, fan, first_in, losses, losses_in}
use Rattle.node_laws.proofs.Sendings.{failures_append}

-- To how many members outputs go.
abbrev pub fans : ℕ → List (Output × Option ℕ) → ℕ
fans id [] = 0
fans id (o ∷ outs) = fan id o.0 + fans id outs

pub output_fan : (plans : List Plan) (id : ℕ) (o : Output) (plan : Option ℕ) →
    length (handed_output plans id (o, plan)) ≡ fan id o
output_fan plans id (packet p) plan = length-map (receivers id p.view p.dest) _
output_fan plans id (deliver_cast peer body) plan = refl
output_fan plans id (deliver_send peer body) plan = refl
output_fan plans id (block a) plan = refl
output_fan plans id (announce a) plan = refl
output_fan plans id nowhere plan = refl
output_fan plans id (timer a) plan = refl
output_fan plans id (quiet dir event) plan = refl

pub outputs_fan : (plans : List Plan) (id : ℕ) (outs : List (Output × Option ℕ)) →
    length (flat_map (handed_output plans id) outs) ≡ fans id outs
outputs_fan plans id [] = refl
outputs_fan plans id (o ∷ outs) =
    length-append (handed_output plans id o) (flat_map (handed_output plans id) outs)
    ∙ ap (λ n. n + length (flat_map (handed_output plans id) outs)) (output_fan plans id o.0 o.1)
    ∙ ap (λ n. fan id o.0 + n) (outputs_fan plans id outs)

-- To how many they go depends on no plan.
fans_hang_on_no_plan : (plans : List Plan) (id : ℕ) (next other : Option ℕ) (outputs : List Output) →
    fans id (with_plans plans next outputs) ≡ fans id (with_plans plans other outputs)
fans_hang_on_no_plan plans id next other [] = refl
fans_hang_on_no_plan plans id next other (o ∷ outputs) =
    ap (λ n. fan id o + n) (fans_hang_on_no_plan plans id (plan_after next o) (plan_after other o) outputs)

-- As many are lost as failed.
pub losses_are : (id k : ℕ) (outs : List (Output × Option ℕ)) (failed : List Bool) → length failed ≤ fans id outs →
    length (losses id k outs failed) ≡ failures_in failed
losses_are id k [] [] few = refl
losses_are id k [] (x ∷ failed) few = absurd (omega (arith, few))
losses_are id k (o ∷ outs) failed few =
    let f = fan id o.0 in
    let left : length (drop f failed) ≤ fans id outs = (let d = length-drop f failed in omega (arith, few, d)) in
    length-append (replicate (failures_in (take f failed)) k) (losses id (number_following k o.0) outs (drop f failed))
    ∙ ap (λ n. n + length (losses id (number_following k o.0) outs (drop f failed)))
    (length-replicate (failures_in (take f failed)) k)
    ∙ ap (λ n. failures_in (take f failed) + n) (losses_are id (number_following k o.0) outs (drop f failed) left)
    ∙ sym (failures_append (take f failed) (drop f failed))
    ∙ ap failures_in (take-append-drop f failed)

pub event_losses_are : (mode : Mode) (stack : List LayerTree) (plans : List Plan) (w : World) (event : ScriptEvent)
    (failed : List Bool) →
    length failed ≤ length (event_sends mode stack plans w event) → length (event_losses stack plans w event failed) ≡
    failures_in failed
event_losses_are mode stack plans w event failed = go (happens stack plans w event).did where
  none : (failed : List Bool) → length failed ≤ 0 → 0 ≡ failures_in failed
  none [] few = refl
  none (x ∷ failed) few = absurd (omega (arith, few))

  go : (d : Did) → length failed ≤ length (handed_in mode stack plans (member_of event) d) →
      length (losses_in plans w event d failed) ≡ failures_in failed
  go (taken s) few =
      let n = outputs_fan plans (member_of event) (as_sent mode stack plans s) in
      let same = fans_hang_on_no_plan plans (member_of event) (short_from mode stack plans s) None s.outputs in
      losses_are (member_of event) (first_in w) (with_plans plans None s.outputs) failed (omega (arith, few, n, same))
  go (refused r) few = none failed few
  go absent few = none failed few
  go shown few = none failed few
