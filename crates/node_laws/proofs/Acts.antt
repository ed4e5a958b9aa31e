-- What is written and handed on in acts.
use Rattle.std.proofs.Common.{◌≡◌, ℕ, suc, ◌≤◌, Bool, true, false, List, [], ◌∷◌, ◌++◌, length, map, take, drop, refl}
use Rattle.std.proofs.Common.{sym, ap, ◌∙◌, append_assoc, append-nil, arith, Option, None}
use Rattle.std.proofs.lemmas.List.{length-take}
use Rattle.std.proofs.lemmas.List.Elements.{filter_map-append}
use Rattle.std.specs.List.{flat_map}
use Rattle.std.specs.Prelude.{replicate, option_to_list}
use Rattle.layer_mean.specs.Tree.{LayerTree}
use Rattle.script_mean.specs.Event.{member_of}
use Rattle.script_mean.specs.declared.event.ScriptEvent.{ScriptEvent}
use Rattle.stack_mean.specs.Plan.{Plan}
use Rattle.run_mean.specs.Mode.{Mode}
use Rattle.run_mean.specs.Common.{as_sent, plan_after, short_from, with_plans}
use Rattle.run_mean.specs.Journal.{Handed, handed_in, handed_output}
use Rattle.run_mean.specs.Member.{Output}
use Rattle.run_mean.specs.Report.{installed_line, lines_of, member_lines, number_following, output_lines}
use Rattle.run_mean.specs.World.{World, Did, taken, refused, absent, shown, happens, member_at}
use Rattle.node_laws.specs.Acts.{Act, puts, acts_of, did_acts, event_acts, line_in, lines_in, lost_acts, output_acts}
use Rattle.node_laws.specs.Acts.{outputs_acts, send_in, sending_acts, sends_in}
use Rattle.node_laws.specs.Doings.{Doing, does, asks, bears, events_of}
use Rattle.node_laws.specs.Losses.{following, deaf_line, event_lines, event_sends, failures_in, fan, first_in, first_of}
use Rattle.node_laws.specs.Losses.{journal_line, lossy_lines, lost_line, moment_at, sends_of, written_of}
use Rattle.node_laws.proofs.Fans.{output_fan}
use Rattle.node_laws.proofs.Sendings.{failures_append}

pub lines_append : (xs ys : List Act) → lines_in (xs ++ ys) ≡ lines_in xs ++ lines_in ys
lines_append xs ys = filter_map-append line_in xs ys

pub sends_append : (xs ys : List Act) → sends_in (xs ++ ys) ≡ sends_in xs ++ sends_in ys
sends_append xs ys = filter_map-append send_in xs ys

-- Lines alone.
pub puts_lines : (lines : List (List ℕ)) → lines_in (map puts lines) ≡ lines
puts_lines [] = refl
puts_lines (line ∷ lines) = ap (λ ls. line ∷ ls) (puts_lines lines)

pub puts_none : (lines : List (List ℕ)) → sends_in (map puts lines) ≡ []
puts_none [] = refl
puts_none (line ∷ lines) = puts_none lines

-- Sendings alone.
lost_sends : (k : ℕ) (failed : List Bool) → sends_in (lost_acts k failed) ≡ []
lost_sends k [] = refl
lost_sends k (true ∷ failed) = refl
lost_sends k (false ∷ failed) = refl

pub sending_sends : (k : ℕ) (handed : List Handed) (failed : List Bool) → sends_in (sending_acts k handed failed) ≡
    handed
sending_sends k [] failed = refl
sending_sends k (h ∷ handed) failed =
    ap (λ hs. h ∷ hs) (sends_append (lost_acts k failed) (sending_acts k handed (drop 1 failed))
    ∙ ap (λ hs. hs ++ sends_in (sending_acts k handed (drop 1 failed))) (lost_sends k failed)
    ∙ sending_sends k handed (drop 1 failed))

pub sending_lines : (k : ℕ) (handed : List Handed) (failed : List Bool) → length failed ≤ length handed →
    lines_in (sending_acts k handed failed) ≡ replicate (failures_in failed) (lost_line k)
sending_lines k [] [] few = refl
sending_lines k [] (x ∷ failed) few = absurd (omega (arith, few))
sending_lines k (h ∷ handed) [] few = sending_lines k handed [] (omega arith)
sending_lines k (h ∷ handed) (x ∷ failed) few =
    lines_append (lost_acts k (x ∷ failed)) (sending_acts k handed failed)
    ∙ ap (λ ls. lines_in (lost_acts k (x ∷ failed)) ++ ls) (sending_lines k handed failed (omega (arith, few)))
    ∙ one x where
      one : (x : Bool) → lines_in (lost_acts k (x ∷ failed)) ++ replicate (failures_in failed) (lost_line k)
          ≡ replicate (failures_in (x ∷ failed)) (lost_line k)
      one true = let e = failures_append (true ∷ []) failed in
          let n : suc (failures_in failed) ≡ failures_in (true ∷ failed) = omega (arith, e) in
          ap (λ n. replicate n (lost_line k)) n
      one false = let e = failures_append (false ∷ []) failed in
          let n : failures_in failed ≡ failures_in (false ∷ failed) = omega (arith, e) in
          ap (λ n. replicate n (lost_line k)) n

-- Outputs.
module _ (stack : List LayerTree) (plans : List Plan) (id : ℕ) where
  pub output_lines_are : (k : ℕ) (o : Output × Option ℕ) (failed : List Bool) → length failed ≤ fan id o.0 →
      lines_in (output_acts stack plans id k o failed) ≡ output_lines stack id k o.0 ++
      replicate (failures_in failed) (lost_line k)
  output_lines_are k o failed few =
      let n = output_fan plans id o.0 o.1 in
      lines_append (map puts (output_lines stack id k o.0)) (sending_acts k (handed_output plans id o) failed)
      ∙ ap (λ ls. ls ++ lines_in (sending_acts k (handed_output plans id o) failed))
      (puts_lines (output_lines stack id k o.0))
      ∙ ap (λ ls. output_lines stack id k o.0 ++ ls)
      (sending_lines k (handed_output plans id o) failed (omega (arith, few, n)))

  pub output_sends_are : (k : ℕ) (o : Output × Option ℕ) (failed : List Bool) →
      sends_in (output_acts stack plans id k o failed) ≡ handed_output plans id o
  output_sends_are k o failed =
      sends_append (map puts (output_lines stack id k o.0)) (sending_acts k (handed_output plans id o) failed)
      ∙ ap (λ hs. hs ++ sends_in (sending_acts k (handed_output plans id o) failed))
      (puts_none (output_lines stack id k o.0))
      ∙ sending_sends k (handed_output plans id o) failed

  pub outputs_lines_are : (k : ℕ) (outs : List (Output × Option ℕ)) (failed : List Bool) →
      lines_in (outputs_acts stack plans id k outs failed) ≡ lossy_lines stack id k outs failed
  outputs_lines_are k [] failed = refl
  outputs_lines_are k (o ∷ outs) failed =
      let n = length-take (fan id o.0) failed in
      lines_append (output_acts stack plans id k o (take (fan id o.0) failed))
      (outputs_acts stack plans id (number_following k o.0) outs (drop (fan id o.0) failed))
      ∙ ap (λ ls. ls ++ lines_in (outputs_acts stack plans id (number_following k o.0) outs (drop (fan id o.0) failed)))
      (output_lines_are k o (take (fan id o.0) failed) (omega (arith, n)))
      ∙ ap (λ ls. output_lines stack id k o.0 ++ replicate (failures_in (take (fan id o.0) failed)) (lost_line k) ++ ls)
      (outputs_lines_are (number_following k o.0) outs (drop (fan id o.0) failed))

  pub outputs_sends_are : (k : ℕ) (outs : List (Output × Option ℕ)) (failed : List Bool) →
      sends_in (outputs_acts stack plans id k outs failed) ≡ flat_map (handed_output plans id) outs
  outputs_sends_are k [] failed = refl
  outputs_sends_are k (o ∷ outs) failed =
      sends_append (output_acts stack plans id k o (take (fan id o.0) failed))
      (outputs_acts stack plans id (number_following k o.0) outs (drop (fan id o.0) failed))
      ∙ ap (λ hs. hs ++ sends_in (outputs_acts stack plans id (number_following k o.0) outs (drop (fan id o.0) failed)))
      (output_sends_are k o (take (fan id o.0) failed))
      ∙ ap (λ hs. handed_output plans id o ++ hs)
      (outputs_sends_are (number_following k o.0) outs (drop (fan id o.0) failed))

-- The lines of outputs show no plan.
lines_show_no_plan : (stack : List LayerTree) (plans : List Plan) (id k : ℕ) (next other : Option ℕ)
    (outputs : List Output) (failed : List Bool) →
    lossy_lines stack id k (with_plans plans next outputs) failed ≡
    lossy_lines stack id k (with_plans plans other outputs) failed
lines_show_no_plan stack plans id k next other [] failed = refl
lines_show_no_plan stack plans id k next other (o ∷ outputs) failed =
    ap (λ ls. output_lines stack id k o ++ replicate (failures_in (take (fan id o) failed)) (lost_line k) ++ ls)
    (lines_show_no_plan stack plans id (number_following k o) (plan_after next o) (plan_after other o) outputs
    (drop (fan id o) failed))

-- Events.
module _ (mode : Mode) (stack : List LayerTree) (plans : List Plan) where
  did_lines_are : (w : World) (event : ScriptEvent) (d : Did) (failed : List Bool) →
      lines_in (did_acts mode stack plans w event d failed)
      ≡ lines_of stack (λ s. lossy_lines stack (member_of event) (first_in w) (with_plans plans None s.outputs) failed)
      (moment_at stack plans w event) d
  did_lines_are w event (taken s) failed =
      let id = member_of event in
      let installed = map (installed_line id) (option_to_list s.installs) in
      let outs = as_sent mode stack plans s in
      lines_append (outputs_acts stack plans id (first_in w) outs failed) (map puts installed)
      ∙ ap (λ ls. ls ++ lines_in (map puts installed)) (outputs_lines_are stack plans id (first_in w) outs failed
      ∙ lines_show_no_plan stack plans id (first_in w) (short_from mode stack plans s) None s.outputs failed)
      ∙ ap (λ ls. lossy_lines stack id (first_in w) (with_plans plans None s.outputs) failed ++ ls)
      (puts_lines installed)
  did_lines_are w event (refused r) failed = refl
  did_lines_are w event absent failed = refl
  did_lines_are w event shown failed = puts_lines (member_lines stack (member_of event) (member_at w (member_of event)))

  did_sends_are : (w : World) (event : ScriptEvent) (d : Did) (failed : List Bool) →
      sends_in (did_acts mode stack plans w event d failed) ≡ handed_in mode stack plans (member_of event) d
  did_sends_are w event (taken s) failed =
      let id = member_of event in
      let installed = map (installed_line id) (option_to_list s.installs) in
      let outs = as_sent mode stack plans s in
      sends_append (outputs_acts stack plans id (first_in w) outs failed) (map puts installed)
      ∙ ap (λ hs. hs ++ sends_in (map puts installed)) (outputs_sends_are stack plans id (first_in w) outs failed)
      ∙ ap (λ hs. flat_map (handed_output plans id) outs ++ hs) (puts_none installed)
      ∙ append-nil (flat_map (handed_output plans id) outs)
  did_sends_are w event (refused r) failed = refl
  did_sends_are w event absent failed = refl
  did_sends_are w event shown failed = puts_none (member_lines stack (member_of event) (member_at w (member_of event)))

  pub event_lines_are : (w : World) (event : ScriptEvent) (failed : List Bool) →
      lines_in (event_acts mode stack plans w event failed) ≡ event_lines stack plans w event failed
  event_lines_are w event failed =
      ap (λ ls. journal_line event ∷ ls) (did_lines_are w event (happens stack plans w event).did failed)

  pub event_sends_are : (w : World) (event : ScriptEvent) (failed : List Bool) →
      sends_in (event_acts mode stack plans w event failed) ≡ event_sends mode stack plans w event
  event_sends_are w event failed = did_sends_are w event (happens stack plans w event).did failed

  pub acts_lines_are : (w : World) (doings : List Doing) (failed : List (List Bool)) →
      lines_in (acts_of mode stack plans w doings failed) ≡ written_of stack plans w doings failed
  acts_lines_are w [] failed = refl
  acts_lines_are w (does event ∷ doings) failed =
      let on = (happens stack plans w event).world in
      lines_append (event_acts mode stack plans w event (first_of failed))
      (acts_of mode stack plans on doings (drop 1 failed))
      ∙ ap (λ ls. ls ++ lines_in (acts_of mode stack plans on doings (drop 1 failed)))
      (event_lines_are w event (first_of failed))
      ∙ ap (λ ls. event_lines stack plans w event (first_of failed) ++ ls) (acts_lines_are on doings (drop 1 failed))
  acts_lines_are w (asks id heard ∷ doings) failed = acts_lines_are w doings failed
  acts_lines_are w (bears id ∷ doings) failed = ap (λ ls. deaf_line id ∷ ls) (acts_lines_are w doings failed)

  pub acts_sends_are : (w : World) (doings : List Doing) (failed : List (List Bool)) →
      sends_in (acts_of mode stack plans w doings failed) ≡ sends_of mode stack plans w doings
  acts_sends_are w [] failed = refl
  acts_sends_are w (does event ∷ doings) failed =
      let on = (happens stack plans w event).world in
      sends_append (event_acts mode stack plans w event (first_of failed))
      (acts_of mode stack plans on doings (drop 1 failed))
      ∙ ap (λ hs. hs ++ sends_in (acts_of mode stack plans on doings (drop 1 failed)))
      (event_sends_are w event (first_of failed))
      ∙ ap (λ hs. event_sends mode stack plans w event ++ hs) (acts_sends_are on doings (drop 1 failed))
  acts_sends_are w (asks id heard ∷ doings) failed = acts_sends_are w doings failed
  acts_sends_are w (bears id ∷ doings) failed = acts_sends_are w doings failed

  -- The acts of two parts are those of each, where it is told which sendings failed of each event of the first.
  pub acts_append : (w : World) (xs ys : List Doing) (f g : List (List Bool)) → length f ≡ length (events_of xs) →
      acts_of mode stack plans w (xs ++ ys) (f ++ g) ≡ acts_of mode stack plans w xs f ++
      acts_of mode stack plans (following stack plans w xs) ys g
  acts_append w [] ys [] g is = refl
  acts_append w [] ys (x ∷ f) g is = absurd (cc is)
  acts_append w (does event ∷ xs) ys [] g is = absurd (cc is)
  acts_append w (does event ∷ xs) ys (x ∷ f) g is =
      let on = (happens stack plans w event).world in
      ap (λ ls. event_acts mode stack plans w event x ++ ls) (acts_append on xs ys f g (omega (arith, is)))
      ∙ sym (append_assoc (event_acts mode stack plans w event x) (acts_of mode stack plans on xs f)
      (acts_of mode stack plans (following stack plans on xs) ys g))
  acts_append w (asks id heard ∷ xs) ys f g is = acts_append w xs ys f g is
  acts_append w (bears id ∷ xs) ys f g is = ap (λ ls. puts (deaf_line id) ∷ ls) (acts_append w xs ys f g is)
